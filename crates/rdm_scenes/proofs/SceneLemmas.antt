-- The runs in a log over a simulated line are those of an honest line.
use Rattle.std.proofs.Common.{◌≡◌, ◌≢◌, ℕ, zero, suc, true, List, [], ◌∷◌, ◌++◌, map, length, replicate, Some, None}
use Rattle.std.proofs.Common.{refl, sym, ap, ◌∙◌, subst, slice_get, inl, inr}
use Rattle.std.specs.List.{AllByRecursion}
use Rattle.std.proofs.lemmas.List.{length-map}
use Rattle.rdm_wire.specs.Lists.{EachAfter}
use Rattle.rdm_wire.specs.Uid.{has}
use Rattle.rdm_wire.specs.Honest.{Seen, HonestTrace}
use Rattle.rdm_wire.specs.Honest.Heard.{Failed}
use Rattle.rdm_wire.specs.HonestOver.{HonestOver}
use Rattle.rdm_wire.proofs.HonestOverLemmas.{trace-over}
use Rattle.rdm_join.specs.Exchange.{seen_event}
use Rattle.rdm_agent.specs.Statements.{IsInEach, IsInOne}
use Rattle.rdm_line.specs.Events.{Exchange, Makes}
use Rattle.rdm_line.specs.Scenes.{Stays, present_at, uids_of_scene}
use Rattle.rdm_line.specs.Sim.{SimState, SimStep}
use Rattle.rdm_line.specs.SimSteps.{Step, NoFiveSuccessive, KeepsScene, present_in, seen_in}
use Rattle.rdm_line.proofs.KeepsLemmas.{run_keeps, each_keeps, made_run, run_sound}
use Rattle.rdm_line.proofs.HonestRuns.{honest_run}
use Rattle.rdm_line.proofs.LossLemmas.{few_losses}
use Rattle.rdm_line.proofs.PresenceLemmas.{all_present}
use Rattle.rdm_log.specs.declared.entry.Opening.{Opening}
use Rattle.rdm_log.specs.declared.entry.Entry.{Entry}
use Rattle.rdm_log.specs.log.Runs.{run_exchanges}
use Rattle.rdm_log.specs.log.LogState.{LogState}
use Rattle.rdm_log.specs.log.Legal.{MayFollow}
use Rattle.rdm_log.specs.promises.Discoveries.{AnswersReportTheLine}
use Rattle.rdm_log.proofs.PromiseLemmas.AnswersReportTheLine.{all_report_the_line}
use Rattle.rdm_log.specs.log.Entries.{exchanges}
use Rattle.rdm_scenes.specs.Scenes.{IsLossyScene, IsStayingScene}
use Rattle.rdm_scenes.specs.Reports.{IsLogOver, IsHonestRun, AnswersAreTheDevices, AnswersFollowTheDevices}
use Rattle.rdm_scenes.proofs.PartLemmas.{run_part}

-- what a line makes, and then makes more
pub makes_join : {L : Type 0} (step : L → Exchange → L → Type 0) (xs ys : List Exchange) (a b d : L)
    → Makes L step a xs b → Makes L step b ys d → Makes L step a (xs ++ ys) d
makes_join step [] ys a b d first second = subst (λ (l : _). Makes _ step l ys d) first second
makes_join step (x ∷ xs) ys a b d first second = (first.0, first.1, makes_join step xs ys first.0 b d first.2 second)

-- the steps of a line in parts
makes_split : {L : Type 0} (step : L → Exchange → L → Type 0) (xs ys : List Exchange) (a d : L)
    → Makes L step a (xs ++ ys) d → (b : L) × Makes L step a xs b × Makes L step b ys d
makes_split step [] ys a d m = (a, refl, m)
makes_split step (x ∷ xs) ys a d m = let rest = makes_split step xs ys m.0 d m.2 in (rest.0, (m.0, m.1, rest.1), rest.2)

-- the exchanges of a run, with the devices present at each
pub record HonestRunOf (s : SimState) (x : List Seen) : Type 0 where
  pub steps : List Step
  pub keeps : AllByRecursion (λ (y : Step). (i : ℕ) → present_at y.before.devices i ≡ present_at s.devices i) steps
  pub seen : map seen_in steps ≡ x
  pub honest : HonestOver (map present_in steps) x
  pub sound : s.fails ≡ [] → AllByRecursion (λ (y : Step). (seen_in y).heard ≢ Failed) steps

each_present : (s first : SimState) (ys : List Step) → KeepsScene s first
    → AllByRecursion (λ (y : Step). KeepsScene first y.before) ys
    → AllByRecursion (λ (y : Step). (i : ℕ) → present_at y.before.devices i ≡ present_at s.devices i) ys
each_present s first [] k all = tt
each_present s first (y ∷ ys) k all = ((λ i. all.0.present i ∙ k.present i), each_present s first ys k all.1)

seen_steps : (ys : List Step) → map seen_in ys ≡ map seen_event (map (λ (y : Step). y.exchange) ys)
seen_steps [] = refl
seen_steps (y ∷ ys) = ap (λ (xs : List Seen). seen_event y.exchange ∷ xs) (seen_steps ys)

honest_part : (s t : SimState) (before during after : List Exchange) → NoFiveSuccessive s.losses
    → Makes SimState SimStep s (before ++ (during ++ after)) t → HonestRunOf s (map seen_event during)
honest_part s t before during after few made =
    let first = makes_split SimStep before (during ++ after) s t made in
    let second = makes_split SimStep during after first.0 t first.2 in
    let earlier = made_run s first.0 before first.1 in
    let kept : KeepsScene s first.0 = run_keeps s first.0 earlier.0 earlier.1 in
    let run = made_run first.0 second.0 during second.1 in
    let seen : map seen_in run.0 ≡ map seen_event during = seen_steps run.0 ∙ ap (map seen_event) run.2 in
    record {
      steps = run.0;
      keeps = each_present s first.0 run.0 kept (each_keeps first.0 second.0 run.0 run.1);
      seen = seen;
      sound = λ none. run_sound first.0 second.0 run.0 run.1 (kept.fails ∙ none);
      honest = subst (HonestOver (map present_in run.0)) seen
          (honest_run first.0 second.0 run.0 run.1
          (few_losses first.0 second.0 run.0 run.1 (subst NoFiveSuccessive (sym kept.losses) few)));
    }

pub honest_in_log : (o : Opening) (h : List Entry) (s t : SimState) (r : ℕ) → EachAfter (MayFollow o) h
    → NoFiveSuccessive s.losses → Makes SimState SimStep s (exchanges h) t → HonestRunOf s (run_exchanges r h)
honest_in_log o h s t r each few made =
    let part = run_part o h each r in
    subst (HonestRunOf s) (sym part.own)
    (honest_part s t part.before part.during part.after few
    (subst (λ (xs : List Exchange). Makes SimState SimStep s xs t) part.whole made))

-- if the devices stay
same_sets : (s : SimState) (ys : List Step) → AllByRecursion Stays s.devices
    → AllByRecursion (λ (y : Step). (i : ℕ) → present_at y.before.devices i ≡ present_at s.devices i) ys
    → map present_in ys ≡ replicate (length ys) (uids_of_scene s.devices)
same_sets s [] stay all = refl
same_sets s (y ∷ ys) stay all =
    cons (all.0 y.before.exchanges ∙ all_present s.devices y.before.exchanges stay) (same_sets s ys stay all.1)
  where
    cons : {p q : List ℕ} {ps qs : List (List ℕ)} → p ≡ q → ps ≡ qs → p ∷ ps ≡ q ∷ qs
    cons a b = rw (a, b) refl

pub staying_trace : (s : SimState) (x : List Seen) → IsStayingScene s → HonestRunOf s x
    → HonestTrace (uids_of_scene s.devices) x
staying_trace s x is run =
    (trace-over (uids_of_scene s.devices) x is.lossy.scene.uids).1
    (subst (λ (n : ℕ). HonestOver (replicate n (uids_of_scene s.devices)) x)
    (sym (length-map run.steps seen_in) ∙ ap length run.seen)
    (subst (λ (sets : List (List ℕ)). HonestOver sets x) (same_sets s run.steps is.stay run.keeps) run.honest))

-- the index of an entry
pub split_at : {X : Type 0} (xs : List X) (i : ℕ) (x : X) → slice_get xs i ≡ Some x → (front : List X) × (back : List X)
    × (xs ≡ front ++ x ∷ back)
split_at [] i x e = absurd (no_item e)
  where
    no_item : None ≡ Some x → ⊥
    no_item e = cc
split_at (y ∷ xs) zero x e = let same : y ≡ x = cc in ([], xs, ap (λ (z : _). z ∷ xs) same)
split_at (y ∷ xs) (suc i) x e =
    let rest = split_at xs i x e in (y ∷ rest.0, rest.1, ap (λ (zs : List _). y ∷ zs) rest.2)

-- those that are always there, and none that never is
in_each : (s : SimState) (u : ℕ) (ys : List Step)
    → AllByRecursion (λ (y : Step). (i : ℕ) → present_at y.before.devices i ≡ present_at s.devices i) ys
    → ((i : ℕ) → has (present_at s.devices i) u ≡ true) → IsInEach u (map present_in ys)
in_each s u [] all always = tt
in_each s u (y ∷ ys) all always =
    (ap (λ (us : List ℕ). has us u) (all.0 y.before.exchanges) ∙ always y.before.exchanges, in_each s u ys all.1 always)

in_one : (s : SimState) (u : ℕ) (ys : List Step)
    → AllByRecursion (λ (y : Step). (i : ℕ) → present_at y.before.devices i ≡ present_at s.devices i) ys
    → IsInOne u (map present_in ys) → (i : ℕ) × (has (present_at s.devices i) u ≡ true)
in_one s u [] all one = absurd one
in_one s u (y ∷ ys) all (inl here) =
    (y.before.exchanges, sym (ap (λ (us : List ℕ). has us u) (all.0 y.before.exchanges)) ∙ here)
in_one s u (y ∷ ys) all (inr later) = in_one s u ys all.1 later

-- the runs of a log
module _ (s t : SimState) (k : LogState) (over : IsLogOver s t k) where
  line : AnswersReportTheLine k.opening k.entries
  line = all_report_the_line k.opening k.entries over.legal

  pub run_of : IsLossyScene s → (r : ℕ) → HonestRunOf s (run_exchanges r k.entries)
  run_of is r = honest_in_log k.opening k.entries s t r over.legal.each is.few_losses over.steps

  pub trace_of : IsStayingScene s → (r : ℕ) → HonestTrace (uids_of_scene s.devices) (run_exchanges r k.entries)
  trace_of is r = staying_trace s (run_exchanges r k.entries) is (run_of is.lossy r)

  present_each : (ys : List Step)
      → AllByRecursion (λ (y : Step). (i : ℕ) → present_at y.before.devices i ≡ present_at s.devices i) ys
      → AllByRecursion (λ (set : List ℕ). (i : ℕ) × (set ≡ present_at s.devices i)) (map present_in ys)
  present_each [] all = tt
  present_each (y ∷ ys) all = ((y.before.exchanges, all.0 y.before.exchanges), present_each ys all.1)

  pub honest_of : IsLossyScene s → (r : ℕ) → IsHonestRun s (run_exchanges r k.entries)
  honest_of is r =
      let run = run_of is r in
      record { sets = map present_in run.steps; honest = run.honest; present = present_each run.steps run.keeps }

  pub are_the_devices : IsStayingScene s → AnswersAreTheDevices s k
  are_the_devices is = record {
    exactly = λ front back n r whole. line.exactly front back n r (uids_of_scene s.devices) whole (trace_of is r);
    known = λ r last. line.known r (uids_of_scene s.devices) last (trace_of is r);
  }

  pub follow_the_devices : IsLossyScene s → AnswersFollowTheDevices s k
  follow_the_devices is = record {
    staying = λ front back n r u whole always. let run = run_of is r in
        line.staying front back n r (map present_in run.steps) u whole run.honest
        (in_each s u run.steps run.keeps always);
    no_stranger =
        λ front back n r fault u whole there. let run = run_of is r in
        in_one s u run.steps run.keeps
        (line.no_stranger front back n r fault (map present_in run.steps) u whole run.honest there);
  }
