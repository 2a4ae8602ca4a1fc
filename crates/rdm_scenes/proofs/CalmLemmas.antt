-- On a simulated line that doesn't fail, whose devices stay, no discovery has a fault unless the queue was closed.
use Rattle.std.proofs.Common.{◌≡◌, ◌≢◌, ℕ, zero, suc, ◌≤◌, Bool, true, false, List, [], ◌∷◌, ◌++◌, map, length, get_or}
use Rattle.std.proofs.Common.{Option, Some, None, refl, sym, ap, ◌∙◌, subst, inl, inr, append-nil, append_assoc, arith}
use Rattle.std.specs.Prelude.{◌⊎◌}
use Rattle.std.specs.List.{AllByRecursion, Contains, before_first}
use Rattle.std.proofs.lemmas.Bool.{cases_Bool}
use Rattle.std.proofs.lemmas.List.{length-map}
use Rattle.std.proofs.lemmas.Option.{slice_get-get_or}
use Rattle.rdm_wire.specs.Lists.{EachAfter}
use Rattle.rdm_wire.specs.Devices.{uids_of}
use Rattle.rdm_wire.specs.declared.device.Device.{Device}
use Rattle.rdm_wire.specs.Honest.{Seen, HonestTrace}
use Rattle.rdm_wire.specs.Honest.Heard.{Failed}
use Rattle.rdm_agent.specs.Bound.{IsCalm, enough_by}
use Rattle.rdm_agent.specs.Certificate.{known_of}
use Rattle.rdm_agent.specs.declared.fault.AgentFault.{AgentFault}
use Rattle.rdm_agent.specs.declared.limits.TheConstants.{DEFAULT_BUDGET}
use Rattle.rdm_agent.specs.declared.kind.Kind.{Kind}
use Rattle.rdm_agent.specs.declared.kind.Kind.TheVariants as kinds
use Rattle.rdm_agent.specs.declared.search.Search.{Search}
use Rattle.rdm_agent.specs.declared.search.Search.TheVariants.{Steady, Quick}
use Rattle.rdm_line.specs.Events.{Makes}
use Rattle.rdm_line.specs.Scenes.{uids_of_scene}
use Rattle.rdm_line.specs.declared.scene.SceneDevice.{SceneDevice}
use Rattle.rdm_line.specs.Sim.{SimState, SimStep}
use Rattle.rdm_line.specs.SimSteps.{Step, seen_in}
use Rattle.rdm_log.specs.declared.entry.Opening.{Opening}
use Rattle.rdm_log.specs.declared.entry.Entry.{Entry}
use Rattle.rdm_log.specs.declared.entry.Entry.TheVariants.{Send, Answer}
use Rattle.rdm_log.specs.log.History.{is_closed}
use Rattle.rdm_log.specs.log.Runs.{has_begun, sends_run, entries_before_run, last_run_without_fault, run_exchanges}
use Rattle.rdm_log.specs.log.Runs.{run_kind, known_devices, known_at_run}
use Rattle.rdm_log.specs.log.LogState.{LogState, with_entries}
use Rattle.rdm_log.specs.log.Legal.{Legal, MayFollow}
use Rattle.rdm_log.specs.log.Due.{NothingDue}
use Rattle.rdm_log.specs.log.MayAnswer.{MayAnswer}
use Rattle.rdm_log.specs.promises.InBound.{IsCalmRun}
use Rattle.rdm_log.specs.promises.LogInBound.{InBound}
use Rattle.rdm_log.specs.promises.Discoveries.{AnswersReportTheLine}
use Rattle.rdm_log.proofs.LogLemmas.RunLemmas.{before_first-cons, entries_before_run_stays, served_stays}
use Rattle.rdm_log.proofs.PromiseLemmas.RunsAnswer.{named_begun, ended}
use Rattle.rdm_log.proofs.PromiseLemmas.AnswersReportTheLine.{all_report_the_line}
use Rattle.rdm_log.specs.log.Entries.{exchanges}
use Rattle.rdm_scenes.specs.Scenes.{IsStayingScene, IsCalmScene}
use Rattle.rdm_scenes.specs.Reports.{IsLogOver, IsEnough, IsByDefault, FaultsFollowAClose}
use Rattle.rdm_scenes.proofs.SceneLemmas.{HonestRunOf, honest_in_log, staying_trace, split_at, run_of}

-- the log before a run began is legal
each_front : (P : List Entry → Entry → Type 0) (xs ys : List Entry) → EachAfter P (xs ++ ys) → EachAfter P xs
each_front P xs ys each =
    λ front back x is. each front (back ++ ys) x
    (ap (λ (zs : List Entry). zs ++ ys) is ∙ append_assoc front (x ∷ back) ys)

pub record Split (p : Entry → Bool) (xs : List Entry) : Type 0 where
  pub first : Entry
  pub rest : List Entry
  pub passes : p first ≡ true
  pub whole : xs ≡ before_first p xs ++ first ∷ rest

split_first : (p : Entry → Bool) (xs : List Entry) → (xs ≡ before_first p xs) ⊎ Split p xs
split_first p [] = inl refl
split_first p (x ∷ xs) = by_test (cases_Bool (p x)) (split_first p xs)
  where
    by_test : (p x ≡ true) ⊎ (p x ≡ false) → (xs ≡ before_first p xs) ⊎ Split p xs → (x ∷ xs ≡ before_first p (x ∷ xs))
        ⊎ Split p (x ∷ xs)
    by_test (inl here) rest =
        let none : before_first p (x ∷ xs) ≡ [] = before_first-cons p x xs ∙ rw here refl in
        inr (record { first = x; rest = xs; passes = here; whole = sym (ap (λ (l : List Entry). l ++ x ∷ xs) none) })
    by_test (inr there) (inl all) =
        let more : before_first p (x ∷ xs) ≡ x ∷ before_first p xs = before_first-cons p x xs ∙ rw there refl in
        inl (ap (λ (l : List Entry). x ∷ l) all ∙ sym more)
    by_test (inr there) (inr s) =
        let more : before_first p (x ∷ xs) ≡ x ∷ before_first p xs = before_first-cons p x xs ∙ rw there refl in
        inr (record {
          first = s.first;
          rest = s.rest;
          passes = s.passes;
          whole = ap (λ (l : List Entry). x ∷ l) s.whole ∙ sym (ap (λ (l : List Entry). l ++ s.first ∷ s.rest) more);
        })

due_none : (o : Opening) (h : List Entry) (r : ℕ) (e : Entry) → sends_run r e ≡ true → MayFollow o h e → NothingDue o h
due_none o h r (Send owner frame) is may = may.0
due_none o h r _ is may = cc

pub legal_before : (o : Opening) (h : List Entry) (r : ℕ) → Legal o h → Legal o (before_first (sends_run r) h)
legal_before o h r legal = by_split (split_first (sends_run r) h)
  where
    by_split : (h ≡ before_first (sends_run r) h) ⊎ Split (sends_run r) h → Legal o (before_first (sends_run r) h)
    by_split (inl all) = subst (Legal o) all legal
    by_split (inr s) = record {
      each = each_front (MayFollow o) (before_first (sends_run r) h) (s.first ∷ s.rest)
          (subst (EachAfter (MayFollow o)) s.whole legal.each);
      settled = due_none o (before_first (sends_run r) h) r s.first s.passes
          (legal.each (before_first (sends_run r) h) s.rest s.first s.whole);
    }

pub rest_after : (p : Entry → Bool) (h : List Entry) → (ys : List Entry) × (h ≡ before_first p h ++ ys)
rest_after p h = by_split (split_first p h)
  where
    by_split : (h ≡ before_first p h) ⊎ Split p h → (ys : List Entry) × (h ≡ before_first p h ++ ys)
    by_split (inl all) = ([], all ∙ sym (append-nil (before_first p h)))
    by_split (inr s) = (s.first ∷ s.rest, s.whole)

-- a run that an Answer of a prefix names has the same exchanges in the whole log
same_run : (o : Opening) (p ys : List Entry) (n q : ℕ) → EachAfter (MayFollow o) (p ++ ys)
    → Contains p (Answer n q None) → run_exchanges q (p ++ ys) ≡ run_exchanges q p
same_run o p ys n q each has =
    let here = slice_get-get_or p has.0 (Answer n q None) has.1 in
    let parts = split_at p has.0 (get_or p has.0 (Answer n q None)) here in
    let is : p ≡ parts.0 ++ Answer n q None ∷ parts.1 = parts.2 ∙ ap (λ (x : Entry). parts.0 ++ x ∷ parts.1) has.2 in
    let whole : p ++ ys ≡ parts.0 ++ Answer n q None ∷ (parts.1 ++ ys) = ap (λ (l : List Entry). l ++ ys) is
    ∙ append_assoc parts.0 (Answer n q None ∷ parts.1) ys in
    ended o (p ++ ys) each parts.0 (parts.1 ++ ys) n q None whole
    ∙ sym (ended o p (each_front (MayFollow o) p ys each) parts.0 parts.1 n q None is)

-- the UIDs that a run starts from are no more than the scene's, if the opening's are
module _ (o : Opening) (h : List Entry) (s t : SimState) (legal : Legal o h)
    (few : length (uids_of o.devices) ≤ length (uids_of_scene s.devices)) (is : IsStayingScene s)
    (made : Makes SimState SimStep s (exchanges h) t) where
  few_known : (r : ℕ) (p ys : List Entry) → Legal o p → h ≡ p ++ ys
      → length (uids_of (known_devices o p)) ≤ length (uids_of_scene s.devices)
  few_known r p ys legal_p whole = by_last (last_run_without_fault p) refl
    where
      line : AnswersReportTheLine o p
      line = all_report_the_line o p legal_p

      by_last : (last : Option ℕ) → last_run_without_fault p ≡ last
          → length (uids_of (known_devices o p)) ≤ length (uids_of_scene s.devices)
      by_last None none =
          subst (λ (ds : List Device). length (uids_of ds) ≤ length (uids_of_scene s.devices))
          (sym (line.known_before none)) few
      by_last (Some q) last =
          let from = line.known_from q last in
          let same : run_exchanges q h ≡ run_exchanges q p = ap (run_exchanges q) whole
          ∙ same_run o p ys from.0 q (subst (EachAfter (MayFollow o)) whole legal.each) from.1 in
          let trace = staying_trace s (run_exchanges q h) is
          (honest_in_log o h s t q legal.each is.lossy.few_losses made) in
          let exact = ap length
          (line.known q (uids_of_scene s.devices) last
          (subst (HonestTrace (uids_of_scene s.devices)) same trace)) in
          omega (arith, exact)

  pub known_few : (r : ℕ) → length (known_at_run o r h) ≤ length (uids_of_scene s.devices)
  unfolding entries_before_run
  known_few r =
      let rest = rest_after (sends_run r) h in
      few_known r (before_first (sends_run r) h) rest.0 (legal_before o h r legal) rest.1

-- the budget suffices for what is known
kind_few : (kind : Kind) (known : List ℕ) (n : ℕ) → length known ≤ n → length (known_of kind known) ≤ n
kind_few kinds.Full known n few = omega arith
kind_few kinds.Incremental known n few = few

enough_less : (search : Search) (present known : List ℕ) (kind : Kind) (budget : ℕ) → length known ≤ length present
    → enough_by search present kinds.Incremental present ≤ budget → enough_by search present kind known ≤ budget
enough_less Steady present known kind budget few enough =
    omega (arith, kind_few kind known (length present) few, enough)
enough_less Quick present known kind budget few enough = omega (arith, kind_few kind known (length present) few, enough)

-- the exchanges of a run are calm
none_failed : (steps : List Step) → AllByRecursion (λ (y : Step). (seen_in y).heard ≢ Failed) steps
    → AllByRecursion (λ (e : Seen). e.heard ≢ Failed) (map seen_in steps)
none_failed [] all = tt
none_failed (y ∷ steps) all = (all.0, none_failed steps all.1)

pub calm_run : (s : SimState) (x : List Seen) → IsCalmScene s → HonestRunOf s x → IsCalm (uids_of_scene s.devices) x
calm_run s x is run = record {
  honest = staying_trace s x is.staying run;
  few = omega (arith, length-map s.devices (λ (d : SceneDevice). d.device.uid), is.staying.lossy.scene.few);
  no_failure =
      subst (AllByRecursion (λ (e : Seen). e.heard ≢ Failed)) run.seen (none_failed run.steps (run.sound is.no_fails));
}

-- and so they are before the run's Answer
calm_before : (k : LogState) (before back : List Entry) (n r : ℕ) (fault : AgentFault) (present : List ℕ)
    → EachAfter (MayFollow k.opening) k.entries → k.entries ≡ before ++ Answer n r (Some fault) ∷ back
    → has_begun r before ≡ true → IsCalmRun k r present → IsCalmRun (with_entries k before) r present
calm_before k before back n r fault present each is begun calm = record {
  calm = rw (ended k.opening k.entries each before back n r (Some fault) is) at calm.calm;
  budgeted = rw (
    is,
    served_stays r before (Answer n r (Some fault) ∷ back) begun,
    entries_before_run_stays r before (Answer n r (Some fault) ∷ back) begun,
  ) at calm.budgeted;
}

by_number : (k : LogState) (before back : List Entry) (n r : ℕ) (fault : AgentFault) (present : List ℕ)
    → EachAfter (MayFollow k.opening) k.entries → k.entries ≡ before ++ Answer n r (Some fault) ∷ back
    → MayAnswer k.opening before n r (Some fault)
    → (IsCalmRun (with_entries k before) r present → is_closed k.opening before ≡ true) → IsCalmRun k r present
    → is_closed k.opening before ≡ true
by_number k before back n zero fault present each is may bound calm = (may.unserved refl).closing.closed
by_number k before back n (suc r) fault present each is may bound calm =
    bound (calm_before k before back n (suc r) fault present each is
    (named_begun k.opening before n (suc r) (Some fault) may some) calm)
  where
    some : suc r ≢ 0
    some e = cc

-- each run is calm
pub calm_of : (s t : SimState) (k : LogState) → IsLogOver s t k → IsCalmScene s → (r : ℕ)
    → IsCalm (uids_of_scene s.devices) (run_exchanges r k.entries)
calm_of s t k over is r = calm_run s (run_exchanges r k.entries) is (run_of s t k over is.staying.lossy r)

-- an Answer with a fault comes after a close
pub faults_follow : (s t : SimState) (k : LogState) → IsLogOver s t k → IsCalmScene s → InBound k → IsEnough s k
    → FaultsFollowAClose k
faults_follow s t k over is bound enough front back n r fault whole =
    by_number k front back n r fault (uids_of_scene s.devices) over.legal.each whole
    (over.legal.each front back (Answer n r (Some fault)) whole)
    (bound.closed_first front back n r fault (uids_of_scene s.devices) whole) calm
  where
    calm : IsCalmRun k r (uids_of_scene s.devices)
    calm = record {
      calm = calm_of s t k over is r;
      budgeted = enough_less k.opening.search (uids_of_scene s.devices) (known_at_run k.opening r k.entries)
          (run_kind r k.entries) k.opening.budget
          (known_few k.opening k.entries s t over.legal enough.few is.staying over.steps r) enough.budgeted;
    }

-- the default budget is enough for a steady search
pub default_enough : (s : SimState) (k : LogState) → IsCalmScene s → IsByDefault s k → IsEnough s k
default_enough s k is default = record {
  few = default.few;
  budgeted = rw (default.budget, default.search) (within few);
}
  where
    few : length (uids_of_scene s.devices) ≤ 1024
    few = omega (arith, length-map s.devices (λ (d : SceneDevice). d.device.uid), is.staying.lossy.scene.few)

    within : length (uids_of_scene s.devices) ≤ 1024
        → enough_by Steady (uids_of_scene s.devices) kinds.Incremental (uids_of_scene s.devices) ≤ DEFAULT_BUDGET
    within few = omega (arith, few)

pub follow_by_default : (s t : SimState) (k : LogState) → IsLogOver s t k → IsCalmScene s → InBound k → IsByDefault s k
    → FaultsFollowAClose k
follow_by_default s t k over is bound default = faults_follow s t k over is bound (default_enough s k is default)
