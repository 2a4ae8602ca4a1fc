-- What a run of the simulated line keeps of its scene, and where it fails.
use Rattle.std.proofs.Common.{◌≡◌, ℕ, Bool, true, false, List, [], ◌∷◌, length, map, replicate, Option, Some, None}
use Rattle.std.proofs.Common.{refl, sym, ap, ◌∙◌, subst, true≢false}
use Rattle.std.specs.Prelude.{◌≢◌, ◌↔◌, MatchBool, nat_lt}
use Rattle.std.specs.List.{AllByRecursion}
use Rattle.std.proofs.lemmas.Bool.{and_parts}
use Rattle.std.proofs.lemmas.List.{length-map}
use Rattle.rdm_wire.specs.Commands.{command_read}
use Rattle.rdm_wire.specs.Honest.{Asked, HonestTrace}
use Rattle.rdm_wire.specs.Honest.Asked.{Unmute, Branch, Mute, Other}
use Rattle.rdm_wire.specs.Frames.{asked_in, heard_in, heard_bytes, one_or_noise, acked_or_noise}
use Rattle.rdm_wire.specs.Packet.{fields_at}
use Rattle.rdm_wire.specs.Reading.{text_read, ack_read}
use Rattle.rdm_wire.specs.declared.mute_ack.MuteAck.{MuteAck}
use Rattle.rdm_join.specs.Exchange.{bytes_heard}
use Rattle.rdm_wire.specs.HonestOver.{HonestOver}
use Rattle.rdm_wire.specs.Honest.Heard.{Failed as HeardFailed}
use Rattle.rdm_wire.proofs.HonestOverLemmas.{trace-over}
use Rattle.rdm_join.specs.declared.event.LineEvent.{LineEvent}
use Rattle.rdm_join.specs.declared.event.LineEvent.TheVariants.{Reply, Failed}
use Rattle.rdm_line.specs.Events.{Exchange, Makes}
use Rattle.rdm_line.specs.Scenes.{IsScene, Stays, present_at, uids_of_scene}
use Rattle.rdm_line.specs.Sim.{SimState, SimStep, FailsOnly, Exchanges, is_among, counted}
use Rattle.rdm_line.specs.SimSteps.{Step, AreSteps, LosesFew, KeepsScene, FailsAsNamed, present_in, seen_in}
use Rattle.rdm_line.specs.declared.scene.SceneDevice.{SceneDevice}
use Rattle.rdm_line.proofs.HonestRuns.{honest_run}
use Rattle.rdm_line.proofs.LeavesLemmas.{acts_leave}
use Rattle.rdm_line.proofs.PresenceLemmas.{all_present}
use Rattle.rdm_line.proofs.StepLemmas.{keeps_numbers}

keeps_itself : (s : SimState) → KeepsScene s s
keeps_itself s = record { present = λ i. refl; losses = refl; fails = refl }

keeps_on : (a b c : SimState) → KeepsScene a b → KeepsScene b c → KeepsScene a c
keeps_on a b c first then = record {
  present = λ i. then.present i ∙ first.present i;
  losses = then.losses ∙ first.losses;
  fails = then.fails ∙ first.fails;
}

-- a step keeps the scene
step_keeps : (s : SimState) (x : Exchange) (next : SimState) → SimStep s x next → KeepsScene s next
step_keeps s x next step = by_rule (is_among s.exchanges s.fails) step.rule
  where
    by_rule : (t : Bool) → MatchBool t (FailsOnly s x.1 next) (Exchanges s x next) → KeepsScene s next
    by_rule true h = subst (KeepsScene s) (sym h.only) (record { present = λ i. refl; losses = refl; fails = refl })
    by_rule false h =
        let numbers = keeps_numbers s.exchanges (counted s) next (command_read x.0.items) h.reply h.acts in
        record {
          present = (acts_leave s next (command_read x.0.items) h.reply h.acts).present;
          losses = numbers.losses;
          fails = numbers.fails;
        }

-- so does a run, at its end and before each step
pub run_keeps : (s new : SimState) (xs : List Step) → AreSteps s xs new → KeepsScene s new
run_keeps s new [] run = subst (KeepsScene s) (sym run) (keeps_itself s)
run_keeps s new (x ∷ xs) run =
    keeps_on s run.1 new (subst (λ t. KeepsScene t run.1) run.0 (step_keeps x.before x.exchange run.1 run.2))
    (run_keeps run.1 new xs run.3)

keeps_from : (first s new : SimState) (xs : List Step) → KeepsScene first s → AreSteps s xs new
    → AllByRecursion (λ x. KeepsScene first x.before) xs
keeps_from first s new [] k run = tt
keeps_from first s new (x ∷ xs) k run =
    let here : KeepsScene first x.before = subst (KeepsScene first) (sym run.0) k in (
      here,
      keeps_from first run.1 new xs
          (keeps_on first x.before run.1 here (step_keeps x.before x.exchange run.1 run.2)) run.3,
    )

pub each_keeps : (s new : SimState) (xs : List Step) → AreSteps s xs new
    → AllByRecursion (λ x. KeepsScene s x.before) xs
each_keeps s new xs run = keeps_from s s new xs (keeps_itself s) run

-- an exchange fails exactly when its number is named
step_fails : (s : SimState) (x : Exchange) (next : SimState) → SimStep s x next → (x.1 ≡ Failed)
    ↔ (is_among s.exchanges s.fails ≡ true)
step_fails s x next step = by_rule (is_among s.exchanges s.fails) step.rule
  where
    reply_is : (event : LineEvent) (lost : Bool) (h : Exchanges s x next) → x.1 ≡ Failed → ⊥
    reply_is event lost h failed = no_reply (sym failed ∙ h.heard)
      where
        no_reply : {r : _} → Failed ≡ Reply r → ⊥
        no_reply e = cc

    by_rule : (t : Bool) → MatchBool t (FailsOnly s x.1 next) (Exchanges s x next) → (x.1 ≡ Failed) ↔ (t ≡ true)
    by_rule true h = (λ failed. refl, λ named. h.failed)
    by_rule false h = (λ failed. absurd (reply_is x.1 false h failed), λ named. absurd (true≢false (sym named)))

fails_from : (first : List ℕ) (s new : SimState) (xs : List Step) → s.fails ≡ first → AreSteps s xs new
    → AllByRecursion (FailsAsNamed first) xs
fails_from first s new [] same run = tt
fails_from first s new (x ∷ xs) same run =
    let here : x.before.fails ≡ first = ap (λ (t : SimState). t.fails) run.0 ∙ same in (
      subst (λ named. FailsAsNamed named x) here (step_fails x.before x.exchange run.1 run.2),
      fails_from first run.1 new xs ((step_keeps x.before x.exchange run.1 run.2).fails ∙ here) run.3,
    )

pub run_fails : (s new : SimState) (xs : List Step) → AreSteps s xs new → AllByRecursion (FailsAsNamed s.fails) xs
run_fails s new xs run = fails_from s.fails s new xs refl run

-- bytes that came are never heard as a failure
one_sound : (o : Option ℕ) → one_or_noise o ≡ HeardFailed → ⊥
one_sound None h = cc
one_sound (Some u) h = cc

acked_sound : (o : Option MuteAck) → acked_or_noise o ≡ HeardFailed → ⊥
acked_sound None h = cc
acked_sound (Some ack) h = cc

bytes_sound : (s tn : ℕ) (asked : Asked) (bytes : List ℕ) → heard_bytes s tn asked bytes ≡ HeardFailed → ⊥
bytes_sound s tn asked [] h = cc
bytes_sound s tn (Branch lo hi) (b ∷ bs) h = one_sound (text_read (b ∷ bs)) h
bytes_sound s tn (Mute u) (b ∷ bs) h = acked_sound (ack_read u s tn (b ∷ bs)) h
bytes_sound s tn Unmute (b ∷ bs) h = cc
bytes_sound s tn Other (b ∷ bs) h = cc

event_failed : (frame : List ℕ) (event : LineEvent) → heard_in frame (bytes_heard event) ≡ HeardFailed → event ≡ Failed
event_failed frame Failed h = refl
event_failed frame (Reply bytes) h =
    absurd (bytes_sound (fields_at frame).source (fields_at frame).tn (asked_in frame) bytes.items h)

-- where none is named, none fails
sound_from : (xs : List Step) → AllByRecursion (FailsAsNamed []) xs
    → AllByRecursion (λ x. (seen_in x).heard ≢ HeardFailed) xs
sound_from [] all = tt
sound_from (x ∷ xs) all = (
  λ failed. true≢false
      (sym ((and_parts (nat_lt x.before.exchanges 0xffffffffffffffff) false
      (all.0.0 (event_failed x.exchange.0.items x.exchange.1 failed))).1)),
  sound_from xs all.1,
)

pub run_sound : (s new : SimState) (xs : List Step) → AreSteps s xs new → s.fails ≡ []
    → AllByRecursion (λ x. (seen_in x).heard ≢ HeardFailed) xs
run_sound s new xs run none =
    sound_from xs (subst (λ named. AllByRecursion (FailsAsNamed named) xs) none (run_fails s new xs run))

-- where the devices stay, the same are present at each exchange
same_sets : (devices : List SceneDevice) (xs : List Step) → AllByRecursion Stays devices
    → AllByRecursion (λ x. (i : ℕ) → present_at x.before.devices i ≡ present_at devices i) xs
    → map present_in xs ≡ replicate (length xs) (uids_of_scene devices)
same_sets devices [] stay all = refl
same_sets devices (x ∷ xs) stay all =
    cons (all.0 x.before.exchanges ∙ all_present devices x.before.exchanges stay) (same_sets devices xs stay all.1)
  where
    cons : {p q : List ℕ} {ps qs : List (List ℕ)} → p ≡ q → ps ≡ qs → p ∷ ps ≡ q ∷ qs
    cons a b = rw (a, b) refl

each_present : (devices : List SceneDevice) (first : SimState) (xs : List Step)
    → AllByRecursion (λ x. KeepsScene first x.before) xs
    → AllByRecursion (λ x. (i : ℕ) → present_at x.before.devices i ≡ present_at first.devices i) xs
each_present devices first [] all = tt
each_present devices first (x ∷ xs) all = (all.0.present, each_present devices first xs all.1)

-- so such a line is the honest one of its devices
pub staying_honest : (s new : SimState) (xs : List Step) → IsScene s.devices → AllByRecursion Stays s.devices
    → AreSteps s xs new → LosesFew xs → HonestTrace (uids_of_scene s.devices) (map seen_in xs)
staying_honest s new xs scene stay run few =
    (trace-over (uids_of_scene s.devices) (map seen_in xs) scene.uids).1
    (subst (λ n. HonestOver (replicate n (uids_of_scene s.devices)) (map seen_in xs)) (sym (length-map xs seen_in))
    (subst (λ sets. HonestOver sets (map seen_in xs))
    (same_sets s.devices xs stay (each_present s.devices s xs (each_keeps s new xs run)))
    (honest_run s new xs run few)))

-- what a line did one after another are its steps
pub made_run : (s new : SimState) (xs : List Exchange) → Makes SimState SimStep s xs new → (steps : List Step)
    × AreSteps s steps new × (map (λ x. x.exchange) steps ≡ xs)
made_run s new [] made = ([], made, refl)
made_run s new (x ∷ xs) made =
    let later = made_run made.0 new xs made.2 in
    (record { before = s; exchange = x } ∷ later.0, (refl, made.0, made.1, later.1), ap (λ l. x ∷ l) later.2)
