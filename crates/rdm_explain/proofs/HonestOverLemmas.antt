-- The same on a line whose devices come and leave.
use Rattle.std.proofs.Common.{◌≡◌, ℕ, true, List, [], ◌∷◌, ◌++◌, refl, ap, ◌∙◌, subst, inl, inr}
use Rattle.std.specs.Prelude.{◌⊎◌, ◌≢◌}
use Rattle.std.proofs.lemmas.List.{map-append}
use Rattle.rdm_wire.specs.Uid.{has}
use Rattle.rdm_wire.specs.Honest.{Seen, LineState, HonestStep, before_run}
use Rattle.rdm_wire.specs.Honest.Heard.{Failed}
use Rattle.rdm_wire.specs.HonestOver.{HonestOver, ChainOver, first_set}
use Rattle.rdm_wire.proofs.EachDevice.{IsBelow, below_step, same_below}
use Rattle.rdm_agent.specs.Statements.{IsInEach, IsInOne}
use Rattle.rdm_explain.specs.declared.exchange.Exchange.{Exchange}
use Rattle.rdm_explain.specs.Exchanges.{seen_of, seen_all}
use Rattle.rdm_explain.specs.Certificates.{NoFailure}
use Rattle.rdm_explain.specs.Strays.{Leads, MayBeUnmuted, IsStray}
use Rattle.rdm_explain.proofs.GarbledLemmas.{at_end}
use Rattle.rdm_explain.proofs.GarbledOverLemmas.{WillBeMutedOver, still_there, step_waits}
use Rattle.rdm_explain.proofs.HonestLemmas.{no_step, muted_if}
use Rattle.rdm_agent.proofs.ChangingDevices.{stays_below}

-- the exchange after some others, with its devices and the states that it leads from and to
record Reached (earlier last : List ℕ) (s : LineState) (sets : List (List ℕ)) (front : List Seen) (e : Seen)
    : Type 0 where
  present : List ℕ
  old : LineState
  new : LineState
  step : HonestStep present old e.asked e.heard new
  inside : (u : ℕ) → has present u ≡ true → IsInOne u sets
  way : (u : ℕ) (t : LineState) → has last u ≡ true → IsInEach u sets → IsBelow u t s
      → (end : LineState) × IsBelow u end old × Leads u t front end
  stay : (u : ℕ) → WillBeMutedOver earlier last s.muted u front → has present u ≡ true → old.muted u ≡ true

reached : (earlier last : List ℕ) (s : LineState) (sets : List (List ℕ)) (front : List Seen) (e : Seen)
    (rest : List Seen) → NoFailure front → e.heard ≢ Failed → ChainOver earlier last s sets (front ++ e ∷ rest)
    → Reached earlier last s sets front e
reached earlier last s [] [] e rest ok fine chain = absurd chain
reached earlier last s [] (x ∷ front) e rest ok fine chain = absurd chain
reached earlier last s (p ∷ sets) [] e rest ok fine (moved, changes, inl failed) = absurd (fine failed)
reached earlier last s (p ∷ sets) [] e rest ok fine (moved, changes, inr step) = record {
  present = p;
  old = moved;
  new = step.0;
  step = step.1;
  inside = λ u there. inl there;
  way = λ u t was each below. (t, stays_below u earlier last p s moved t was each.0 changes below, refl);
  stay = λ u will there. elim will [
    | inl is ↦ still_there earlier last p s moved u changes is.now is.was there
    | inr later ↦ at_end p moved.muted u (inr later) there
  ];
}
reached earlier last s (p ∷ sets) (x ∷ front) e rest ok fine (moved, changes, inl failed) = absurd (ok.0 failed)
reached earlier last s (p ∷ sets) (x ∷ front) e rest ok fine (moved, changes, inr step) =
    let r = reached (p ++ earlier) p step.0 sets front e rest ok.1 fine step.2 in record {
      present = r.present;
      old = r.old;
      new = r.new;
      step = r.step;
      inside = λ u there. inr (r.inside u there);
      way = λ u t was each below.
          let b = below_step p u moved t step.0 x.asked x.heard each.0
          (stays_below u earlier last p s moved t was each.0 changes below) step.1 in
          let w = r.way u b.state each.0 each.1 b.below in (w.0, w.1, (b.state, b.step, w.2));
      stay = λ u will there.
          r.stay u (step_waits earlier last p s moved step.0 u x front changes step.1 will) there;
    }

in_first_set : (u : ℕ) (sets : List (List ℕ)) → IsInOne u sets → IsInEach u sets → has (first_set sets) u ≡ true
in_first_set u [] one each = absurd one
in_first_set u (p ∷ sets) one each = each.0

pub stray_dishonest_over : (us ps : List ℕ) (sets : List (List ℕ)) (xs : List Exchange) (at : ℕ) → IsStray us ps xs at
    → ((u : ℕ) → IsInOne u sets → (has us u ≡ true) ⊎ (has ps u ≡ true))
    → ((u : ℕ) → IsInOne u sets → has us u ≡ true → IsInEach u sets) → HonestOver sets (seen_all xs) → ⊥
stray_dishonest_over us ps sets xs at s listed staying honest =
    no_step us ps r.present x r.old r.new (seen_of s.exchange).asked (seen_of s.exchange).heard
    (λ u there. listed u (r.inside u there)) known (λ u there is. r.stay u (inr is) there) s.not_silent s.nobody r.step
  where
    x : List Seen
    x = seen_all s.front

    first : LineState
    first = before_run honest.muted

    whole : seen_all xs ≡ x ++ seen_of s.exchange ∷ seen_all s.back
    whole = ap seen_all s.whole ∙ map-append seen_of s.front (s.exchange ∷ s.back)

    r : Reached (first_set sets) (first_set sets) first sets x (seen_of s.exchange)
    r = reached (first_set sets) (first_set sets) first sets x (seen_of s.exchange) (seen_all s.back) s.no_failure
        s.not_failed (subst (λ l. ChainOver (first_set sets) (first_set sets) first sets l) whole honest.chain)

    known : (u : ℕ) → has r.present u ≡ true → has us u ≡ true → (MayBeUnmuted u x → ⊥) → r.old.muted u ≡ true
    known u there stays never =
        let one = r.inside u there in
        let each = staying u one stays in
        let w = r.way u first (in_first_set u sets one each) each (same_below u first) in
        muted_if u x honest.muted r.old w.0 w.1 w.2 never
