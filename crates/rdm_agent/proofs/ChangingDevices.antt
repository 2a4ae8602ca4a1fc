-- What an honest line whose devices come and leave shows of a run.
use Rattle.rdm_agent.proofs.Common.{◌≡◌, ℕ, true, List, [], ◌∷◌, ◌++◌, refl, sym, ap, ◌∙◌, subst, inl, inr, true≢false}
use Rattle.rdm_agent.proofs.Common.{arith, cons_option, has, IsDevice, Seen, LineState, HonestToStep, HonestTo, Chain}
use Rattle.rdm_agent.proofs.Common.{before_run, HonestOver, acked_uid, acked_in, FailureIsLast, SearchShows, Kind}
use Rattle.rdm_agent.proofs.Common.{IsInEach, IsInOne}
use Rattle.rdm_wire.specs.HonestOver.{ComeAndLeave, ChainOver, first_set}
use Rattle.rdm_wire.proofs.EachDevice.{IsBelow, below_step, same_below}
use Rattle.rdm_wire.proofs.NoisyLemmas.{step_in_noise}
use Rattle.rdm_agent.proofs.Members.{member, put-has}
use Rattle.rdm_agent.proofs.OneDevice.{found}
use Rattle.rdm_agent.proofs.AllDevices.{acked_present, failed_none}

-- coming and leaving moves nothing of a device that stays
pub stays_below : (u : ℕ) (earlier last present : List ℕ) (s moved t : LineState) → has last u ≡ true
    → has present u ≡ true → ComeAndLeave earlier last present s moved → IsBelow u t s → IsBelow u t moved
stays_below u earlier last present s moved t was is m under =
    let branches = under.branches in let lost = under.lost in let same_branches = m.lost_branches in
    let same_mutes = m.lost_mutes in record {
      muted = under.muted ∙ sym (m.stays u was is);
      branches = omega arith;
      lost = omega arith;
      unmutes = under.unmutes ∙ sym m.unmutes;
    }

-- such a line is honest to each device that stays
to_one_over : (u : ℕ) (earlier last : List ℕ) (s t : LineState) (sets : List (List ℕ)) (x : List Seen)
    → has last u ≡ true → IsInEach u sets → IsBelow u t s → ChainOver earlier last s sets x → Chain (HonestToStep u) t x
to_one_over u earlier last s t [] [] was each under c = tt
to_one_over u earlier last s t [] (e ∷ x) was each under c = absurd c
to_one_over u earlier last s t (present ∷ sets) [] was each under c = tt
to_one_over u earlier last s t (present ∷ sets) (e ∷ x) was each under c =
    elim c.2 [
      | inl failed ↦ inl failed
      | inr step ↦ let b = below_step present u c.0 t step.0 e.asked e.heard each.0
          (stays_below u earlier last present s c.0 t was each.0 c.1 under) step.1 in
          inr (
            b.state,
            b.step,
            to_one_over u (present ++ earlier) present step.0 b.state sets x each.0 each.1 b.below step.2,
          )
    ]

pub honest_over_to_each : (sets : List (List ℕ)) (u : ℕ) (x : List Seen) → IsInEach u sets → HonestOver sets x
    → HonestTo u x
honest_over_to_each [] u [] each honest = (honest.muted, tt)
honest_over_to_each [] u (e ∷ x) each honest = absurd honest.chain
honest_over_to_each (present ∷ sets) u x each honest = (
  honest.muted,
  to_one_over u present present (before_run honest.muted) (before_run honest.muted) (present ∷ sets) x
      each.0 each (same_below u (before_run honest.muted)) honest.chain,
)

-- and it acknowledges only mutes of devices that were present at some exchange
present_over : (earlier last : List ℕ) (s : LineState) (sets : List (List ℕ)) (x : List Seen) (u : ℕ) → FailureIsLast x
    → ChainOver earlier last s sets x → has (acked_in x) u ≡ true → IsInOne u sets
present_over earlier last s sets [] u ok c h = absurd (true≢false (sym h))
present_over earlier last s [] (e ∷ x) u ok c h = absurd c
present_over earlier last s (present ∷ sets) (e ∷ x) u ok c h =
    elim c.2 [
      | inl failed
          ↦ absurd (true≢false
          (sym (subst (λ l. has (acked_in (e ∷ l)) u ≡ true) (ok [] x e refl failed) h)
          ∙ ap (λ o. has (cons_option o []) u) (failed_none e.asked e.heard failed)))
      | inr step ↦ elim (put-has (acked_uid e.asked e.heard) (acked_in x) u h) [
        | inl here ↦ inl (acked_present present c.0 step.0 u e.asked e.heard
            (step_in_noise present c.0 e.asked e.heard step.0 step.1) here)
        | inr later ↦ inr
            (present_over (present ++ earlier) present step.0 sets x u
            (λ front back d whole failed. ok (e ∷ front) back d (ap (λ l. e ∷ l) whole) failed) step.2 later)
      ]
    ]

pub no_stranger : (sets : List (List ℕ)) (x : List Seen) (u : ℕ) → FailureIsLast x → HonestOver sets x
    → has (acked_in x) u ≡ true → IsInOne u sets
no_stranger sets x u ok honest h =
    present_over (first_set sets) (first_set sets) (before_run honest.muted) sets x u ok honest.chain h

-- each device that stays is a device
pub staying_device : (sets : List (List ℕ)) (u : ℕ) (e : Seen) (x : List Seen) → IsInEach u sets
    → HonestOver sets (e ∷ x) → IsDevice u
staying_device [] u e x each honest = absurd honest.chain
staying_device (present ∷ sets) u e x each honest = member IsDevice present u honest.devices.0.devices each.0

-- so a certificate's set has each device that stays
pub staying_found : (kind : Kind) (known : List ℕ) (x : List Seen) (s : List ℕ) (sets : List (List ℕ)) (u : ℕ)
    → SearchShows kind known x s → HonestOver sets x → IsInEach u sets → has s u ≡ true
staying_found kind known [] s sets u c honest each = absurd (let wrong : ⊥ = cc (c.unmutes) in wrong)
staying_found kind known (e ∷ x) s sets u c honest each =
    found kind known (e ∷ x) s u (staying_device sets u e x each honest) c
    (honest_over_to_each sets u (e ∷ x) each honest)
