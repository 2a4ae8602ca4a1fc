-- The sample of a noisy line, and what no noise does.
use Rattle.std.proofs.Common.{◌≡◌, ℕ, ◌≤◌, Bool, true, false, not, cond, List, [], ◌∷◌, refl, inl, inr}
use Rattle.std.proofs.Common.{true≢false, arith}
use Rattle.std.specs.Prelude.{◌==◌, MatchBool}
use Rattle.rdm_wire.specs.Uid.{has}
use Rattle.rdm_wire.specs.Honest.{LineState, LineCounts, HonestTrace, KeepsMuted, MayReply, is_acked}
use Rattle.rdm_wire.specs.Honest.{before_run}
use Rattle.rdm_wire.specs.Honest.Heard.{Failed, One, Acked, Noise}
use Rattle.rdm_wire.specs.Noisy.{NoisyTrace, NoisyTraceWith, MuteMovesInNoise}
use Rattle.rdm_wire.specs.SampleLines.{first_device, one_there, asked_mute, asked_alone, noisy_exchanges}
use Rattle.rdm_wire.specs.declared.mute_ack.MuteAck.{MuteAck}
use Rattle.rdm_wire.proofs.SampleLineLemmas.{one-devices}

-- nobody is muted, and the device is
abbrev none_muted : ℕ → Bool
none_muted u = false

abbrev one_muted : ℕ → Bool
one_muted u = first_device == u

-- a line after this many mutes without acknowledgement
abbrev line : (ℕ → Bool) → ℕ → LineState
line muted mutes = record { muted = muted; lost_branches = 0; lost_mutes = mutes; unmutes = 0 }

counts : (muted : ℕ → Bool) (mutes : ℕ) → mutes ≤ 4 → LineCounts (line muted mutes) 0 mutes 0
counts muted mutes few = record {
  branches = refl;
  mutes = refl;
  unmutes = refl;
  few_branches = omega arith;
  few_mutes = few;
}

pub noisy : NoisyTraceWith one_there 5 noisy_exchanges
noisy = (
  (
    one-devices,
    none_muted,
    inr (
      line none_muted 0,
      ((λ alone absent e. cc), (λ u. refl), counts none_muted 0 (omega arith)),
      inr (
        line none_muted 0,
        ((λ alone absent e. cc), (λ u. refl), counts none_muted 0 (omega arith)),
        inr (
          line none_muted 0,
          ((λ v other. refl), (refl, refl, counts none_muted 0 (omega arith))),
          inr (
            line none_muted 1,
            ((λ v other. refl), inr (refl, inr refl, counts none_muted 1 (omega arith))),
            inr (
              line one_muted 0,
              ((λ v other. other), inl (refl, refl, counts one_muted 0 (omega arith))),
              inr (line one_muted 0, ((λ alone absent e. cc), (λ u. refl), counts one_muted 0 (omega arith)), tt),
            ),
          ),
        ),
      ),
    ),
  ),
  refl,
)

-- a device that is due alone spells its UID, and nobody else makes bytes
no_noise : (b : Bool) → MayReply (cond b one_there []) Noise → ⊥
no_noise true (inl own) = cc
no_noise true (inr silent) = cc
no_noise false silent = cc

pub dishonest : HonestTrace one_there noisy_exchanges → ⊥
dishonest honest =
    elim honest.2 [ inl failed ↦ never failed | inr step ↦ no_noise (not (honest.1 first_device)) step.1.0 ]
  where
    never : Noise ≡ Failed → ⊥
    never failed = cc

pub no_text_of_absent : (present : List ℕ) (u : ℕ) → has present u ≡ false
    → NoisyTrace present (asked_alone u (One u) ∷ []) → ⊥
no_text_of_absent present u absent noisy =
    elim noisy.2 [ inl failed ↦ never failed | inr step ↦ step.1.0 refl absent refl ]
  where
    never : One u ≡ Failed → ⊥
    never failed = cc

pub absent_unacked : (present : List ℕ) (u : ℕ) (ack : MuteAck) → has present u ≡ false
    → NoisyTrace present (asked_mute u (Acked ack) ∷ []) → ⊥
absent_unacked present u ack absent noisy =
    elim noisy.2 [
      | inl failed ↦ never failed
      | inr step ↦ by_test (has present u) absent noisy.1 step.0 step.1.1
    ]
  where
    never : Acked ack ≡ Failed → ⊥
    never failed = cc

    by_test : (b : Bool) → b ≡ false → (muted : ℕ → Bool) (new : LineState)
        → MatchBool b (MuteMovesInNoise u (before_run muted)
        (Acked ack) new)
        ((is_acked (Acked ack) ≡ false)
        × KeepsMuted u (before_run muted) new
        × LineCounts new 0 0 0) → ⊥
    by_test true is muted new moves = true≢false is
    by_test false is muted new lost = true≢false lost.0
