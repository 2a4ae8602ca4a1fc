-- Devices that collide, a line that fails, and one that is honest to one device alone.
use Rattle.rdm_agent.proofs.Common.{◌≡◌, ℕ, Bool, true, false, cond, List, [], ◌∷◌, drop, refl, ap, inl, inr, arith}
use Rattle.rdm_agent.proofs.Common.{◌==◌, MatchBool, has, LineState, HonestTo, HonestTrace, HonestStep, KeepsMuted}
use Rattle.rdm_agent.proofs.Common.{MuteMoves, LineCounts, before_run, Mute, Failed, Silent, Noise, sample_uid}
use Rattle.rdm_agent.specs.SampleRun.{other_uid, colliding_run, swept_run, failed_run, garbled_run}
use Rattle.rdm_agent.proofs.SampleHonest.{none_muted, one_muted, line, counts, unmutes, silent}

abbrev pub both : List ℕ
both = sample_uid ∷ other_uid ∷ []

abbrev pub both_muted : ℕ → Bool
both_muted u = cond (other_uid == u) true (one_muted u)

pub colliding_honest : HonestTrace both colliding_run
colliding_honest = (
  record {
    devices = (record { in_range = omega arith; own = refl }, (record { in_range = omega arith; own = refl }, tt));
    ascending = ((omega arith, tt), (tt, tt));
  },
  none_muted,
  unmutes both 0 3 (drop 3 colliding_run) (λ n.
      inr (
        line none_muted 0 0 0,
        (tt, (λ u. refl), counts none_muted 0 0 0 (omega arith) (omega arith)),
        inr (
          line none_muted 0 0 0,
          (inl refl, (λ u. refl), counts none_muted 0 0 0 (omega arith) (omega arith)),
          inr (
            line one_muted 0 0 0,
            ((λ v other. other), inl (refl, refl, counts one_muted 0 0 0 (omega arith) (omega arith))),
            silent both one_muted 0 0x7fffffffffff 5 (drop 11 colliding_run) refl
                (inr (
                  line one_muted 0 0 0,
                  (inl refl, (λ u. refl), counts one_muted 0 0 0 (omega arith) (omega arith)),
                  inr (
                    line both_muted 0 0 0,
                    (
                      (λ v other. ap (λ t. cond t true (one_muted v)) other),
                      inl (refl, refl, counts both_muted 0 0 0 (omega arith) (omega arith)),
                    ),
                    silent both both_muted 0x800000000000 0xffffffffffff 5 [] refl tt,
                  ),
                )),
          ),
        ),
      )),
)

pub swept_honest : HonestTrace both swept_run
swept_honest = (
  colliding_honest.0,
  none_muted,
  unmutes both 0 3 (drop 3 swept_run) (λ n.
      inr (
        line none_muted 0 0 0,
        (tt, (λ u. refl), counts none_muted 0 0 0 (omega arith) (omega arith)),
        inr (
          line none_muted 0 0 0,
          (inl refl, (λ u. refl), counts none_muted 0 0 0 (omega arith) (omega arith)),
          inr (
            line one_muted 0 0 0,
            ((λ v other. other), inl (refl, refl, counts one_muted 0 0 0 (omega arith) (omega arith))),
            inr (
              line one_muted 0 0 0,
              (inl refl, (λ u. refl), counts one_muted 0 0 0 (omega arith) (omega arith)),
              inr (
                line both_muted 0 0 0,
                (
                  (λ v other. ap (λ t. cond t true (one_muted v)) other),
                  inl (refl, refl, counts both_muted 0 0 0 (omega arith) (omega arith)),
                ),
                silent both both_muted 0 0xffffffffffff 5 [] refl tt,
              ),
            ),
          ),
        ),
      )),
)

pub failed_honest : HonestTrace (sample_uid ∷ []) failed_run
failed_honest = (
  record { devices = (record { in_range = omega arith; own = refl }, tt); ascending = (tt, tt) },
  none_muted,
  unmutes (sample_uid ∷ []) 0 3 (drop 3 failed_run) (λ n. inl refl),
)

pub garbled_to_one : HonestTo sample_uid garbled_run
garbled_to_one =
    (none_muted, inr (line none_muted 0 0 0, (refl, counts none_muted 0 0 0 (omega arith) (omega arith)), tt))

-- no mute is answered so
no_noise : (present : List ℕ) (old new : LineState) → HonestStep present old (Mute other_uid) Noise new → ⊥
no_noise present old new step = by_test (has present other_uid) step.1
  where
    by_test : (b : Bool)
        → MatchBool b (MuteMoves other_uid old Noise new)
        ((Noise ≡ Silent) × KeepsMuted other_uid old new × LineCounts new 0 0 0) → ⊥
    by_test true (inl acked) = let never = acked.0 in cc
    by_test true (inr silent) = let never = silent.0 in cc
    by_test false nobody = let never = nobody.0 in cc

pub garbled_to_none : (present : List ℕ) → HonestTrace present garbled_run → ⊥
garbled_to_none present honest =
    elim honest.2 [ inl failed ↦ never failed | inr step ↦ no_noise present (before_run honest.1) step.0 step.1 ]
  where
    never : Noise ≡ Failed → ⊥
    never failed = cc
