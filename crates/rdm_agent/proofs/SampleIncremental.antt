-- The incremental sample run is an honest line's, and has its certificate.
use Rattle.rdm_agent.proofs.Common.{ℕ, zero, suc, List, [], ◌∷◌, ◌++◌, drop, None, refl, ap, cond, true, inl, inr}
use Rattle.rdm_agent.proofs.Common.{arith, IsDeviceSet, Seen, HonestTrace, Mute, Silent, Certificate, AgentState, Runs}
use Rattle.rdm_agent.proofs.Common.{start, Ended, exchange, sample_uid, sample_device, Incremental, Steady}
use Rattle.rdm_agent.proofs.Common.{DEFAULT_BUDGET, false}
use Rattle.std.proofs.Common.{replicate}
use Rattle.rdm_agent.specs.SampleRun.{absent_uid, other_device, incremental_run}
use Rattle.rdm_agent.proofs.Runs.{ends_certified_by}
use Rattle.rdm_agent.proofs.SampleHonest.{none_muted, one_muted, line, counts, Goes, unmutes, silent}
use Rattle.rdm_agent.proofs.SampleLines.{both, both_muted}

-- mutes of a UID that isn't there
absent_mutes : (left : ℕ) (x : List Seen) → Goes both (line one_muted 0 0 0) x
    → Goes both (line one_muted 0 0 0) (replicate left (exchange (Mute absent_uid) Silent) ++ x)
absent_mutes zero x onward = onward
absent_mutes (suc left) x onward =
    inr (
      line one_muted 0 0 0,
      ((λ v other. refl), (refl, refl, counts one_muted 0 0 0 (omega arith) (omega arith))),
      absent_mutes left x onward,
    )

pub incremental_honest : HonestTrace both incremental_run
incremental_honest = (
  record {
    devices = (record { in_range = omega arith; own = refl }, (record { in_range = omega arith; own = refl }, tt));
    ascending = ((omega arith, tt), (tt, tt));
  },
  none_muted,
  unmutes both 0 3 (drop 3 incremental_run) (λ n.
      inr (
        line none_muted 0 1 0,
        ((λ v other. refl), inr (refl, inr refl, counts none_muted 0 1 0 (omega arith) (omega arith))),
        inr (
          line one_muted 0 0 0,
          ((λ v other. other), inl (refl, refl, counts one_muted 0 0 0 (omega arith) (omega arith))),
          absent_mutes 5 (drop 10 incremental_run) (inr (
            line one_muted 0 0 0,
            (inl refl, (λ u. refl), counts one_muted 0 0 0 (omega arith) (omega arith)),
            inr (
              line both_muted 0 0 0,
              (
                (λ v other. ap (λ t. cond t true (one_muted v)) other),
                inl (refl, refl, counts both_muted 0 0 0 (omega arith) (omega arith)),
              ),
              silent both both_muted 0 0xffffffffffff 5 [] refl tt,
            ),
          )),
        ),
      )),
)

-- what it comes to
abbrev ended : AgentState
ended = record {
  budget = DEFAULT_BUDGET;
  frames = 17;
  search = Steady;
  found = sample_device ∷ other_device ∷ [];
  apart = [];
  more = false;
  phase = Ended None;
}

abbrev known : List ℕ
known = sample_uid ∷ absent_uid ∷ []

known_devices : IsDeviceSet known
known_devices = record {
  devices = (record { in_range = omega arith; own = refl }, (record { in_range = omega arith; own = refl }, tt));
  ascending = ((omega arith, tt), (tt, tt));
}

pub incremental_runs : Runs (start Incremental known DEFAULT_BUDGET) incremental_run ended
incremental_runs = (
  refl,
  (
    refl,
    (
      refl,
      (
        refl,
        (refl, (refl, (refl, (refl, (refl, (refl, (refl, (refl, (refl, (refl, (refl, (refl, (refl, refl))))))))))))),
      ),
    ),
  ),
)

pub incremental_certified : Certificate Incremental known incremental_run (sample_device ∷ other_device ∷ [])
incremental_certified =
    (ends_certified_by Steady Incremental known DEFAULT_BUDGET incremental_run ended known_devices incremental_runs
    refl).0
