use Rattle.rdm_log.proofs.Common.{◌≡◌, ℕ, List, [], ◌∷◌, ◌++◌, replicate, Some, refl, sym, ap, ◌∙◌, inl, inr, arith}
use Rattle.rdm_log.proofs.Common.{false≢true, append_cancel_left, Seen, HonestTrace, Unmute, Mute, Silent, Exhausted}
use Rattle.rdm_log.proofs.Common.{Answer, joins, accepts, asks, sends, cames, finishes, answers, traded, awaited}
use Rattle.rdm_log.proofs.Common.{is_paused, is_closed, has_begun, entries_before_run, last_run, run_exchanges}
use Rattle.rdm_log.proofs.Common.{LogState, IsCalmRun, came_with}
use Rattle.rdm_agent.specs.Bound.{IsCalm}
use Rattle.rdm_agent.specs.SampleRun.{sample_uid, exchange, all_branch}
use Rattle.rdm_agent.proofs.SampleHonest.{Goes, none_muted, line, counts, unmutes, silent}
use Rattle.rdm_log.specs.samples.SampleRuns.{wasted_with, wasted_sent, wasted_run}
use Rattle.rdm_log.proofs.laws.explained.wasted_run_is_not_explained.Goals as goal

-- the run's exchanges: four branches, after three unmutes and a mute that nobody answers
abbrev branches : List Seen
branches = replicate 4 (exchange all_branch Silent) ++ []

abbrev wasted : List Seen
wasted = replicate 3 (exchange Unmute Silent) ++ (exchange (Mute sample_uid) Silent ∷ branches)

searched : Goes [] (line none_muted 0 0 0) branches
searched = silent [] none_muted 0 0xffffffffffff 4 [] refl tt

muted : (n : ℕ) → Goes [] (line none_muted 0 0 n) (exchange (Mute sample_uid) Silent ∷ branches)
muted n = inr (
  line none_muted 0 0 0,
  ((λ v other. refl), (refl, refl, counts none_muted 0 0 0 (omega arith) (omega arith))),
  searched,
)

honest : HonestTrace [] wasted
honest = (
  record { devices = tt; ascending = tt },
  none_muted,
  unmutes [] 0 3 (exchange (Mute sample_uid) Silent ∷ branches) muted,
)

calm_line : IsCalm [] wasted
calm_line = record {
  honest = honest;
  few = omega arith;
  no_failure =
      ((λ e. cc), ((λ e. cc), ((λ e. cc), ((λ e. cc), ((λ e. cc), ((λ e. cc), ((λ e. cc), ((λ e. cc), tt))))))));
}

calm : IsCalmRun (wasted_with wasted_run) 1 []
unfolding joins accepts asks sends cames finishes answers traded awaited is_paused is_closed has_begun
    entries_before_run last_run run_exchanges
calm = record { calm = calm_line; budgeted = omega arith }

pub returns : goal.returns
unfolding is_closed
returns c = record {
  calm = calm;
  fault = λ is.
      let block_is : is.1.block ≡ came_with [] ∷ Answer 0 1 (Some Exhausted) ∷ [] =
      append_cancel_left wasted_sent is.1.block (came_with [] ∷ Answer 0 1 (Some Exhausted) ∷ [])
      (sym (ap (λ (k : LogState). k.entries) (is.2 ∙ is.1.grows))) in
      let bound = rw block_is at is.1.adds.2 in
      false≢true (bound.1.0 [] (inl calm));
}
