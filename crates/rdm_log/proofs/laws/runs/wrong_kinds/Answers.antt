use Rattle.rdm_log.proofs.Common.{take, drop, refl, inl, inr, arith, false≢true, Mute, Acked, device, Full, joins}
use Rattle.rdm_log.proofs.Common.{accepts, asks, sends, cames, finishes, answers, collectors, traded, of_request}
use Rattle.rdm_log.proofs.Common.{verdicts, result, awaited, is_paused, is_closed, answers_to, has_begun}
use Rattle.rdm_log.proofs.Common.{entries_before_run, last_run, run_exchanges}
use Rattle.rdm_agent.specs.SampleRun.{sample_ack}
use Rattle.rdm_log.specs.samples.SampleRuns.{known_traffic, second_run}
use Rattle.rdm_log.proofs.SampleLemmas.RunsLegal.{not_zero}
use Rattle.rdm_log.proofs.laws.runs.wrong_kinds.Goals as goal

pub returns : goal.returns
unfolding accepts asks sends cames finishes answers collectors traded of_request verdicts result awaited is_paused
    is_closed answers_to joins has_begun entries_before_run last_run run_exchanges
returns c = record {
  full = λ may.
      let shown = (may.by_run (not_zero 2 (omega arith))).shows in
      elim (shown.search.read_first (take 3 (run_exchanges 2 (second_run Full known_traffic)))
      (drop 4 (run_exchanges 2 (second_run Full known_traffic)))
      (record { asked = Mute device; heard = Acked sample_ack }) refl device refl)
      [ inl known ↦ false≢true known | inr read ↦ false≢true read ];
  from_nothing = λ may. false≢true (may.by_run (not_zero 2 (omega arith))).shows.search.known_first.0;
}
