use Rattle.rdm_log.proofs.Common.{◌≡◌, [], ◌∷◌, sym, ap, ◌∙◌, false≢true, append_cancel_left, joins, accepts, sends}
use Rattle.rdm_log.proofs.Common.{finishes, collectors, asks, answers, has_begun, entries_before_run, last_run}
use Rattle.rdm_log.proofs.Common.{run_exchanges, awaited, is_paused, is_closed, answers_to, Collect, unmute_frame}
use Rattle.rdm_log.proofs.Common.{sample_frame, source, first_client, aborted_log, LogState}
use Rattle.rdm_log.specs.declared.entry.Owner.TheVariants as owners
use Rattle.rdm_log.proofs.SampleLemmas.SampleLegal.{may_send}
use Rattle.rdm_log.proofs.SampleLemmas.FailedRuns.{may_begin}
use Rattle.rdm_log.proofs.laws.explained.not_explained.Goals as goal

pub returns : goal.returns
unfolding joins accepts finishes sends collectors awaited is_paused is_closed answers_to asks answers has_begun
    entries_before_run last_run run_exchanges
returns c = record {
  full = λ new is. let fault = is.1.adds.0 in cc;
  log_full = λ new is. let fault = is.1.adds.0 in cc;
  discovery = λ new is. let fault = is.1.adds.0 in cc;
  no_frame = λ new is. is.1.adds.1.0 (owners.Request 0) (record { items = sample_frame }) may_send.1;
  no_run = λ new is. is.1.adds.1.0 (owners.Run 1) (record { items = unmute_frame source 0 }) may_begin;
  no_room = λ new is. false≢true is.1.adds.0;
  request = λ new is. let kind = is.1.adds.0 in cc;
  lost = λ is. let none : is.1.block
      ≡ Collect first_client ∷ [] =
      append_cancel_left aborted_log is.1.block (Collect first_client ∷ [])
      (sym (ap (λ (k : LogState). k.entries) (is.2 ∙ is.1.grows))) in let some = is.1.adds.1 in cc;
  left_out = λ new is. is.2;
  no_entry = λ is. let none : [] ≡ is.1.block = ap (λ (k : LogState). k.entries) (is.2 ∙ is.1.grows) in
      let some = is.1.adds.1 in cc;
  exchanged = λ new is. is.1.adds;
}
