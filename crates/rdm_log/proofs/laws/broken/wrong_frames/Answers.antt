use Rattle.rdm_log.proofs.Common.{◌≡◌, ℕ, List, sym, ap, arith, get_or, same_Some, false≢true, Accepted, joins, accepts}
use Rattle.rdm_log.proofs.Common.{sends, cames, finishes, collectors, traded, of_request, verdicts, result, asks}
use Rattle.rdm_log.proofs.Common.{answers, has_begun, entries_before_run, last_run, run_exchanges, awaited, is_paused}
use Rattle.rdm_log.proofs.Common.{is_closed, answers_to, sample_request, sample_frame, second_frame}
use Rattle.rdm_log.proofs.SampleLemmas.PartsLegal.{may_send_again}
use Rattle.rdm_log.proofs.laws.broken.wrong_frames.Goals as goal

-- the transaction numbers of two frames
at_number : (f g : List ℕ) → f ≡ g → get_or f 15 0 ≡ get_or g 15 0
at_number f g e = ap (λ l. get_or l 15 0) e

pub returns : goal.returns
unfolding joins accepts finishes collectors sends cames traded of_request verdicts result awaited is_paused is_closed
    answers_to asks answers has_begun entries_before_run last_run run_exchanges
returns c = record {
  same = may_send_again;
  other = λ may. let first = same_Some (record { client = 0; number = 0; request = sample_request }) may.accepted
      may.lowest in let number : 0 ≡ may.accepted.number = ap (λ (a : Accepted). a.number) first in
      omega (arith, may.number);
  number = λ may. let first = same_Some (record { client = 0; number = 0; request = sample_request }) may.accepted
      may.lowest in let packet = rw (← first) at may.packet in
      let n : 0 ≡ 1 = at_number sample_frame second_frame packet.1 in omega arith;
  skipped = λ may. let first = same_Some (record { client = 0; number = 0; request = sample_request }) may.accepted
      may.lowest in let packet = rw (← first) at may.packet in
      let n : 1 ≡ 0 = at_number second_frame sample_frame packet.1 in omega arith;
  paused = λ may. false≢true (sym may.not_paused);
}
