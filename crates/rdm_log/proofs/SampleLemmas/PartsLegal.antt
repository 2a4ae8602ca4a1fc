-- A log whose request is answered in two parts is legal.
use Rattle.rdm_log.proofs.Common.{◌≡◌, [], Some, refl, inl, arith, false≢true, Reply, Came, Finish, Completed, joins}
use Rattle.rdm_log.proofs.Common.{accepts, sends, cames, finishes, collectors, traded, of_request, verdicts, result}
use Rattle.rdm_log.proofs.Common.{asks, answers, has_begun, entries_before_run, last_run, run_exchanges, awaited}
use Rattle.rdm_log.proofs.Common.{is_paused, is_closed, answers_to, MaySendRequest, Legal, sample_request, sample_frame}
use Rattle.rdm_log.proofs.Common.{second_frame}
use Rattle.rdm_log.specs.samples.Sample.{accepted_two}
use Rattle.rdm_log.specs.samples.SampleParts.{wide_opening, first_part, last_part, sent_part, came_part, sent_again}
use Rattle.rdm_log.specs.samples.SampleParts.{came_again, joined_log, joined_parts}
use Rattle.rdm_log.proofs.LogLemmas.Grows.{empty, pushed}
use Rattle.rdm_log.proofs.LogLemmas.KeepsLegal.{join_keeps, accept_keeps, send_keeps}
use Rattle.rdm_log.proofs.SampleLemmas.SampleLegal.{sample_fits, may_send_oldest}

pub two_accepted : Legal wide_opening accepted_two
unfolding joins accepts finishes collectors is_closed answers_to asks answers sends has_begun entries_before_run
    last_run run_exchanges
two_accepted =
    accept_keeps wide_opening _ (record { 0 = 0 }) 1 sample_request
    (accept_keeps wide_opening _ (record { 0 = 0 }) 0 sample_request
    (join_keeps wide_opening [] (record { 0 = 0 }) 2 (empty wide_opening) refl refl) refl refl) refl refl

pub may_send_first : MaySendRequest wide_opening accepted_two 0 (record { items = sample_frame })
unfolding accepts finishes sends awaited is_paused is_closed asks answers has_begun entries_before_run last_run
    run_exchanges
may_send_first =
    may_send_oldest wide_opening _ _ refl refl refl refl refl refl refl (sample_fits 0 (omega arith), refl)

pub may_send_again : MaySendRequest wide_opening came_part 0 (record { items = second_frame })
unfolding accepts finishes sends awaited is_paused is_closed asks answers has_begun entries_before_run last_run
    run_exchanges
may_send_again =
    may_send_oldest wide_opening _ _ refl refl refl refl refl refl refl (sample_fits 1 (omega arith), refl)

part_came : Legal wide_opening came_part
unfolding accepts finishes sends cames traded of_request verdicts result awaited is_closed asks answers has_begun
    entries_before_run last_run run_exchanges
part_came =
    let sent = send_keeps wide_opening accepted_two 0 (record { items = sample_frame }) two_accepted may_send_first in
    record {
      each = pushed wide_opening sent_part (Came (Reply (record { items = first_part }))) sent.each
          (sent.settled, refl);
      settled = record {
        results_open = (refl, (refl, tt));
        runs_answered = tt;
        run_goes_on = tt;
        all_closed = λ closed idle. absurd (false≢true closed);
      };
    }

pub joined : result 0 joined_log ≡ Some joined_parts
unfolding sends cames traded of_request verdicts result
joined = refl

pub joined_legal : Legal wide_opening joined_log
unfolding accepts finishes sends cames traded of_request verdicts result awaited is_closed asks answers has_begun
    entries_before_run last_run run_exchanges
joined_legal =
    let sent = send_keeps wide_opening came_part 0 (record { items = second_frame }) part_came may_send_again in
    let came = pushed wide_opening sent_again (Came (Reply (record { items = last_part }))) sent.each
    (sent.settled, refl) in
    record {
      each = pushed wide_opening came_again (Finish 0 Completed 3) came (record {
        accepted = record { client = 0; number = 0; request = sample_request };
        oldest = refl;
        number = refl;
        fits = inl (refl, refl);
      });
      settled = record {
        results_open = (refl, tt);
        runs_answered = tt;
        run_goes_on = tt;
        all_closed = λ closed idle. absurd (false≢true closed);
      };
    }
