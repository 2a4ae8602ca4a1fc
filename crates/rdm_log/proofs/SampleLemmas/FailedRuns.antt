-- The sample logs whose run fails or is aborted.
use Rattle.rdm_log.proofs.Common.{◌≡◌, true, false, List, [], Some, refl, arith, slice_get, ◌==◌, list_any, false≢true}
use Rattle.rdm_log.proofs.Common.{unmute_frame, Unmute, FailedToSend, Kind, Full, Incremental, LineFailed, Aborted}
use Rattle.rdm_log.proofs.Common.{Entry, Came, Finish, Answer, Close, joins, accepts, asks, sends, cames, finishes}
use Rattle.rdm_log.proofs.Common.{answers, collectors, traded, of_request, verdicts, result, awaited, is_paused}
use Rattle.rdm_log.proofs.Common.{is_closed, unfinished, unanswered, answers_to, has_begun, entries_before_run}
use Rattle.rdm_log.proofs.Common.{last_run, run_exchanges, served, unserved, GoesOn, MaySendRun, MayFollow, Legal}
use Rattle.rdm_log.proofs.Common.{sample_opening, sample_request, first_client, source, asked_one, begun_run}
use Rattle.rdm_log.proofs.Common.{asked_during, answered_failed, aborted_log}
use Rattle.rdm_join.specs.declared.event.LineEvent.TheVariants as came
use Rattle.rdm_log.specs.samples.SampleRuns.{failed_run, closed_failed, closed_run, closed_amid, aborted_first}
use Rattle.rdm_log.specs.samples.SampleRuns.{then_unsent}
use Rattle.rdm_log.proofs.LogLemmas.Grows.{pushed, empty}
use Rattle.rdm_log.proofs.LogLemmas.KeepsLegal.{join_keeps, ask_keeps, run_send_keeps}
use Rattle.rdm_log.proofs.SampleLemmas.RunsLegal.{goes_on, begins, not_zero}

-- a run whose line fails
legal_asked : Legal sample_opening asked_one
unfolding accepts asks sends cames finishes answers collectors traded of_request verdicts result awaited is_paused
    is_closed answers_to joins has_begun entries_before_run last_run run_exchanges
legal_asked =
    ask_keeps sample_opening _ first_client 0 Full
    (join_keeps sample_opening [] first_client 1 (empty sample_opening) refl refl) refl refl

pub may_begin : MaySendRun sample_opening asked_one 1 (record { items = unmute_frame source 0 })
unfolding accepts asks sends cames finishes answers collectors traded of_request verdicts result awaited is_paused
    is_closed answers_to joins has_begun entries_before_run last_run run_exchanges
may_begin = begins _ refl refl (record {
  not_paused = refl;
  no_run = refl;
  no_request = refl;
  asked = (λ none. cc);
  number = refl;
  from_one = omega arith;
}) refl refl

legal_begun : Legal sample_opening begun_run
legal_begun = run_send_keeps sample_opening asked_one 1 (record { items = unmute_frame source 0 }) legal_asked may_begin

legal_during : Legal sample_opening asked_during
unfolding accepts asks sends cames finishes answers collectors traded of_request verdicts result awaited is_paused
    is_closed answers_to joins has_begun entries_before_run last_run run_exchanges
legal_during = ask_keeps sample_opening begun_run first_client 1 Incremental legal_begun refl refl

may_answer_failed : MayFollow sample_opening failed_run (Answer 0 1 (Some LineFailed))
unfolding accepts asks sends cames finishes answers collectors traded of_request verdicts result awaited is_paused
    is_closed answers_to joins has_begun entries_before_run last_run run_exchanges
may_answer_failed = record {
  asked = record { client = 0; number = 0; kind = Full };
  oldest = refl;
  number = refl;
  by_run = λ run. record {
    not_awaited = refl;
    serves = refl;
    agrees = tt;
    shows = (
      (record { before = []; asked = Unmute; whole = refl }, omega arith),
      λ done. done.search.no_failure.0 refl,
    );
  };
  unserved = λ none. absurd (not_zero 1 (omega arith) none);
}

failed_answered : Legal sample_opening answered_failed
unfolding accepts asks sends cames finishes answers collectors traded of_request verdicts result awaited is_paused
    is_closed answers_to joins has_begun entries_before_run last_run run_exchanges
failed_answered = record {
  each = pushed sample_opening failed_run (Answer 0 1 (Some LineFailed))
      (pushed sample_opening asked_during (Came came.Failed) legal_during.each (legal_during.settled, refl))
      may_answer_failed;
  settled = record {
    results_open = tt;
    runs_answered = ((refl, tt), tt);
    run_goes_on = tt;
    all_closed = λ closed idle. absurd (false≢true closed);
  };
}

may_answer_after_close : (h : List Entry) (kind : Kind)
    → slice_get (unanswered h) 0 ≡ Some (record { client = 0; number = 1; kind = kind })
    → is_closed sample_opening h ≡ true → awaited h ≡ false → unanswered h ≡ unserved h → unfinished h ≡ []
    → MayFollow sample_opening h (Answer 1 0 (Some Aborted))
may_answer_after_close h kind oldest closed not_awaited answered last = record {
  asked = record { client = 0; number = 1; kind = kind };
  oldest = oldest;
  number = refl;
  by_run = λ run. absurd (run refl);
  unserved = λ none. record {
    closing = record { closed = closed; not_awaited = not_awaited; runs_answered = answered };
    aborted = refl;
    last = last;
  };
}

may_answer_unserved : MayFollow sample_opening closed_failed (Answer 1 0 (Some Aborted))
unfolding accepts asks sends cames finishes answers collectors traded of_request verdicts result awaited is_paused
    is_closed answers_to joins has_begun entries_before_run last_run run_exchanges
may_answer_unserved = may_answer_after_close closed_failed Incremental refl refl refl refl refl

pub failed : Legal sample_opening aborted_log
unfolding accepts asks sends cames finishes answers collectors traded of_request verdicts result awaited is_paused
    is_closed answers_to joins has_begun entries_before_run last_run run_exchanges
failed = record {
  each = pushed sample_opening closed_failed (Answer 1 0 (Some Aborted))
      (pushed sample_opening answered_failed Close failed_answered.each (failed_answered.settled, refl))
      may_answer_unserved;
  settled = record {
    results_open = tt;
    runs_answered = ((refl, tt), (tt, tt));
    run_goes_on = tt;
    all_closed = λ closed idle. (refl, refl);
  };
}

-- a run that a close interrupts is aborted
may_abort_one : (h : List Entry)
    → slice_get (unanswered h) 0 ≡ Some (record { client = 0; number = 0; kind = Full })
    → awaited h ≡ false → list_any (λ a. a.number == 0) (served 1 h) ≡ true → answers h ≡ []
    → is_closed sample_opening h ≡ true → GoesOn sample_opening h 1
    → MayFollow sample_opening h (Answer 0 1 (Some Aborted))
may_abort_one h oldest not_awaited serves none closed goes = record {
  asked = record { client = 0; number = 0; kind = Full };
  oldest = oldest;
  number = refl;
  by_run = λ run. record {
    not_awaited = not_awaited;
    serves = serves;
    agrees = rw none tt;
    shows = ((record { closed = closed; goes_on = goes }, goes.all_reported), goes.not_done);
  };
  unserved = λ none. absurd (not_zero 1 (omega arith) none);
}

pub may_abort : MayFollow sample_opening closed_run (Answer 0 1 (Some Aborted))
unfolding accepts asks sends cames finishes answers collectors traded of_request verdicts result awaited is_paused
    is_closed answers_to joins has_begun entries_before_run last_run run_exchanges
may_abort =
    may_abort_one closed_run refl refl refl refl refl
    (goes_on closed_run 1 _ refl refl refl refl (omega arith) (omega arith))

pub may_abort_first : MayFollow sample_opening closed_amid (Answer 0 1 (Some Aborted))
unfolding accepts asks sends cames finishes answers collectors traded of_request verdicts result awaited is_paused
    is_closed answers_to joins has_begun entries_before_run last_run run_exchanges
may_abort_first =
    may_abort_one closed_amid refl refl refl refl refl
    (goes_on closed_amid 1 _ refl refl refl refl (omega arith) (omega arith))

pub may_finish_then : MayFollow sample_opening aborted_first (Finish 0 FailedToSend 0)
unfolding accepts asks sends cames finishes answers collectors traded of_request verdicts result awaited is_paused
    is_closed answers_to joins has_begun entries_before_run last_run run_exchanges
may_finish_then = record {
  accepted = record { client = 0; number = 0; request = sample_request };
  oldest = refl;
  number = refl;
  fits = (record { closed = refl; not_awaited = refl; runs_answered = refl }, refl, refl);
}

pub may_answer_last : MayFollow sample_opening then_unsent (Answer 1 0 (Some Aborted))
unfolding accepts asks sends cames finishes answers collectors traded of_request verdicts result awaited is_paused
    is_closed answers_to joins has_begun entries_before_run last_run run_exchanges
may_answer_last = may_answer_after_close then_unsent Full refl refl refl refl refl
