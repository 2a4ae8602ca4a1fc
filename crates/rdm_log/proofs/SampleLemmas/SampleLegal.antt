-- The sample log is legal.
use Rattle.rdm_log.proofs.Common.{◌≡◌, ℕ, ◌<◌, true, false, List, [], ◌∷◌, refl, sym, inl, true≢false, arith, inr, ◌≢◌}
use Rattle.rdm_log.proofs.Common.{Join, Accept, Send, Came, Finish, Collect, Close, Reply, Timeout, joins, accepts}
use Rattle.rdm_log.proofs.Common.{sends, cames, finishes, collectors, traded, of_request, verdicts, result, asks}
use Rattle.rdm_log.proofs.Common.{answers, has_begun, entries_before_run, last_run, run_exchanges, awaited, is_paused}
use Rattle.rdm_log.proofs.Common.{is_closed, answers_to, NothingDue, MayFollow, Legal, sample_opening, sample_request}
use Rattle.rdm_log.proofs.Common.{sample_frame, join_only, accepted_one, sent_one, finished_one, collected_one}
use Rattle.rdm_log.proofs.Common.{closed_log, None, Some, slice_get, Opening, Entry, open_run, unfinished, unserved}
use Rattle.rdm_log.proofs.Common.{next_tn, MaySendRequest}
use Rattle.rdm_wire.specs.Packet.{FieldsFit, Packet}
use Rattle.rdm_wire.specs.CommandFrames.{request_fields}
use Rattle.rdm_log.specs.declared.entry.Owner.TheVariants as owners
use Rattle.rdm_log.specs.samples.Sample.{came_one}
use Rattle.rdm_log.proofs.LogLemmas.Grows.{pushed, empty}

no_close : {A : Type 0} → false ≡ true → A
no_close h = absurd (true≢false (sym h))

pub some_list : {X : Type 0} (x : X) (xs : List X) → x ∷ xs ≢ []
some_list x xs h = cc

-- the fields of the sample request, whatever its transaction number
pub sample_fits : (tn : ℕ) → tn < 256 → FieldsFit (request_fields sample_request 0x7a7000000100 tn)
sample_fits tn small = record {
  dest = omega arith;
  source = omega arith;
  tn = omega (arith, small);
  port_or_type = omega arith;
  count = omega arith;
  sub_device = omega arith;
  class = omega arith;
  pid = omega arith;
  param = omega arith;
}

-- the sample request, of client 0, may be sent: it is the oldest, and no discovery waits
pub may_send_oldest : (o : Opening) (h : List Entry) (frame : List ℕ) → awaited h ≡ false → is_closed o h ≡ false
    → is_paused o h ≡ false → open_run h ≡ None
    → slice_get (unfinished h) 0 ≡ Some (record { client = 0; number = 0; request = sample_request })
    → unserved h ≡ [] → o.source ≡ 0x7a7000000100
    → Packet (request_fields sample_request 0x7a7000000100 (next_tn o h)) frame
    → MaySendRequest o h 0 (record { items = frame })
may_send_oldest o h frame not_awaited not_closed not_paused no_run lowest none source packet = record {
  not_awaited = not_awaited;
  not_closed = not_closed;
  not_paused = not_paused;
  no_run = no_run;
  accepted = record { client = 0; number = 0; request = sample_request };
  lowest = lowest;
  number = refl;
  turn = inr none;
  packet = rw source packet;
}

due_join : NothingDue sample_opening join_only
unfolding accepts finishes is_closed asks answers sends has_begun entries_before_run last_run run_exchanges
due_join = record { results_open = tt; runs_answered = tt; run_goes_on = tt; all_closed = λ c w. no_close c }

pub due_accept : NothingDue sample_opening accepted_one
unfolding accepts finishes sends cames traded of_request verdicts result is_closed asks answers has_begun
    entries_before_run last_run run_exchanges
due_accept = record { results_open = (refl, tt); runs_answered = tt; run_goes_on = tt; all_closed = λ c w. no_close c }

due_sent : NothingDue sample_opening sent_one
unfolding accepts finishes sends cames traded of_request verdicts result is_closed asks answers has_begun
    entries_before_run last_run run_exchanges
due_sent = record { results_open = (refl, tt); runs_answered = tt; run_goes_on = tt; all_closed = λ c w. no_close c }

due_finished : NothingDue sample_opening finished_one
unfolding accepts finishes is_closed asks answers sends has_begun entries_before_run last_run run_exchanges
due_finished = record { results_open = tt; runs_answered = tt; run_goes_on = tt; all_closed = λ c w. no_close c }

due_collected : NothingDue sample_opening collected_one
unfolding accepts finishes is_closed asks answers sends has_begun entries_before_run last_run run_exchanges
due_collected = record { results_open = tt; runs_answered = tt; run_goes_on = tt; all_closed = λ c w. no_close c }

pub due_closed : NothingDue sample_opening closed_log
unfolding accepts finishes asks answers sends has_begun entries_before_run last_run run_exchanges
due_closed = record { results_open = tt; runs_answered = tt; run_goes_on = tt; all_closed = λ c w. (refl, refl) }

may_join : MayFollow sample_opening [] (Join (record { 0 = 0 }) 1)
unfolding joins is_closed
may_join = ((empty sample_opening).settled, refl, refl)

may_accept : MayFollow sample_opening join_only (Accept (record { 0 = 0 }) 0 sample_request)
unfolding joins accepts finishes collectors is_closed answers_to asks answers sends has_begun entries_before_run
    last_run run_exchanges
may_accept = (due_join, refl, refl)

pub may_send : MayFollow sample_opening accepted_one (Send (owners.Request 0) (record { items = sample_frame }))
unfolding accepts finishes sends awaited is_paused is_closed asks answers has_begun entries_before_run last_run
    run_exchanges
may_send = (
  due_accept,
  may_send_oldest sample_opening _ _ refl refl refl refl refl refl refl (sample_fits 0 (omega arith), refl),
)

may_come : MayFollow sample_opening sent_one (Came (Reply (record { items = [] })))
unfolding awaited
may_come = (due_sent, refl)

may_finish : MayFollow sample_opening came_one (Finish 0 Timeout 0)
unfolding accepts finishes sends cames traded of_request verdicts result asks answers has_begun entries_before_run
    last_run run_exchanges
may_finish = record {
  accepted = record { client = 0; number = 0; request = sample_request };
  oldest = refl;
  number = refl;
  fits = inl (refl, refl);
}

may_collect : MayFollow sample_opening finished_one (Collect (record { 0 = 0 }))
unfolding accepts collectors answers_to asks answers sends has_begun entries_before_run last_run run_exchanges
may_collect = (due_finished, some_list _ _)

may_close : MayFollow sample_opening collected_one Close
unfolding is_closed
may_close = (due_collected, refl)

pub sample : Legal sample_opening closed_log
sample = record {
  each = pushed sample_opening collected_one _
      (pushed sample_opening finished_one _ (pushed sample_opening came_one _ (pushed sample_opening sent_one _
      (pushed sample_opening accepted_one _
      (pushed sample_opening join_only _ (pushed sample_opening [] _ (empty sample_opening).each may_join)
      may_accept) may_send) may_come) may_finish) may_collect) may_close;
  settled = due_closed;
}
