-- What a queue ends is in the log, and if it ends nothing, nothing is due.
use Rattle.rdm_queue.proofs.Common.{◌≡◌, ℕ, zero, suc, ◌≤◌, Bool, true, false, not, List, [], ◌∷◌, ◌++◌, length, Option}
use Rattle.rdm_queue.proofs.Common.{Some, None, slice_get, refl, sym, ap, ◌∙◌, subst, inl, inr, length-append, arith}
use Rattle.rdm_queue.proofs.Common.{◌⊎◌, ◌==◌, is_some, if◌then◌else◌, list_any, cases_Bool, or_parts, false≢true}
use Rattle.rdm_queue.proofs.Common.{none-some, list_any-append, FailedToSend, Joined, result_of, ended, or_if_open}
use Rattle.rdm_queue.proofs.Common.{next_op, HasRunBy, LogState, AgentState, fault_of, Op, AgentFault, Aborted}
use Rattle.rdm_queue.proofs.Common.{aborted_ends, runs-own, Opening, Entry, Answer, Accepted, AskedDiscovery, Answered}
use Rattle.rdm_queue.proofs.Common.{Sending, sends, answers, asks, verdicts, result, is_request, awaited, is_closed}
use Rattle.rdm_queue.proofs.Common.{unfinished, unanswered, has_begun, entries_before_run, last_run, is_answered}
use Rattle.rdm_queue.proofs.Common.{asked_before, run_kind, known_at_run, run_exchanges, MayAnswer, FaultNeedsClose}
use Rattle.rdm_queue.proofs.Common.{QueueState, RunState, due, end_of_oldest, owed_next, owed_for, is_closing}
use Rattle.rdm_queue.proofs.Common.{stopped_at, agent_at_end, answer_of, HasNothingDue, IsEnded, ByRun, ByResult}
use Rattle.rdm_queue.proofs.Common.{ByClose, IsRunning, IsNotRunning, RunIs, RunGoesOn, oldest_number, Describes}
use Rattle.rdm_queue.proofs.Common.{StandsAfter, StandsAmid, pushed, all_from_indices, answers-push, sends-push}
use Rattle.rdm_queue.proofs.Common.{LogFacts, legal_facts, later_unsent, unfinished_number, ask_facts, client_facts}
use Rattle.rdm_queue.proofs.Common.{last_run_same, agent_goes_on, some_at, asked_stays, asked_fewer, all_unserved}
use Rattle.rdm_agent.specs.declared.op.Op.TheVariants as ops
use Rattle.rdm_agent.specs.Bound.{EndsWithin}
use Rattle.rdm_agent.specs.Machine.{start_by, Runs}
use Rattle.rdm_agent.proofs.CallLemmas.{next_none}
use Rattle.rdm_agent.proofs.BoundRuns.{ends_in_bound_by, ends_in_noisy_bound}
use Rattle.rdm_log.specs.log.Runs.{unless_answered}
use Rattle.rdm_log.specs.log.Due.{NothingDue, AllAnswered}
use Rattle.rdm_log.specs.promises.InBound.{IsCalmOrNoisy}
use Rattle.rdm_queue.specs.body.Ending.{AnswersUnserved, NothingToEnd}
use Rattle.rdm_log.proofs.LogLemmas.ExchangeLemmas.{result_unsent}
use Rattle.rdm_queue.proofs.BodyLemmas.AfterLemmas.{pending_flag}
use Rattle.rdm_queue.proofs.BodyLemmas.DescribesRuns.{not_stopped, answers_with, stands_answer, known_kept, run_after}
use Rattle.rdm_queue.proofs.BodyLemmas.DescribesRuns.{exchanges_answered}
use Rattle.rdm_queue.proofs.BodyLemmas.RunningLemmas.{left_pushed}
use Rattle.rdm_queue.proofs.BodyLemmas.TakeLemmas.{not_running, running, run_opened}
use Rattle.rdm_queue.proofs.BodyLemmas.EndRequests.{undecided, finish_amid}
use Rattle.rdm_queue.proofs.BodyLemmas.EndRuns.{at_end, ended_same, answer_amid, and_left, and_right}
use Rattle.rdm_log.proofs.LogLemmas.BegunLemmas.{in_order, all_answered, none_begun}
use Rattle.rdm_log.proofs.LogLemmas.KeyLemmas.{from_not}

-- a close that finds no request to finish finds none
closing_end : (decided : Option Joined) (closing : Bool) → closing ≡ true
    → or_if_open decided (if closing then Some (ended FailedToSend) else None) ≡ None → ⊥
closing_end (Some j) closing is none = none-some j (sym none)
closing_end None true is none = none-some (ended FailedToSend) (sym none)
closing_end None false is none = false≢true is

none_due : (end : Option Joined) (waiting : List Accepted) → owed_next end waiting ≡ None → (waiting ≡ [])
    ⊎ (end ≡ None)
none_due (Some done) (a ∷ rest) is = absurd (none-some (owed_for done a) (sym is))
none_due (Some done) [] is = inl refl
none_due None waiting is = inr refl

none_waits : (s : QueueState) → is_closing s ≡ true → due s ≡ None → s.waiting ≡ []
none_waits s closing none = by_end (none_due (end_of_oldest s) s.waiting none)
  where
    by_end : (s.waiting ≡ []) ⊎ (end_of_oldest s ≡ None) → s.waiting ≡ []
    by_end (inl empty) = empty
    by_end (inr end) = absurd (closing_end s.decided (is_closing s) closing end)

closed_of : (o : Opening) (h : List Entry) (s : QueueState) → is_closing s ≡ true → Describes o h s
    → is_closed o h ≡ true
closed_of o h s closing stands = sym stands.closed_is ∙ and_left s.closed (not (is_some s.awaited)) closing

idle_of : (s : QueueState) → is_closing s ≡ true → is_some s.awaited ≡ false
idle_of s closing = from_not (is_some s.awaited) (and_right s.closed (not (is_some s.awaited)) closing)

-- the oldest discovery, which no run serves, is answered at a close
pub unserved_amid : (o : Opening) (h : List Entry) (s new : QueueState) (entry : Entry) → s.run ≡ None → due s ≡ None
    → AnswersUnserved s entry new → StandsAmid o h s → StandsAmid o (h ++ entry ∷ []) new
unserved_amid o h s new entry none none_left answers_ amid = rw (answers_.entry_is, answers_.new_is) (record {
  each = pushed o h e amid.each may;
  stands = stands_answer o h s a 0 (Some Aborted) [] s.run s.agent s.devices s.devices_run amid.each may
      (ask_facts o h amid.each) (client_facts o h amid.each) oldest refl
      (no_wait s.awaited (idle_of s answers_.closing))
      (amid.stands.devices_are ∙ known_kept o h a.number 0 Aborted)
      (amid.stands.devices_run_is ∙ run_after o h a.number 0 (Some Aborted)) left_over amid.stands;
})
  where
    a : AskedDiscovery
    a = answers_.asked

    e : Entry
    e = answer_of a 0 (Some Aborted)

    k : List Entry
    k = h ++ e ∷ []

    before : IsNotRunning o h s.agent
    before = not_running o h s none amid.stands

    oldest : slice_get (unanswered h) 0 ≡ Some a
    oldest = ap (λ l. slice_get l 0) (sym amid.stands.asked_are) ∙ answers_.oldest

    no_wait : {X : Type 0} (w : Option X) → is_some w ≡ false → w ≡ None
    no_wait None is = refl
    no_wait (Some x) is = absurd (false≢true (sym is))

    may : MayAnswer o h a.number 0 (Some Aborted)
    may = record {
      asked = a;
      oldest = oldest;
      number = refl;
      by_run = λ some. absurd (some refl);
      unserved = λ zero_. record {
        closing = record {
          closed = closed_of o h s answers_.closing amid.stands;
          not_awaited = sym (pending_flag o h s s.awaited amid.stands.awaited_is) ∙ idle_of s answers_.closing;
          runs_answered = sym (all_unserved h before.none_left);
        };
        aborted = refl;
        last = sym amid.stands.waiting_are ∙ none_waits s answers_.closing none_left;
      };
    }

    same_last : last_run k ≡ last_run h
    same_last = last_run_same h k (sends-push h e)

    still_none : (last : Option ℕ) → unless_answered last h ≡ None → unless_answered last k ≡ None
    still_none None is = refl
    still_none (Some r) is = by_named (cases_Bool (is_answered r h))
      where
        by_named : (is_answered r h ≡ true) ⊎ (is_answered r h ≡ false) → unless_answered (Some r) k ≡ None
        by_named (inl named) =
            rw (answers-push h e, list_any-append (λ (b : Answered). b.run == r) (answers h) _, named) refl
        by_named (inr not) = absurd (none-some r (sym (rw not at is)))

    next : QueueState
    next = answers_with s a 0 (Some Aborted) [] s.run s.agent s.devices s.devices_run

    left_over : RunIs o k next s.run
    left_over =
        subst (λ q. RunIs o k next q) (sym none) (record {
          none_open = rw same_last (still_none (last_run h) before.none_open);
          none_left = rw (same_last, asked_stays h e (last_run h) refl)
              (let old = before.none_left in
              let grown = ap (λ l. length l) (answers-push h e) ∙ length-append (answers h) _ in omega arith);
          left = rw same_last
              (left_pushed o h e s.agent (last_run h) refl (exchanges_answered h a.number 0 (Some Aborted))
              before.left);
        })

-- whatever is ended
pub ends_amid : (o : Opening) (h : List Entry) (s new : QueueState) (entry : Entry) → IsEnded s entry new
    → StandsAmid o h s → StandsAmid o (h ++ entry ∷ []) new
ends_amid o h s new entry (ByRun e) amid =
    rw (e.answers.entry_is, e.answers.new_is)
    (answer_amid o h s e.answers.run e.answers.asked e.answers.run_is e.answers.ended e.answers.oldest amid)
ends_amid o h s new entry (ByResult e) amid =
    rw (e.finishes.entry_is, e.finishes.new_is) (finish_amid o h s e.finishes.owed e.no_run e.finishes.was_due amid)
ends_amid o h s new entry (ByClose e) amid = unserved_amid o h s new entry e.no_run e.no_request e.answers amid

-- an Answer with a fault needs a close, on a calm or noisy line with a sufficient budget
in_bound_at : (k : LogState) (n r : ℕ) (a : AgentState) (aborted : Bool)
    → HasRunBy k.opening.search (run_kind r k.entries) (known_at_run k.opening r k.entries) k.opening.budget aborted
    (run_exchanges r k.entries) a
    → (aborted ≡ true → is_closed k.opening k.entries ≡ true) → next_op a ≡ ops.End
    → (f : Option AgentFault) → fault_of a.phase ≡ f → FaultNeedsClose k (Answer n r f)
in_bound_at k n r a aborted s closed end None is = tt
in_bound_at k n r a true s closed end (Some fault) is = λ present run. closed refl
in_bound_at k n r a false s closed end (Some fault) is =
    λ present run. absurd (none-some fault (sym ((within present run).1.no_fault (next_none a end)) ∙ is))
  where
    runs : Runs (start_by k.opening.search (run_kind r k.entries) (known_at_run k.opening r k.entries) k.opening.budget)
        (run_exchanges r k.entries) a
    runs = runs-own _ _ _ _ a s

    within : (present : List ℕ) → IsCalmOrNoisy k r present → (most : ℕ) × EndsWithin most a
    within present (inl calm) = (
      _,
      ends_in_bound_by k.opening.search _ _ _ (run_exchanges r k.entries) a s.devices runs present calm.calm
          calm.budgeted,
    )
    within present (inr noisy) = (
      _,
      ends_in_noisy_bound _ _ _ (run_exchanges r k.entries) a s.devices (rw noisy.1.quick at runs) present noisy.0
          noisy.1.noisy noisy.1.budgeted,
    )

pub ends_in_bound_amid : (k : LogState) (s new : QueueState) (entry : Entry) → IsEnded s entry new
    → StandsAmid k.opening k.entries s → FaultNeedsClose k entry
ends_in_bound_amid k s new entry (ByRun e) amid =
    let run = running k.opening k.entries s e.answers.run e.answers.run_is amid.stands in
    let ends = at_end k.opening k.entries s e.answers.run run amid.stands in
    rw e.answers.entry_is
    (in_bound_at k e.answers.asked.number e.answers.run.number (agent_at_end s) ends.aborted ends.has_run ends.closed
    e.answers.ended (fault_of (agent_at_end s).phase) refl)
ends_in_bound_amid k s new entry (ByResult e) amid = rw e.finishes.entry_is tt
ends_in_bound_amid k s new entry (ByClose e) amid =
    rw e.answers.entry_is (λ present run. closed_of k.opening k.entries s e.answers.closing amid.stands)

-- if nothing is to be ended, nothing is due: the results
unsent_at : (n : ℕ) (ss : List Sending) → list_any (λ (x : Sending). is_request n x.owner) ss ≡ false
    → (i : ℕ) (x : Sending) → slice_get ss i ≡ Some x → is_request n x.owner ≡ false
unsent_at n [] none i x at = absurd (none-some x at)
unsent_at n (y ∷ ss) none zero x at =
    let parts = or_parts (is_request n y.owner) _ none in let same : y ≡ x = cc in rw (← same) parts.0
unsent_at n (y ∷ ss) none (suc i) x at =
    let parts = or_parts (is_request n y.owner) _ none in unsent_at n ss parts.1 i x at

results_open : (o : Opening) (h : List Entry) (s : QueueState) → LogFacts o h → result (oldest_number o h) h ≡ None
    → (i : ℕ) (a : Accepted) → slice_get (unfinished h) i ≡ Some a → result a.number h ≡ None
results_open o h s facts open_ zero a at =
    ap (λ (m : ℕ). result m h) (unfinished_number o h facts 0 a at ∙ omega arith) ∙ open_
results_open o h s facts open_ (suc i) a at =
    result_unsent h a.number
    (later_unsent o h facts a.number (let number = unfinished_number o h facts (suc i) a at in omega arith))

no_request : (h : List Entry) → unfinished h ≡ [] → (i : ℕ) (a : Accepted) → slice_get (unfinished h) i ≡ Some a → ⊥
no_request h none i a at = none-some a (rw none at at)

open_end : (decided : Option Joined) (closing : Bool)
    → or_if_open decided (if closing then Some (ended FailedToSend) else None) ≡ None → decided ≡ None
open_end (Some j) closing is = absurd (none-some j (sym is))
open_end None closing is = refl

-- if no run is open
settled_idle : (o : Opening) (h : List Entry) (s : QueueState) → s.run ≡ None → due s ≡ None
    → (is_closing s ≡ true → s.asked ≡ []) → StandsAmid o h s → NothingDue o h
unfolding result
settled_idle o h s none none_left asked amid = record {
  results_open =
      all_from_indices (λ a. result a.number h ≡ None) (unfinished h)
      (by_end (none_due (end_of_oldest s) s.waiting none_left));
  runs_answered =
      all_from_indices (λ b. AllAnswered b.run h) (answers h)
      (λ i b at. all_answered o h b.run (ask_facts o h amid.each)
      (λ begun. all_below b.run begun (last_run h) refl));
  run_goes_on = rw before.none_open tt;
  all_closed =
      λ closed idle. let closing = closing_of closed idle in
      (sym amid.stands.waiting_are ∙ none_waits s closing none_left, sym amid.stands.asked_are ∙ asked closing);
}
  where
    facts : LogFacts o h
    facts = legal_facts o h amid.each

    before : IsNotRunning o h s.agent
    before = not_running o h s none amid.stands

    by_end : (s.waiting ≡ []) ⊎ (end_of_oldest s ≡ None) → (i : ℕ) (a : Accepted) → slice_get (unfinished h) i ≡ Some a
        → result a.number h ≡ None
    by_end (inl empty) i a at = absurd (no_request h (sym amid.stands.waiting_are ∙ empty) i a at)
    by_end (inr end) i a at =
        results_open o h s facts
        (undecided (result_of (verdicts (oldest_number o h) h)) (verdicts (oldest_number o h) h) s.decided s.joiner
        (open_end s.decided (is_closing s) end) amid.stands.standing) i a at

    all_below : (q : ℕ) → has_begun q h ≡ true → (last : Option ℕ) → last_run h ≡ last
        → length (asks (entries_before_run q h)) ≤ length (answers h)
    all_below q begun None is = absurd (none_begun q h is begun)
    all_below q begun (Some r) is = by_order (in_order o h amid.each r is q begun)
      where
        below : length (asks (entries_before_run r h)) ≤ length (answers h)
        below = rw is at before.none_left

        by_order : (q ≡ r)
            ⊎ (length (asks (entries_before_run q h)) ≤ asked_before (last_run (entries_before_run r h))
            (entries_before_run r h)) → length (asks (entries_before_run q h)) ≤ length (answers h)
        by_order (inl same) = rw same below
        by_order (inr less) = let most = asked_fewer (entries_before_run r h) in let all = below in omega arith

    closing_of : is_closed o h ≡ true → awaited h ≡ false → is_closing s ≡ true
    closing_of closed idle =
        rw (amid.stands.closed_is, closed, pending_flag o h s s.awaited amid.stands.awaited_is, idle) refl

-- if a run is open
stopped_ends : (op : Op) (a : AgentState) → next_op a ≡ op → next_op (stopped_at op a) ≡ ops.End
stopped_ends ops.End a is = is
stopped_ends ops.UnmuteAll a is = aborted_ends a
stopped_ends (ops.Mute u) a is = aborted_ends a
stopped_ends (ops.Branch range) a is = aborted_ends a

settled_running : (o : Opening) (h : List Entry) (s : QueueState) (r : RunState) → s.run ≡ Some r
    → (next_op (agent_at_end s) ≡ ops.End → ⊥) → StandsAmid o h s → NothingDue o h
settled_running o h s r is goes amid = record {
  results_open =
      all_from_indices (λ a. result a.number h ≡ None) (unfinished h)
      (results_open o h s facts
      (result_unsent h (oldest_number o h)
      (unsent_at (oldest_number o h) (sends h) (sym amid.stands.under_way_is ∙ run.no_request))));
  runs_answered =
      all_from_indices (λ b. AllAnswered b.run h) (answers h)
      (λ i b at. all_answered o h b.run (ask_facts o h amid.each)
      (λ begun. earlier i b at (in_order o h amid.each r.number run.last b.run begun)));
  run_goes_on =
      rw (run_opened o h s r is now amid.stands)
      (agent_goes_on o h r.number s.agent (not_stopped _ _ _ run.aborted _ s.agent run.has_run now) now);
  all_closed =
      λ closed idle. absurd
      (goes (ended_at
      (rw (amid.stands.closed_is, closed, pending_flag o h s s.awaited amid.stands.awaited_is, idle) refl)));
}
  where
    facts : LogFacts o h
    facts = legal_facts o h amid.each

    run : IsRunning o h s r
    run = running o h s r is amid.stands

    now : next_op s.agent ≡ ops.End → ⊥
    now end = goes (ap (λ (a : AgentState). next_op a) (ended_same s end) ∙ end)

    ended_at : is_closing s ≡ true → next_op (agent_at_end s) ≡ ops.End
    ended_at closing = rw closing (stopped_ends (next_op s.agent) s.agent refl)

    earlier : (i : ℕ) (b : Answered) → slice_get (answers h) i ≡ Some b → (b.run ≡ r.number)
        ⊎ (length (asks (entries_before_run b.run h)) ≤ asked_before (last_run (entries_before_run r.number h))
        (entries_before_run r.number h)) → length (asks (entries_before_run b.run h)) ≤ length (answers h)
    earlier i b at (inl own) = absurd (now (run.ended (some_at r.number (answers h) i b at own)))
    earlier i b at (inr less) = let all = run.earlier in omega arith

pub settled_after : (o : Opening) (h : List Entry) (s : QueueState) → HasNothingDue s → StandsAmid o h s
    → StandsAfter o h s
settled_after o h s nothing amid = by_run s.run refl nothing
  where
    by_run : (run : Option RunState) → s.run ≡ run → NothingToEnd run s → StandsAfter o h s
    by_run None is left = record {
      legal = record { each = amid.each; settled = settled_idle o h s is left.0 left.1 amid };
      stands = amid.stands;
      goes_on = subst (λ q. RunGoesOn q s.agent) (sym is) tt;
    }
    by_run (Some r) is left = record {
      legal = record { each = amid.each; settled = settled_running o h s r is left.goes_on amid };
      stands = amid.stands;
      goes_on = subst (λ q. RunGoesOn q s.agent) (sym is)
          (λ end. left.goes_on (ap (λ (a : AgentState). next_op a) (ended_same s end) ∙ end));
    }
