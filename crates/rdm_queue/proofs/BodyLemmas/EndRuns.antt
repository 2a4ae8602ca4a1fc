-- The oldest discovery is answered by its run, or at a close.
use Rattle.rdm_queue.proofs.Common.{◌≡◌, ℕ, ◌+◌, ◌-◌, ◌<◌, ◌≤◌, Bool, true, false, not, List, [], ◌∷◌, ◌++◌, length}
use Rattle.rdm_queue.proofs.Common.{Option, Some, None, slice_get, refl, sym, ap, ◌∙◌, subst, inl, inr, length-append}
use Rattle.rdm_queue.proofs.Common.{arith, ◌⊎◌, ◌==◌, ◌&&◌, ◌||◌, is_some, nat_lt, if◌then◌else◌, list_any, false≢true}
use Rattle.rdm_queue.proofs.Common.{eq-eqb, ne_eqb, ltb-true, ltb-false, list_any-append, Sent, next_op, HasRunBy}
use Rattle.rdm_queue.proofs.Common.{AgentState, fault_of, Op, AgentFault, runs-own, Opening, Entry, Awaited}
use Rattle.rdm_queue.proofs.Common.{AskedDiscovery, Answered, asks, answers, is_closed, unanswered, was_sent, has_begun}
use Rattle.rdm_queue.proofs.Common.{entries_before_run, last_run, is_answered, asked_before, unserved, run_exchanges}
use Rattle.rdm_queue.proofs.Common.{run_devices, run_kind, known_at_run, answer_devices, MayAnswer, QueueState}
use Rattle.rdm_queue.proofs.Common.{RunState, is_closing, stopped_at, agent_at_end, answer_of, one_less, devices_after}
use Rattle.rdm_queue.proofs.Common.{devices_run_after, AwaitsRequest, AwaitsRun, IsPending, IsRunning, RunIs}
use Rattle.rdm_queue.proofs.Common.{oldest_number, Describes, StandsAmid, pushed, all_from_indices, slice_get-drop}
use Rattle.rdm_queue.proofs.Common.{answers-push, sends-push, is_closed-push, awaited-push, ask_facts}
use Rattle.rdm_queue.proofs.Common.{unanswered_index, client_facts, run_facts, last_begun, last_run_same, served_stays}
use Rattle.rdm_queue.proofs.Common.{entries_before_run_stays, some_at, asked_stays}
use Rattle.std.proofs.lemmas.Map.Keys.{any_passes_from_place}
use Rattle.rdm_agent.specs.Calls.{ended_by_abort}
use Rattle.rdm_agent.specs.declared.op.Op.TheVariants as ops
use Rattle.rdm_queue.specs.declared.pending.Awaited.TheVariants as awaiting
use Rattle.rdm_log.specs.log.Runs.{served}
use Rattle.rdm_queue.specs.body.Ending.{answers_by_run}
use Rattle.rdm_log.proofs.LogLemmas.Indices.{slice_get-push, IsPushed, slice_get_append_within}
use Rattle.rdm_log.proofs.LogLemmas.PushLemmas.{asks-append, answered-append}
use Rattle.rdm_log.proofs.LogLemmas.AgentLemmas.{agent_shows, agent_found}
use Rattle.rdm_queue.proofs.BodyLemmas.AfterLemmas.{pending_flag}
use Rattle.rdm_queue.proofs.BodyLemmas.DescribesWork.{was_sent_own}
use Rattle.rdm_queue.proofs.BodyLemmas.DescribesRuns.{not_stopped, answers_with, stands_answer, known_after, run_after}
use Rattle.rdm_queue.proofs.BodyLemmas.DescribesRuns.{exchanges_answered}
use Rattle.rdm_queue.proofs.BodyLemmas.TakeLemmas.{running}
use Rattle.rdm_log.proofs.LogLemmas.BegunLemmas.{before_front}

-- the agent at the end stands after the run's exchanges
pub record AtEnd (o : Opening) (h : List Entry) (s : QueueState) (r : RunState) : Type 0 where
  pub aborted : Bool
  pub has_run : HasRunBy o.search (run_kind r.number h) (known_at_run o r.number h) o.budget aborted
      (run_exchanges r.number h) (agent_at_end s)
  pub closed : aborted ≡ true → is_closed o h ≡ true

pub and_left : (a b : Bool) → (a && b) ≡ true → a ≡ true
and_left true b is = refl
and_left false b is = is

pub and_right : (a b : Bool) → (a && b) ≡ true → b ≡ true
and_right true b is = is
and_right false b is = absurd (false≢true is)

pub at_end : (o : Opening) (h : List Entry) (s : QueueState) (r : RunState) → IsRunning o h s r → Describes o h s
    → AtEnd o h s r
at_end o h s r run stands = by_closing (is_closing s) refl
  where
    Ends : AgentState → Type 0
    Ends a = (aborted : Bool)
        × HasRunBy o.search (run_kind r.number h) (known_at_run o r.number h) o.budget aborted
        (run_exchanges r.number h) a
        × (aborted ≡ true → is_closed o h ≡ true)

    stays : Ends s.agent
    stays = (run.aborted, run.has_run, λ is. (run.stopped is).0)

    stops : (next_op s.agent ≡ ops.End → ⊥) → is_closed o h ≡ true → Ends (ended_by_abort s.agent)
    stops goes closed =
        let own = not_stopped _ _ _ run.aborted _ s.agent run.has_run goes in (
          true,
          record {
            devices = own.devices;
            before = s.agent;
            runs = runs-own _ _ _ _ s.agent own;
            is = (goes, refl);
          },
          λ is. closed,
        )

    by_op : (op : Op) → next_op s.agent ≡ op → is_closed o h ≡ true → Ends (stopped_at op s.agent)
    by_op ops.End is closed = stays
    by_op ops.UnmuteAll is closed = stops (λ end. apart (sym is ∙ end)) closed
      where
        apart : ops.UnmuteAll ≡ ops.End → ⊥
        apart e = cc
    by_op (ops.Mute u) is closed = stops (λ end. apart (sym is ∙ end)) closed
      where
        apart : ops.Mute u ≡ ops.End → ⊥
        apart e = cc
    by_op (ops.Branch range) is closed = stops (λ end. apart (sym is ∙ end)) closed
      where
        apart : ops.Branch range ≡ ops.End → ⊥
        apart e = cc

    shown : (a : AgentState) → agent_at_end s ≡ a → Ends a → AtEnd o h s r
    shown a is ends = record {
      aborted = ends.0;
      has_run =
          subst (λ b. HasRunBy o.search (run_kind r.number h) (known_at_run o r.number h) o.budget ends.0
          (run_exchanges r.number h) b) (sym is) ends.1;
      closed = ends.2;
    }

    by_closing : (b : Bool) → is_closing s ≡ b → AtEnd o h s r
    by_closing true is =
        shown (stopped_at (next_op s.agent) s.agent) (rw is refl)
        (by_op (next_op s.agent) refl (sym stands.closed_is ∙ and_left s.closed (not (is_some s.awaited)) is))
    by_closing false is = shown s.agent (rw is refl) stays

-- an agent that has ended is the same at the end
pub ended_same : (s : QueueState) → next_op s.agent ≡ ops.End → agent_at_end s ≡ s.agent
ended_same s end = by_closing (is_closing s)
  where
    by_closing : (b : Bool) → (if b then stopped_at (next_op s.agent) s.agent else s.agent) ≡ s.agent
    by_closing true = rw end refl
    by_closing false = refl

-- no reply is awaited then
and_false : (a : Bool) → (a && false) ≡ false
and_false true = refl
and_false false = refl

pub idle_by_run : (o : Opening) (h : List Entry) (s : QueueState) (r : RunState) → IsRunning o h s r → Describes o h s
    → next_op (agent_at_end s) ≡ ops.End → s.awaited ≡ None
idle_by_run o h s r run stands end = by_awaited s.awaited refl
  where
    no_way : (sent : Sent) → AwaitsRequest o h sent → was_sent (oldest_number o h) h ≡ true
    no_way sent w = rw w.last.sends_are (was_sent_own (oldest_number o h) w.last.earlier w.frame)

    by_awaited : (w : Option Awaited) → s.awaited ≡ w → s.awaited ≡ None
    by_awaited None is = is
    by_awaited (Some (awaiting.Request sent)) is =
        absurd (false≢true
        (sym run.no_request
        ∙ (stands.under_way_is ∙ no_way sent (subst (λ q. IsPending o h s q) is stands.awaited_is))))
    by_awaited (Some (awaiting.Run tn)) is =
        let w : AwaitsRun o h s tn = subst (λ q. IsPending o h s q) is stands.awaited_is in
        let open_ : is_closing s ≡ false = ap (λ q. s.closed && not (is_some q)) is ∙ and_false s.closed in
        absurd (w.goes_on (rw open_ at end))

-- the oldest unanswered discovery is served by the run
pub serves_oldest : (o : Opening) (h : List Entry) (s : QueueState) (r : RunState) (a : AskedDiscovery)
    → IsRunning o h s r → slice_get (unanswered h) 0 ≡ Some a
    → list_any (λ b. b.number == a.number) (served r.number h) ≡ true
serves_oldest o h s r a run oldest =
    rw (last_begun r.number h run.last)
    (any_passes_from_place (λ (b : AskedDiscovery). b.number == a.number) (unserved early) index a at
    (eq-eqb a.number a.number refl))
  where
    early : List Entry
    early = entries_before_run r.number h

    rest : (ys : List Entry) × (h ≡ early ++ ys)
    rest = before_front r.number h

    asked : asks h ≡ asks early ++ asks rest.0
    asked = ap (λ l. asks l) rest.1 ∙ asks-append early rest.0

    fewer : length (answers early) ≤ length (answers h)
    fewer = let all = ap (λ l. length (answers l)) rest.1
        ∙ (ap (λ l. length l) (answered-append early rest.0) ∙ length-append (answers early) (answers rest.0)) in
        omega arith

    skipped : ℕ
    skipped = asked_before (last_run early) early - length (answers early)

    index : ℕ
    index = length (answers h) - (length (answers early) + skipped)

    within : length (answers h) < length (asks early)
    within = let left : length (asks early) ≡ length (answers h) + r.left = rw run.last at run.left in
        let some = run.some in omega arith

    early_at : slice_get (asks early) (length (answers h)) ≡ Some a
    early_at = sym (slice_get_append_within (asks early) (asks rest.0) (length (answers h)) within)
        ∙ (ap (λ l. slice_get l (length (answers h))) (sym asked)
        ∙ (ap (λ n. slice_get (asks h) n) (omega arith) ∙ unanswered_index h 0 a oldest))

    counted : length (answers early) + (skipped + index) ≡ length (answers h)
    counted = let before = run.earlier in let first = fewer in omega arith

    at : slice_get (unserved early) index ≡ Some a
    at = slice_get-drop skipped (unanswered early) index
        ∙ (slice_get-drop (length (answers early)) (asks early) (skipped + index)
        ∙ (ap (λ n. slice_get (asks early) n) counted ∙ early_at))

-- all its Answers say the same
pub alike_at_end : (o : Opening) (h : List Entry) (s : QueueState) (r : RunState) → IsRunning o h s r
    → (i : ℕ) (b : Answered) → slice_get (answers h) i ≡ Some b → b.run ≡ r.number
    → b.fault ≡ fault_of (agent_at_end s).phase
alike_at_end o h s r run i b at own =
    run.alike i b at own
    ∙ ap (λ (a : AgentState). fault_of a.phase)
    (sym (ended_same s (run.ended (some_at r.number (answers h) i b at own))))

pub may_answer : (o : Opening) (h : List Entry) (s : QueueState) (r : RunState) (a : AskedDiscovery) → IsRunning o h s r
    → StandsAmid o h s → next_op (agent_at_end s) ≡ ops.End → slice_get (unanswered h) 0 ≡ Some a
    → MayAnswer o h a.number r.number (fault_of (agent_at_end s).phase)
may_answer o h s r a run amid end oldest = record {
  asked = a;
  oldest = oldest;
  number = refl;
  by_run = λ some. record {
    not_awaited =
        sym (pending_flag o h s s.awaited amid.stands.awaited_is)
        ∙ ap (λ q. is_some q) (idle_by_run o h s r run amid.stands end);
    serves = serves_oldest o h s r a run oldest;
    agrees = all_from_indices (λ b. (b.run ≡ r.number) → b.fault ≡ fault_of (agent_at_end s).phase) (answers h)
        (λ i b at own. alike_at_end o h s r run i b at own);
    shows = agent_shows o h r.number (agent_at_end s) ends.aborted ends.has_run ends.closed end;
  };
  unserved = λ none. absurd (omega (
    arith,
    none,
    ((run_facts o h amid.each).begun_below r.number (last_begun r.number h run.last)).0,
  ));
}
  where
    ends : AtEnd o h s r
    ends = at_end o h s r run amid.stands

pub answer_amid : (o : Opening) (h : List Entry) (s : QueueState) (r : RunState) (a : AskedDiscovery) → s.run ≡ Some r
    → next_op (agent_at_end s) ≡ ops.End → slice_get s.asked 0 ≡ Some a → StandsAmid o h s
    → StandsAmid o (h ++ answer_of a r.number (fault_of (agent_at_end s).phase) ∷ []) (answers_by_run s r a)
answer_amid o h s r a is end first amid = record {
  each = pushed o h e amid.each may;
  stands = stands_answer o h s a r.number f (agent_at_end s).found (one_less r) (agent_at_end s) _ _ amid.each may
      (ask_facts o h amid.each) (client_facts o h amid.each) oldest found (idle_by_run o h s r run amid.stands end)
      (rw amid.stands.devices_are (known_after o h a.number r.number f (agent_at_end s).found found_run))
      (rw amid.stands.devices_run_is (run_after o h a.number r.number f)) left_over amid.stands;
}
  where
    f : Option AgentFault
    f = fault_of (agent_at_end s).phase

    e : Entry
    e = answer_of a r.number f

    k : List Entry
    k = h ++ e ∷ []

    run : IsRunning o h s r
    run = running o h s r is amid.stands

    ends : AtEnd o h s r
    ends = at_end o h s r run amid.stands

    oldest : slice_get (unanswered h) 0 ≡ Some a
    oldest = ap (λ l. slice_get l 0) (sym amid.stands.asked_are) ∙ first

    may : MayAnswer o h a.number r.number f
    may = may_answer o h s r a run amid end oldest

    begun : has_begun r.number h ≡ true
    begun = last_begun r.number h run.last

    found_run : (agent_at_end s).found ≡ run_devices r.number h
    found_run = agent_found o h r.number (agent_at_end s) ends.aborted ends.has_run

    found : (agent_at_end s).found ≡ answer_devices r.number h
    found = rw (ne_eqb r.number 0
        (λ none. absurd (omega (arith, none, ((run_facts o h amid.each).begun_below r.number begun).0)))) found_run

    same_last : last_run k ≡ last_run h
    same_last = last_run_same h k (sends-push h e)

    asked_same : asked_before (last_run k) k ≡ length (answers h) + r.left
    asked_same = rw same_last (asked_stays h e (last_run h) refl ∙ run.left)

    more : length (answers k) ≡ length (answers h) + 1
    more = ap (λ l. length l) (answers-push h e) ∙ length-append (answers h) _

    named : is_answered r.number k ≡ true
    named = rw (answers-push h e)
        (list_any-append (λ (b : Answered). b.run == r.number) (answers h) _
        ∙ rw (eq-eqb r.number r.number refl) (or_true (list_any (λ (b : Answered). b.run == r.number) (answers h))))
      where
        or_true : (b : Bool) → (b || true) ≡ true
        or_true true = refl
        or_true false = refl

    new : Option RunState → QueueState
    new q =
        answers_with s a r.number f (agent_at_end s).found q (agent_at_end s)
        (devices_after f (agent_at_end s).found s.devices) (devices_run_after f r.number s.devices_run)

    alike : (i : ℕ) (b : Answered) → slice_get (answers k) i ≡ Some b → b.run ≡ r.number → b.fault ≡ f
    alike i b at own = by_index (slice_get-push (answers h) _ i b (rw (answers-push h e) at at))
      where
        by_index : (slice_get (answers h) i ≡ Some b)
            ⊎ IsPushed (answers h) (record { number = a.number; run = r.number; fault = f }) i b → b.fault ≡ f
        by_index (inl before) = alike_at_end o h s r run i b before own
        by_index (inr pushed_) = ap (λ (x : Answered). x.fault) pushed_.is

    ran : HasRunBy o.search (run_kind r.number k) (known_at_run o r.number k) o.budget ends.aborted
        (run_exchanges r.number k) (agent_at_end s)
    ran = rw (
      served_stays r.number h (e ∷ []) begun,
      entries_before_run_stays r.number h (e ∷ []) begun,
      exchanges_answered h a.number r.number f r.number,
    ) ends.has_run

    left_over : RunIs o k (new (one_less r)) (one_less r)
    left_over = by_left (nat_lt 1 r.left) refl
      where
        by_left : (b : Bool) → nat_lt 1 r.left ≡ b
            → RunIs o k (new (if b then Some (record { number = r.number; left = r.left - 1 }) else None))
            (if b then Some (record { number = r.number; left = r.left - 1 }) else None)
        by_left true t = record {
          last = same_last ∙ run.last;
          aborted = ends.aborted;
          has_run = ran;
          stopped = λ no. (
            is_closed-push o h e ∙ ends.closed no,
            awaited-push h e
                ∙ (sym (pending_flag o h s s.awaited amid.stands.awaited_is)
                ∙ ap (λ q. is_some q) (idle_by_run o h s r run amid.stands end)),
          );
          left = asked_same ∙ (let many = ltb-true 1 r.left t in let grown = more in omega arith);
          some = let many = ltb-true 1 r.left t in omega arith;
          earlier = rw (entries_before_run_stays r.number h (e ∷ []) begun)
              (let before = run.earlier in let grown = more in omega arith);
          ended = λ is_named. end;
          alike = alike;
          no_request = run.no_request;
        }
        by_left false t = record {
          none_open = rw (same_last, run.last, named) refl;
          none_left = let last = ltb-false 1 r.left t in let grown = more in let asked = asked_same in omega arith;
          left = rw (same_last, run.last) (record { aborted = ends.aborted; has_run = ran });
        }
