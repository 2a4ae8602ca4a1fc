-- A queue follows the log through the frames, replies and answers of a run.
use Rattle.rdm_queue.proofs.Common.{◌≡◌, ℕ, ◌+◌, ◌≤◌, ◌<◌, ◌%◌, Bool, true, false, List, [], ◌∷◌, ◌++◌, length, drop}
use Rattle.rdm_queue.proofs.Common.{Option, Some, None, slice_get, refl, sym, ap, ◌∙◌, subst, inl, inr, length-append}
use Rattle.rdm_queue.proofs.Common.{arith, ◌⊎◌, ◌≢◌, ◌||◌, list_any, cases_Bool, eq-eqb, false≢true, length-set}
use Rattle.rdm_queue.proofs.Common.{length-drop, list_any-append, ArrayVec, EachAfter, LineEvent, Kind, Opening, Entry}
use Rattle.rdm_queue.proofs.Common.{Send, Came, AskedDiscovery, Sending, asks, sends, cames, answers, is_request}
use Rattle.rdm_queue.proofs.Common.{unanswered, last_run, MayFollow, QueueState, RunState, IsNotRunning, RunIs}
use Rattle.rdm_queue.proofs.Common.{oldest_number, Describes, joins-push, accepts-push, asks-push, answers-push}
use Rattle.rdm_queue.proofs.Common.{sends-push, cames-push, finishes-push, collectors-push, awaited-push}
use Rattle.rdm_queue.proofs.Common.{is_paused-push, is_closed-push, IsUnanswered, verdicts_same}
use Rattle.rdm_queue.proofs.Common.{verdicts_sent, LogFacts, AskFacts, ClientFacts, last_run_same, last_run_sent}
use Rattle.rdm_queue.proofs.Common.{outcomes_step, Device, asked_by, next_op, HasRunBy, AgentState, op_frame, End}
use Rattle.rdm_queue.proofs.Common.{AgentFault, aborted_ends, Answer, has_begun, is_answered, run_exchanges, run_kind}
use Rattle.rdm_queue.proofs.Common.{known_at_run, devices_run, run_devices, answer_devices, begun, hears_run, answer_of}
use Rattle.rdm_queue.proofs.Common.{answer_value, answers_oldest, devices_after, devices_run_after, AwaitsRun}
use Rattle.rdm_queue.proofs.Common.{IsRunning, IsPending, unanswered_index, last_begun, served_stays}
use Rattle.rdm_queue.proofs.Common.{entries_before_run_stays, some_at, asked_stays, all_unserved}
use Rattle.rdm_log.specs.declared.entry.Owner.TheVariants as owners
use Rattle.rdm_queue.specs.declared.pending.Awaited.TheVariants as awaiting
use Rattle.rdm_log.proofs.LogLemmas.ExchangeLemmas.{verdicts_came_other}
use Rattle.rdm_queue.proofs.BodyLemmas.DescribesSame.{DescribesLine, traded}
use Rattle.std.proofs.lemmas.List.Sums.{fold_push}
use Rattle.rdm_wire.specs.Devices.{uids_of}
use Rattle.rdm_wire.specs.Frames.{asked_in, heard_in}
use Rattle.rdm_wire.specs.Honest.{Seen}
use Rattle.rdm_join.specs.Exchange.{bytes_heard}
use Rattle.rdm_agent.specs.declared.search.Search.{Search}
use Rattle.rdm_agent.specs.Machine.{fed}
use Rattle.rdm_agent.proofs.CallLemmas.{next_asked, hears-has_run}
use Rattle.rdm_log.specs.log.Clients.{client_of_discovery}
use Rattle.rdm_log.specs.log.Runs.{known_devices, last_run_without_fault, if_without_fault, devices_of}
use Rattle.rdm_queue.specs.body.Sending.{kind_of, sends_run as gives_run}
use Rattle.rdm_log.proofs.LogLemmas.PushLemmas.{unanswered_answer}
use Rattle.rdm_log.proofs.LogLemmas.ClientLemmas.{answers_answer_own, answers_answer_other, client_of_unanswered}
use Rattle.rdm_log.proofs.LogLemmas.RunLemmas.{no_exchanges, run_exchanges_sent, run_exchanges_came_own}
use Rattle.rdm_log.proofs.LogLemmas.RunLemmas.{run_exchanges_same}
use Rattle.rdm_log.proofs.LogLemmas.RunFacts.{RunFacts, never_named}
use Rattle.rdm_queue.proofs.Common.{uncollected}
use Rattle.rdm_log.specs.log.Broken.{Incomplete}
use Rattle.rdm_log.proofs.LogLemmas.BrokenLemmas.{incomplete_same}
use Rattle.rdm_log.proofs.PromiseLemmas.IncompleteLemmas.{flags_same}
use Rattle.rdm_queue.proofs.BodyLemmas.DescribesWork.{counted, unanswered_of, count_more, owed_more, flags_grow}
use Rattle.rdm_log.proofs.LogLemmas.BegunLemmas.{before_begun, begins_now}
use Rattle.rdm_queue.proofs.Common.{IsStanding, verdicts, owed_to, outcome_of, filter_map, finishes, collectors, map}
use Rattle.rdm_log.specs.log.History.{places}
use Rattle.rdm_queue.specs.body.State.{flags_to, uncollected as uncollected_by}
use Rattle.rdm_log.specs.log.Broken.{broken_keys, may_be_incomplete}
use Rattle.rdm_log.proofs.LogLemmas.PushLemmas.{pushes}
use Rattle.rdm_log.proofs.LogLemmas.RunningLemmas.{run_pushes}
use Rattle.std.proofs.lemmas.List.{length_push}

-- an agent that asks for more wasn't stopped
pub not_stopped : {search : Search} (kind : Kind) (known : List ℕ) (budget : ℕ) (aborted : Bool) (x : List Seen)
    (a : AgentState) → HasRunBy search kind known budget aborted x a → next_op a ≢ End
    → HasRunBy search kind known budget false x a
not_stopped kind known budget false x a is goes = is
not_stopped kind known budget true x a is goes = absurd (goes (rw is.is.1 (aborted_ends is.before)))

-- a run's frame is no request's
way_same : (n r : ℕ) (ss : List Sending) (frame : ArrayVec ℕ)
    → list_any (λ (x : Sending). is_request n x.owner) (ss ++ record { owner = owners.Run r; frame = frame } ∷ [])
    ≡ list_any (λ (x : Sending). is_request n x.owner) ss
way_same n r ss frame =
    list_any-append (λ (x : Sending). is_request n x.owner) ss (record { owner = owners.Run r; frame = frame } ∷ [])
    ∙ or_false (list_any (λ (x : Sending). is_request n x.owner) ss)
  where
    or_false : (b : Bool) → (b || false) ≡ b
    or_false true = refl
    or_false false = refl

-- the frame of the open run's next operation is sent
pub stands_run_send : (o : Opening) (h : List Entry) (s : QueueState) (r : RunState) (frame : ArrayVec ℕ)
    → EachAfter (MayFollow o) h → MayFollow o h (Send (owners.Run r.number) frame) → length (sends h) ≡ length (cames h)
    → s.run ≡ Some r → next_op s.agent ≢ End → frame.items ≡ op_frame (next_op s.agent) s.source s.next_tn
    → asked_in frame.items ≡ asked_by (next_op s.agent) → Describes o h s
    → Describes o (h ++ Send (owners.Run r.number) frame ∷ []) (gives_run s)
stands_run_send o h s r frame each may even is goes frame_is asks_is stands =
    traded o h e s new each may refl stands line
  where
    e : Entry
    e = Send (owners.Run r.number) frame

    k : List Entry
    k = h ++ e ∷ []

    new : QueueState
    new = gives_run s

    x : Sending
    x = record { owner = owners.Run r.number; frame = frame }

    before : IsRunning o h s r
    before = subst (λ q. RunIs o h s q) is stands.run_is

    started : has_begun r.number h ≡ true
    started = last_begun r.number h before.last

    line : DescribesLine o k new
    line = record {
      next_tn_is =
          rw (sends-push h e, length-append (sends h) (x ∷ []))
          (rw stands.next_tn_is (counted o.next_tn (length (sends h))));
      awaited_is = record {
        run = r;
        run_is = is;
        frame = frame;
        last = record { waits = awaited-push h e; earlier = sends h; sends_are = sends-push h e };
        goes_on = goes;
        asks = asks_is;
        same = rw (← stands.source_is) frame_is;
      };
      under_way_is =
          rw (sends-push h e, finishes-push h e)
          (stands.under_way_is ∙ sym (way_same (oldest_number o h) r.number (sends h) frame));
      standing = rw (finishes-push h e, verdicts_sent h (owners.Run r.number) frame (oldest_number o h) even)
          stands.standing;
      next_run_is = rw (last_run_sent h (owners.Run r.number) frame) (stands.next_run_is ∙ rw before.last refl);
      run_is = subst (λ q. RunIs o k new q) (sym is) (record {
        last = last_run_sent h (owners.Run r.number) frame;
        aborted = false;
        has_run = rw (
          run_exchanges_sent h (owners.Run r.number) frame r.number even,
          served_stays r.number h (e ∷ []) started,
          entries_before_run_stays r.number h (e ∷ []) started,
        )
            (not_stopped _ _ _ before.aborted _ s.agent before.has_run goes);
        stopped = λ no. absurd (false≢true no);
        left = rw (last_run_sent h (owners.Run r.number) frame, answers-push h e)
            (asked_stays h e (Some r.number) before.last ∙ (rw before.last at before.left));
        some = before.some;
        earlier = rw (entries_before_run_stays r.number h (e ∷ []) started, answers-push h e) before.earlier;
        ended = rw (answers-push h e) before.ended;
        alike = rw (answers-push h e) before.alike;
        no_request = before.no_request;
      });
    }

-- a run begins with its first frame
pub stands_begin : (o : Opening) (h : List Entry) (s : QueueState) (frame : ArrayVec ℕ) → EachAfter (MayFollow o) h
    → MayFollow o h (Send (owners.Run s.next_run) frame) → RunFacts o h → AskFacts o h
    → length (sends h) ≡ length (cames h) → s.run ≡ None → s.under_way ≡ false → 1 ≤ length s.asked → 1 ≤ s.next_run
    → HasRunBy s.search (kind_of s.asked) (uids_of s.devices) s.budget false [] (begun s).agent
    → next_op (begun s).agent ≢ End
    → frame.items ≡ op_frame (next_op (begun s).agent) s.source s.next_tn
    → asked_in frame.items ≡ asked_by (next_op (begun s).agent) → Describes o h s
    → Describes o (h ++ Send (owners.Run s.next_run) frame ∷ []) (gives_run (begun s))
stands_begin o h s frame each may run_facts ask_facts even none way some from starts goes frame_is asks_is stands =
    traded o h e s new each may refl stands line
  where
    e : Entry
    e = Send (owners.Run s.next_run) frame

    k : List Entry
    k = h ++ e ∷ []

    new : QueueState
    new = gives_run (begun s)

    r : RunState
    r = record { number = s.next_run; left = length s.asked }

    x : Sending
    x = record { owner = owners.Run s.next_run; frame = frame }

    before : IsNotRunning o h s.agent
    before = rw none at stands.run_is

    unbegun : has_begun s.next_run h ≡ false
    unbegun = by_test (cases_Bool (has_begun s.next_run h))
      where
        by_test : (has_begun s.next_run h ≡ true) ⊎ (has_begun s.next_run h ≡ false) → has_begun s.next_run h ≡ false
        by_test (inl started) = absurd (apart stands.next_run_is (run_facts.begun_below s.next_run started).1)
          where
            apart : {n m : ℕ} → n ≡ m → n < m → ⊥
            apart p q = omega arith
        by_test (inr not) = not

    unnamed : is_answered s.next_run h ≡ false
    unnamed = never_named o h s.next_run run_facts from (let same = stands.next_run_is in omega arith)

    line : DescribesLine o k new
    line = record {
      next_tn_is =
          rw (sends-push h e, length-append (sends h) (x ∷ []))
          (rw stands.next_tn_is (counted o.next_tn (length (sends h))));
      awaited_is = record {
        run = r;
        run_is = refl;
        frame = frame;
        last = record { waits = awaited-push h e; earlier = sends h; sends_are = sends-push h e };
        goes_on = goes;
        asks = asks_is;
        same = rw (← stands.source_is) frame_is;
      };
      under_way_is =
          rw (sends-push h e, finishes-push h e)
          (stands.under_way_is ∙ sym (way_same (oldest_number o h) r.number (sends h) frame));
      standing = rw (finishes-push h e, verdicts_sent h (owners.Run r.number) frame (oldest_number o h) even)
          stands.standing;
      next_run_is = rw (last_run_sent h (owners.Run s.next_run) frame) refl;
      run_is = record {
        last = last_run_sent h (owners.Run s.next_run) frame;
        aborted = false;
        has_run = rw (
          run_exchanges_sent h (owners.Run s.next_run) frame s.next_run even,
          no_exchanges s.next_run h unbegun,
          begins_now s.next_run h frame unbegun,
          before_begun s.next_run h frame unbegun,
          all_unserved h before.none_left,
          ← stands.asked_are,
          ← stands.devices_are,
          ← stands.budget_is,
          ← stands.search_is,
        ) starts;
        stopped = λ no. absurd (false≢true no);
        left = rw (
          last_run_sent h (owners.Run s.next_run) frame,
          before_begun s.next_run h frame unbegun,
          answers-push h e,
          stands.asked_are,
        )
            (let long = length-drop (length (answers h)) (asks h) in let within = ask_facts.answered_within in
            omega arith);
        some = some;
        earlier = rw (before_begun s.next_run h frame unbegun, answers-push h e) before.none_left;
        ended = λ named. absurd (false≢true (sym unnamed ∙ rw (answers-push h e) at named));
        alike = λ i b at own. absurd (false≢true
            (sym unnamed ∙ some_at s.next_run (answers h) i b (rw (answers-push h e) at at) own));
        no_request = way;
      };
    }

-- the reply to a run's frame is heard
pub stands_run_came : (o : Opening) (h : List Entry) (s : QueueState) (tn : ℕ) (event : LineEvent)
    → EachAfter (MayFollow o) h → MayFollow o h (Came event) → LogFacts o h → s.awaited ≡ Some (awaiting.Run tn)
    → Describes o h s → Describes o (h ++ Came event ∷ []) (hears_run tn event s)
stands_run_came o h s tn event each may facts was stands =
    traded o h e s new each may refl stands line
  where
    e : Entry
    e = Came event

    k : List Entry
    k = h ++ e ∷ []

    new : QueueState
    new = hears_run tn event s

    w : AwaitsRun o h s tn
    w = subst (λ q. IsPending o h s q) was stands.awaited_is

    x : IsUnanswered h (record { owner = owners.Run w.run.number; frame = w.frame })
    x = unanswered_of o h _ facts w.last

    before : IsRunning o h s w.run
    before = subst (λ q. RunIs o h s q) w.run_is stands.run_is

    started : has_begun w.run.number h ≡ true
    started = last_begun w.run.number h before.last

    seen : Seen
    seen = record { asked = asked_in w.frame.items; heard = heard_in w.frame.items (bytes_heard event) }

    heard : HasRunBy o.search (run_kind w.run.number h) (known_at_run o w.run.number h) o.budget false
        (run_exchanges w.run.number h ++ seen ∷ [])
        (fed s.agent (heard_in (op_frame (next_op s.agent) o.source tn) (bytes_heard event)))
    heard = hears-has_run s.agent _ seen (next_asked s.agent w.goes_on ∙ ap Some (sym w.asks))
        (ap (λ b. fed s.agent (heard_in b (bytes_heard event))) (sym w.same)) _ _ _ before.aborted _ before.has_run

    line : DescribesLine o k new
    line = record {
      next_tn_is = rw (sends-push h e) stands.next_tn_is;
      awaited_is = awaited-push h e;
      under_way_is = rw (sends-push h e, finishes-push h e) stands.under_way_is;
      standing = rw (finishes-push h e, verdicts_came_other h _ event (oldest_number o h) x refl) stands.standing;
      next_run_is = rw (last_run_same h k (sends-push h e)) stands.next_run_is;
      run_is = subst (λ q. RunIs o k new q) (sym w.run_is) (record {
        last = last_run_same h k (sends-push h e) ∙ before.last;
        aborted = false;
        has_run = rw (
          run_exchanges_came_own h _ event w.run.number x (eq-eqb w.run.number w.run.number refl),
          served_stays w.run.number h (e ∷ []) started,
          entries_before_run_stays w.run.number h (e ∷ []) started,
        )
            (subst (λ n. HasRunBy o.search (run_kind w.run.number h) (known_at_run o w.run.number h) o.budget false
            (run_exchanges w.run.number h ++ seen ∷ [])
            (fed s.agent (heard_in (op_frame (next_op s.agent) n tn) (bytes_heard event))))
            (sym stands.source_is) heard);
        stopped = λ no. absurd (false≢true no);
        left = rw (last_run_same h k (sends-push h e), answers-push h e)
            (asked_stays h e (last_run h) refl ∙ before.left);
        some = before.some;
        earlier = rw (entries_before_run_stays w.run.number h (e ∷ []) started, answers-push h e) before.earlier;
        ended = λ named. absurd (w.goes_on (before.ended (rw (answers-push h e) at named)));
        alike = λ i b at own. absurd (w.goes_on
            (before.ended (some_at w.run.number (answers h) i b (rw (answers-push h e) at at) own)));
        no_request = before.no_request;
      });
    }

-- what an Answer leaves of a run's exchanges, and which devices are known after it
pub exchanges_answered : (h : List Entry) (n q : ℕ) (f : Option AgentFault) (r : ℕ)
    → run_exchanges r (h ++ Answer n q f ∷ []) ≡ run_exchanges r h
exchanges_answered h n q f r =
    run_exchanges_same h (h ++ Answer n q f ∷ []) r (sends-push h (Answer n q f))
    (cames-push h (Answer n q f))

devices_same : (o : Opening) (h : List Entry) (n q : ℕ) (f : Option AgentFault) (last : Option ℕ)
    → devices_of o.devices last (h ++ Answer n q f ∷ []) ≡ devices_of o.devices last h
devices_same o h n q f None = refl
devices_same o h n q f (Some r) = rw (exchanges_answered h n q f r) refl

without_fault_after : (h : List Entry) (n q : ℕ) (f : Option AgentFault)
    → last_run_without_fault (h ++ Answer n q f ∷ []) ≡ if_without_fault (last_run_without_fault h) (record {
      number = n;
      run = q;
      fault = f;
    })
without_fault_after h n q f =
    rw (answers-push h (Answer n q f)) (fold_push if_without_fault None (answers h) (record {
      number = n;
      run = q;
      fault = f;
    }))

pub known_kept : (o : Opening) (h : List Entry) (n q : ℕ) (fault : AgentFault)
    → known_devices o h ≡ known_devices o (h ++ Answer n q (Some fault) ∷ [])
known_kept o h n q fault =
    sym (rw (without_fault_after h n q (Some fault)) (devices_same o h n q (Some fault) (last_run_without_fault h)))

pub known_after : (o : Opening) (h : List Entry) (n q : ℕ) (f : Option AgentFault) (found : List Device)
    → found ≡ run_devices q h → devices_after f found (known_devices o h) ≡ known_devices o (h ++ Answer n q f ∷ [])
known_after o h n q None found is = is ∙ sym (rw (without_fault_after h n q None, exchanges_answered h n q None q) refl)
known_after o h n q (Some fault) found is = known_kept o h n q fault

pub run_after : (o : Opening) (h : List Entry) (n q : ℕ) (f : Option AgentFault)
    → devices_run_after f q (devices_run o h) ≡ devices_run o (h ++ Answer n q f ∷ [])
run_after o h n q None = sym (rw (without_fault_after h n q None) refl)
run_after o h n q (Some fault) = sym (rw (without_fault_after h n q (Some fault)) refl)

-- the oldest discovery is answered, with this run, agent and known devices afterwards
abbrev pub answers_with : QueueState → AskedDiscovery → ℕ → Option AgentFault → List Device → Option RunState
    → AgentState → List Device → ℕ → QueueState
answers_with s a q f found run agent devices devices_from = record (answers_oldest s a q f found) {
  run = run;
  agent = agent;
  devices = devices;
  devices_run = devices_from;
}

pub stands_answer : (o : Opening) (h : List Entry) (s : QueueState) (a : AskedDiscovery) (q : ℕ) (f : Option AgentFault)
    (found : List Device) (run : Option RunState) (agent : AgentState) (devices : List Device) (devices_from : ℕ)
    → EachAfter (MayFollow o) h → MayFollow o h (answer_of a q f) → AskFacts o h → ClientFacts o h
    → slice_get (unanswered h) 0 ≡ Some a → found ≡ answer_devices q h → s.awaited ≡ None
    → devices ≡ known_devices o (h ++ answer_of a q f ∷ []) → devices_from ≡ devices_run o (h ++ answer_of a q f ∷ [])
    → RunIs o (h ++ answer_of a q f ∷ []) (answers_with s a q f found run agent devices devices_from) run
    → Describes o h s
    → Describes o (h ++ answer_of a q f ∷ []) (answers_with s a q f found run agent devices devices_from)
stands_answer o h s a q f found run agent devices devices_from each may asked_facts clients oldest is idle known from
    runs stands =
    let awaits : IsPending o k new s.awaited = rw idle (awaited-push h e ∙ rw idle at stands.awaited_is) in
    let standing : IsStanding (verdicts (oldest_number o k) k) s.decided s.joiner =
    rw (finishes-push h e, verdicts_same h k (oldest_number o h) (sends-push h e) (cames-push h e)) stands.standing in
    let asked : drop 1 s.asked ≡ unanswered k =
    rw (unanswered_answer h e _ refl refl) (ap (drop 1) stands.asked_are) in
    let long : length new.owed ≡ length (places o k) =
    length-set s.owed a.client _ ∙ simp pushes stands.owed_for_each in
    let outcomes : (c : ℕ) → owed_to c new ≡ filter_map (outcome_of k) (uncollected o c k) =
    owed_more o h k e s a.client (answer_value a q f found) within
    (λ c own. answers_answer_own o c h a.number q f a.client client_is own)
    (λ c other. answers_answer_other o c h a.number q f a.client client_is other) (collectors-push h e)
    clients.collected_within (rw (exchanges_answered h a.number q f q, is) refl)
    (λ c. stands.outcomes_are c ∙ sym (outcomes_step o h e each may c)) in
    let all : uncollected_by new + length (collectors k) ≡ length (finishes k) + length (answers k) =
    let more = count_more s.owed a.client (answer_value a q f found) within in let all = stands.all_outcomes in
    simp (pushes, length_push) (omega arith) in
    let broken : s.broken ≡ broken_keys o k =
    stands.broken_is ∙ ap (λ (i : Incomplete). i.keys) (sym (incomplete_same o h e refl)) in
    let flags_long : length new.flags ≡ length (places o k) =
    length-set s.flags a.client _ ∙ simp pushes stands.flags_for_each in
    let flags : (c : ℕ) → flags_to c new ≡ map (may_be_incomplete o k) (uncollected o c k) =
    flags_grow o h k e s a.client false flags_within
    (λ c own. answers_answer_own o c h a.number q f a.client client_is own)
    (λ c other. answers_answer_other o c h a.number q f a.client client_is other) (collectors-push h e)
    clients.collected_within refl (λ c. stands.flags_are c ∙ sym (flags_same o h e refl (uncollected o c h))) in
    search (
      run_pushes,
      awaits,
      standing,
      asked,
      runs,
      known,
      from,
      long,
      outcomes,
      all,
      broken,
      flags_long,
      flags,
      stands,
    )
  where
    e : Entry
    e = answer_of a q f

    k : List Entry
    k = h ++ e ∷ []

    new : QueueState
    new = answers_with s a q f found run agent devices devices_from

    within : a.client < length s.owed
    within = rw stands.owed_for_each (asked_facts.askers (length (answers h) + 0) a (unanswered_index h 0 a oldest))

    flags_within : a.client < length s.flags
    flags_within =
        rw stands.flags_for_each (asked_facts.askers (length (answers h) + 0) a (unanswered_index h 0 a oldest))

    client_is : client_of_discovery o h a.number ≡ Some a.client
    client_is = client_of_unanswered o h asked_facts 0 a oldest
