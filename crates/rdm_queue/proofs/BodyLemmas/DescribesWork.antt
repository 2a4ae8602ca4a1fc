-- A queue follows the log, entry by entry.
use Rattle.rdm_queue.proofs.Common.{◌≡◌, ℕ, ◌+◌, ◌≤◌, ◌<◌, ◌%◌, Bool, true, false, List, [], ◌∷◌, ◌++◌, length, drop}
use Rattle.rdm_queue.proofs.Common.{filter, get_or, Option, Some, None, slice_get, refl, sym, ap, ◌∙◌, inl, inr, zero}
use Rattle.rdm_queue.proofs.Common.{suc, length-append, append-nil, arith, filter_map, if◌then◌else◌, ◌⊎◌, ◌==◌, ◌||◌}
use Rattle.rdm_queue.proofs.Common.{list_any, cases_Bool, cases_eq, cases_lt, ne_eqb, eq-eqb, false≢true, length-set}
use Rattle.rdm_queue.proofs.Common.{length-drop, get_or-set_same, get_or-set_other, get_or_past, list_any-append}
use Rattle.rdm_queue.proofs.Common.{filter-append, ArrayVec, EachAfter, Request, LineEvent, Sent, verdict, sent_by}
use Rattle.rdm_queue.proofs.Common.{Joined, JoinerStanding, Kind, ClientId, Opening, Entry, Accept, Ask, Send, Came}
use Rattle.rdm_queue.proofs.Common.{Collect, Accepted, Sending, sends, cames, finishes, collectors, verdicts, result}
use Rattle.rdm_queue.proofs.Common.{is_request, is_run, awaited, unfinished, answers_to, uncollected, last_run}
use Rattle.rdm_queue.proofs.Common.{MayFollow, OutcomeValue, outcome_of, completion_of, QueueState, owed_for, owed_to}
use Rattle.rdm_queue.proofs.Common.{owed_value, owes, accepts_request, asks_discovery, collects_oldest, finishes_oldest}
use Rattle.rdm_queue.proofs.Common.{finish_of, IsStanding, sent_for, IsLast, AwaitsRequest, IsNotRunning, oldest_number}
use Rattle.rdm_queue.proofs.Common.{Describes, joins-push, accepts-push, asks-push, answers-push, sends-push}
use Rattle.rdm_queue.proofs.Common.{cames-push, finishes-push, collectors-push, awaited-push, is_paused-push}
use Rattle.rdm_queue.proofs.Common.{is_closed-push, index_within, IsUnanswered, verdicts_sent, verdicts_unsent}
use Rattle.rdm_queue.proofs.Common.{LogFacts, unfinished_number, AskFacts, answers_same, ClientFacts, last_run_same}
use Rattle.rdm_queue.proofs.Common.{last_run_sent, outcomes_step, known_step, answers_passed, same_running, asked_stays}
use Rattle.std.proofs.lemmas.List.{same_from_push, drop-drop, length_push, drop-append-le}
use Rattle.std.proofs.lemmas.List.Elements.{filter_map-append}
use Rattle.rdm_log.specs.declared.entry.Owner.TheVariants as owners
use Rattle.rdm_queue.specs.declared.pending.Awaited.TheVariants as awaiting
use Rattle.rdm_log.specs.log.Clients.{collects_by, client_of_request}
use Rattle.rdm_queue.specs.body.Sending.{sends_request}
use Rattle.rdm_log.specs.log.Runs.{known_devices}
use Rattle.rdm_log.specs.log.History.{next_request, next_ask, unanswered, places, awaits_after}
use Rattle.rdm_log.specs.log.Entries.{sending_of, came_of, answers}
use Rattle.rdm_queue.specs.body.State.{accepted_as, asked_as, uncollected as uncollected_by}
use Rattle.rdm_log.proofs.LogLemmas.PushLemmas.{pushes, unfinished_finish}
use Rattle.rdm_log.proofs.LogLemmas.ExchangeLemmas.{verdicts_came_own, result_same}
use Rattle.rdm_log.proofs.LogLemmas.LegalFacts.{unfinished_index}
use Rattle.rdm_log.proofs.LogLemmas.ClientLemmas.{answers_accept, answers_ask, answers_finish_own, answers_finish_other}
use Rattle.rdm_log.proofs.LogLemmas.ClientLemmas.{client_of_accepted, ends_work, no_reply}
use Rattle.rdm_log.proofs.LogLemmas.RunLemmas.{SameRuns, same_runs_sent, run_exchanges_sent}
use Rattle.rdm_log.proofs.PromiseLemmas.OutcomeLemmas.{uncollected_more, outcomes_rest}
use Rattle.rdm_queue.proofs.BodyLemmas.OutstandingLemmas.{in_all, in_all-cons, removed_at, put_at, owes-own, owes-other}
use Rattle.rdm_log.proofs.LogLemmas.RunningLemmas.{same_running_came}
use Rattle.rdm_queue.proofs.BodyLemmas.RunningLemmas.{run_same, left_pushed}
use Rattle.rdm_queue.proofs.BodyLemmas.DescribesSame.{devices_run_same, DescribesLine, with_line, same_line, line_same}
use Rattle.rdm_queue.proofs.BodyLemmas.DescribesSame.{traded, flags_kept}
use Rattle.rdm_queue.proofs.Common.{map, map-append, option_and_then, Status, set, IsPending, RunIs, was_sent}
use Rattle.rdm_log.proofs.LogLemmas.RunningLemmas.{run_pushes}
use Rattle.std.proofs.lemmas.List.{drop-map}
use Rattle.rdm_join.specs.declared.status.Status.TheVariants.{Completed}
use Rattle.rdm_log.specs.declared.broken.AnswerKey.{AnswerKey}
use Rattle.rdm_log.specs.log.BrokenKeys.{BrokenKeys}
use Rattle.rdm_log.specs.log.Broken.{Incomplete, incomplete, broken_keys, may_be_incomplete, after_end}
use Rattle.rdm_log.specs.log.Broken.{is_end_flagged, is_flagged, is_whole, key_of_first}
use Rattle.rdm_log.proofs.LogLemmas.ClientLemmas.{no_finish}
use Rattle.rdm_log.proofs.LogLemmas.BrokenLemmas.{incomplete_same, incomplete_push}
use Rattle.rdm_log.proofs.PromiseLemmas.IncompleteLemmas.{flags_finish, flag_of_finish}
use Rattle.rdm_queue.specs.body.State.{flags_to, flags_more, broken_after, flag_at_end}

-- what an entry that ends no work leaves as it was
record Kept (o : Opening) (h k : List Entry) (s new : QueueState) : Type 0 where
  line : DescribesLine o k (with_line new s)
  devices_are : s.devices ≡ known_devices o k
  outcomes : (c : ℕ) → filter_map (outcome_of k) (uncollected o c h) ≡ filter_map (outcome_of h) (uncollected o c h)
  same_incomplete : incomplete o k ≡ incomplete o h
  broken_is : s.broken ≡ broken_keys o k

kept : (o : Opening) (h : List Entry) (e : Entry) (s new : QueueState) → EachAfter (MayFollow o) h → MayFollow o h e
    → sending_of e ≡ None → came_of e ≡ None → ends_work e ≡ false → awaits_after (awaited h) e ≡ awaited h
    → Describes o h s → Kept o h (h ++ e ∷ []) s new
kept o h e s new each may send came ends waits stands = record {
  line = line_same o h (h ++ e ∷ []) s new (same_line o h e send came ends waits) stands;
  devices_are = stands.devices_are ∙ sym (known_step o h e each may (rw (no_reply e ends) at (answers-push h e)));
  outcomes = outcomes_step o h e each may;
  same_incomplete = incomplete_same o h e (no_finish e ends);
  broken_is = stands.broken_is ∙ ap (λ i. i.keys) (sym (incomplete_same o h e (no_finish e ends)));
}

-- a request is accepted
pub stands_accept : (o : Opening) (h : List Entry) (s : QueueState) (c : ClientId) (n : ℕ) (request : Request)
    → EachAfter (MayFollow o) h → MayFollow o h (Accept c n request) → LogFacts o h → AskFacts o h → n ≡ s.next_request
    → Describes o h s → Describes o (h ++ Accept c n request ∷ []) (accepts_request s c.0 request)
stands_accept o h s c n request each may facts ask_facts number stands =
    let k : List Entry = h ++ Accept c n request ∷ [] in
    let within = facts.finished_within in
    let rest = kept o h (Accept c n request) s (accepts_request s c.0 request) each may refl refl refl refl stands in
    let next : s.next_request + 1 ≡ next_request o k =
    simp (pushes, length_push) (omega (arith, stands.next_request_is)) in
    let waiting : s.waiting ++ accepted_as s c.0 request ∷ [] ≡ unfinished k =
    simp (pushes, drop-append-le, number) (ap (λ l. l ++ accepted_as s c.0 request ∷ []) stands.waiting_are) in
    let outcomes : (d : ℕ) → owed_to d s ≡ filter_map (outcome_of k) (uncollected o d k) =
    λ d. rw (answers_accept o d h facts ask_facts c n request, collectors-push h (Accept c n request))
    (stands.outcomes_are d ∙ sym (rest.outcomes d)) in
    let flags : (d : ℕ) → flags_to d s ≡ map (may_be_incomplete o k) (uncollected o d k) =
    λ d. stands.flags_are d
    ∙ sym (flags_kept o h k d rest.same_incomplete (answers_accept o d h facts ask_facts c n request)
    (collectors-push h (Accept c n request))) in
    search (pushes, next, waiting, outcomes, flags, rest.line, rest, stands)

-- a discovery is asked
pub stands_ask : (o : Opening) (h : List Entry) (s : QueueState) (c : ClientId) (n : ℕ) (kind : Kind)
    → EachAfter (MayFollow o) h → MayFollow o h (Ask c n kind) → LogFacts o h → AskFacts o h → n ≡ s.next_ask
    → Describes o h s → Describes o (h ++ Ask c n kind ∷ []) (asks_discovery s c.0 kind)
stands_ask o h s c n kind each may facts ask_facts number stands =
    let k : List Entry = h ++ Ask c n kind ∷ [] in
    let within = ask_facts.answered_within in
    let rest = kept o h (Ask c n kind) s (asks_discovery s c.0 kind) each may refl refl refl refl stands in
    let next : s.next_ask + 1 ≡ next_ask o k = simp (pushes, length_push) (omega (arith, stands.next_ask_is)) in
    let asked : s.asked ++ asked_as s c.0 kind ∷ [] ≡ unanswered k =
    simp (pushes, drop-append-le, number) (ap (λ l. l ++ asked_as s c.0 kind ∷ []) stands.asked_are) in
    let outcomes : (d : ℕ) → owed_to d s ≡ filter_map (outcome_of k) (uncollected o d k) =
    λ d. rw (answers_ask o d h facts ask_facts c n kind, collectors-push h (Ask c n kind))
    (stands.outcomes_are d ∙ sym (rest.outcomes d)) in
    let flags : (d : ℕ) → flags_to d s ≡ map (may_be_incomplete o k) (uncollected o d k) =
    λ d. stands.flags_are d
    ∙ sym (flags_kept o h k d rest.same_incomplete (answers_ask o d h facts ask_facts c n kind)
    (collectors-push h (Ask c n kind))) in
    search (pushes, next, asked, outcomes, flags, rest.line, rest, stands)

-- a request's frame is sent
pub counted : (n m : ℕ) → ((n + m) % 256 + 1) % 256 ≡ (n + (m + 1)) % 256
counted n m = omega arith

pub was_sent_own : (n : ℕ) (ss : List Sending) (frame : ArrayVec ℕ)
    → list_any (λ (x : Sending). is_request n x.owner) (ss ++ record { owner = owners.Request n; frame = frame } ∷ [])
    ≡ true
was_sent_own n ss frame =
    list_any-append (λ (x : Sending). is_request n x.owner) ss (record { owner = owners.Request n; frame = frame } ∷ [])
    ∙ rw (eq-eqb n n refl) (or_true (list_any (λ (x : Sending). is_request n x.owner) ss))
  where
    or_true : (c : Bool) → (c || true) ≡ true
    or_true true = refl
    or_true false = refl

pub stands_send : (o : Opening) (h : List Entry) (s : QueueState) (a : Accepted) (frame : ArrayVec ℕ)
    → EachAfter (MayFollow o) h → MayFollow o h (Send (owners.Request a.number) frame)
    → length (sends h) ≡ length (cames h) → a.number ≡ oldest_number o h → sent_by frame.items ≡ sent_for s a
    → s.run ≡ None → Describes o h s → Describes o (h ++ Send (owners.Request a.number) frame ∷ []) (sends_request s a)
stands_send o h s a frame each may even number sent none stands =
    traded o h e s new each may refl stands line
  where
    e : Entry
    e = Send (owners.Request a.number) frame

    k : List Entry
    k = h ++ e ∷ []

    new : QueueState
    new = sends_request s a

    x : Sending
    x = record { owner = owners.Request a.number; frame = frame }

    before : IsNotRunning o h s.agent
    before = rw none at stands.run_is

    runs : SameRuns h k
    runs = same_runs_sent h a.number frame even

    line : DescribesLine o k new
    line = record {
      next_tn_is =
          rw (sends-push h e, length-append (sends h) (x ∷ []))
          (rw stands.next_tn_is (counted o.next_tn (length (sends h))));
      awaited_is = record {
        frame = frame;
        last = record {
          waits = awaited-push h e;
          earlier = sends h;
          sends_are = rw (finishes-push h e, ← number) (sends-push h e);
        };
        same = sent;
      };
      under_way_is =
          rw (sends-push h e, finishes-push h e, ← number) (sym (was_sent_own a.number (sends h) frame));
      standing = rw (finishes-push h e, verdicts_sent h (owners.Request a.number) frame (oldest_number o h) even)
          stands.standing;
      next_run_is = rw (last_run_sent h (owners.Request a.number) frame) stands.next_run_is;
      run_is = rw none (record {
        none_open = runs.same_open ∙ before.none_open;
        none_left = rw (
          last_run_sent h (owners.Request a.number) frame,
          asked_stays h e (last_run h) refl,
          answers-push h e,
        ) before.none_left;
        left = rw (last_run_sent h (owners.Request a.number) frame)
            (left_pushed o h e s.agent (last_run h) refl
            (λ r. run_exchanges_sent h (owners.Request a.number) frame r even) before.left);
      });
    }

-- a request's reply is heard
came_verdicts : (o : Opening) (h : List Entry) (sent : Sent) (event : LineEvent) → LogFacts o h
    → (w : AwaitsRequest o h sent)
    → (x : IsUnanswered h (record { owner = owners.Request (oldest_number o h); frame = w.frame }))
    → verdicts (oldest_number o h) (h ++ Came event ∷ []) ≡ verdicts (oldest_number o h) h ++ verdict sent event ∷ []
came_verdicts o h sent event facts w x =
    verdicts_came_own h _ event (oldest_number o h) x (eq-eqb (oldest_number o h) (oldest_number o h) refl)
    ∙ ap (λ (v : Sent). verdicts (oldest_number o h) h ++ verdict v event ∷ []) w.same

pub unanswered_of : (o : Opening) (h : List Entry) (x : Sending) → LogFacts o h → IsLast h x → IsUnanswered h x
unanswered_of o h x facts is = record {
  earlier = is.earlier;
  last = is.sends_are;
  answered = let count = facts.exchanges in
      let long = ap (λ l. length l) is.sends_are ∙ length-append is.earlier (x ∷ []) in
      even (awaited h) is.waits count long;
}
  where
    even : {n m k : ℕ} (b : Bool) → b ≡ true → n ≡ m + (if b then 1 else 0) → n ≡ k + 1 → k ≡ m
    even true is p q = omega arith
    even false is p q = absurd (false≢true is)

pub stands_came : (o : Opening) (h : List Entry) (s : QueueState) (sent : Sent) (event : LineEvent)
    (decided : Option Joined) (joiner : JoinerStanding) → EachAfter (MayFollow o) h → MayFollow o h (Came event)
    → LogFacts o h → s.awaited ≡ Some (awaiting.Request sent)
    → IsStanding (verdicts (oldest_number o h) h ++ verdict sent event ∷ []) decided joiner → Describes o h s
    → Describes o (h ++ Came event ∷ []) (record s { awaited = None; joiner = joiner; decided = decided })
stands_came o h s sent event decided joiner each may facts was standing stands =
    traded o h e s new each may refl stands line
  where
    e : Entry
    e = Came event

    k : List Entry
    k = h ++ e ∷ []

    new : QueueState
    new = record s { awaited = None; joiner = joiner; decided = decided }

    w : AwaitsRequest o h sent
    w = rw was at stands.awaited_is

    x : IsUnanswered h (record { owner = owners.Request (oldest_number o h); frame = w.frame })
    x = unanswered_of o h _ facts w.last

    line : DescribesLine o k new
    line = record {
      next_tn_is = rw (sends-push h e) stands.next_tn_is;
      awaited_is = awaited-push h e;
      under_way_is = rw (sends-push h e, finishes-push h e) stands.under_way_is;
      standing = rw (finishes-push h e) (rw (came_verdicts o h sent event facts w x) standing);
      next_run_is = rw (last_run_same h k (sends-push h e)) stands.next_run_is;
      run_is =
          run_same o h k s new s.run (same_running_came o h (oldest_number o h) w.frame event x) refl (inl refl)
          stands.run_is;
    }

-- an outcome is collected
removed_rest : {X : Type 0} (lists : List (List X)) (c n : ℕ)
    → get_or (set lists c (drop 1 (get_or lists c []))) n []
    ≡ (if n == c then drop 1 (get_or lists n []) else get_or lists n [])
removed_rest {X} lists c n = by_client (cases_eq n c) (cases_lt c (length lists))
  where
    none : {ds es : List X} → ds ≡ [] → es ≡ [] → ds ≡ drop 1 es
    none p q = p ∙ ap (drop 1) (sym q)

    by_client : (n ≡ c) ⊎ (n ≡ c → ⊥) → (c < length lists) ⊎ (length lists ≤ c)
        → get_or (set lists c (drop 1 (get_or lists c []))) n []
        ≡ (if n == c then drop 1 (get_or lists n []) else get_or lists n [])
    by_client (inl same) (inl within) =
        rw (eq-eqb n c same, same) (get_or-set_same lists c (drop 1 (get_or lists c [])) [] within)
    by_client (inl same) (inr past) =
        rw (eq-eqb n c same, same)
        (none (get_or_past (set lists c (drop 1 (get_or lists c []))) c []
        (let long = length-set lists c (drop 1 (get_or lists c [])) in omega arith)) (get_or_past lists c [] past))
    by_client (inr other) within =
        rw (ne_eqb n c other) (get_or-set_other lists c n (drop 1 (get_or lists c [])) [] other)

count_less : (lists : List (List OutcomeValue)) (c : ℕ) (d : OutcomeValue) → slice_get (get_or lists c []) 0 ≡ Some d
    → in_all (removed_at lists c) + 1 ≡ in_all lists
count_less [] c d at = cc
count_less (ds ∷ lists) zero d at =
    let some = index_within ds 0 d at in
    omega (arith, length-drop 1 ds, in_all-cons (drop 1 ds) lists, in_all-cons ds lists)
count_less (ds ∷ lists) (suc c) d at =
    omega (arith, count_less lists c d at, in_all-cons ds (removed_at lists c), in_all-cons ds lists)

pub stands_collect : (o : Opening) (h : List Entry) (s : QueueState) (c : ClientId) (d : OutcomeValue)
    → EachAfter (MayFollow o) h → MayFollow o h (Collect c) → slice_get (owed_to c.0 s) 0 ≡ Some d → Describes o h s
    → Describes o (h ++ Collect c ∷ []) (collects_oldest s c.0)
stands_collect o h s c d each may first stands =
    let rest = kept o h e s (collects_oldest s c.0) each may refl refl refl refl stands in
    let long : length (collects_oldest s c.0).owed ≡ length (places o k) =
    length-set s.owed c.0 _ ∙ simp pushes stands.owed_for_each in
    let all : uncollected_by (collects_oldest s c.0) + length (collectors k)
    ≡ length (finishes k) + length (answers k) =
    let less = count_less s.owed c.0 d first in let all = stands.all_outcomes in
    simp (pushes, length_push) (omega arith) in
    let flags_long : length (collects_oldest s c.0).flags ≡ length (places o k) =
    length-set s.flags c.0 _ ∙ simp pushes stands.flags_for_each in
    search (pushes, long, all, outcomes, flags_long, flags rest.same_incomplete, rest.line, rest, stands)
  where
    e : Entry
    e = Collect c

    k : List Entry
    k = h ++ e ∷ []

    collects : (client : ℕ) → collects_by client k ≡ collects_by client h ++ filter (λ b. client == b) (c.0 ∷ [])
    collects client =
        ap (λ l. filter (λ b. client == b) l) (collectors-push h e)
        ∙ filter-append (λ b. client == b) (collectors h) (c.0 ∷ [])

    outcomes : (client : ℕ)
        → owed_to client (collects_oldest s c.0) ≡ filter_map (outcome_of k) (uncollected o client k)
    outcomes client = removed_rest s.owed c.0 client ∙ by_client (cases_Bool (client == c.0))
      where
        agree : owed_to client s ≡ filter_map (outcome_of k) (uncollected o client h)
        agree = stands.outcomes_are client ∙ sym (outcomes_step o h e each may client)

        by_client : ((client == c.0) ≡ true) ⊎ ((client == c.0) ≡ false)
            → (if client == c.0 then drop 1 (owed_to client s) else owed_to client s)
            ≡ filter_map (outcome_of k) (uncollected o client k)
        by_client (inl own) =
            rw (
              collects client,
              own,
              length-append (collects_by client h) (c.0 ∷ []),
              answers_same o client h e refl refl,
              ← drop-drop 1 (length (collects_by client h)) (answers_to o client h),
            )
            (ap (drop 1) agree ∙ sym (outcomes_rest o client k h (uncollected o client h) (answers_passed o client h)))
        by_client (inr other) =
            rw (collects client, other, append-nil (collects_by client h), answers_same o client h e refl refl) agree

    flags : incomplete o k ≡ incomplete o h → (client : ℕ)
        → flags_to client (collects_oldest s c.0) ≡ map (may_be_incomplete o k) (uncollected o client k)
    flags same client = removed_rest s.flags c.0 client ∙ by_client (cases_Bool (client == c.0))
      where
        agree : flags_to client s ≡ map (may_be_incomplete o k) (uncollected o client h)
        agree =
            stands.flags_are client
            ∙ sym (ap (λ (i : Incomplete). map (is_flagged i.flagged) (uncollected o client h)) same)

        by_client : ((client == c.0) ≡ true) ⊎ ((client == c.0) ≡ false)
            → (if client == c.0 then drop 1 (flags_to client s) else flags_to client s)
            ≡ map (may_be_incomplete o k) (uncollected o client k)
        by_client (inl own) =
            rw (
              collects client,
              own,
              length-append (collects_by client h) (c.0 ∷ []),
              answers_same o client h e refl refl,
              ← drop-drop 1 (length (collects_by client h)) (answers_to o client h),
            )
            (ap (drop 1) agree ∙ drop-map (may_be_incomplete o k) 1 (uncollected o client h))
        by_client (inr other) =
            rw (collects client, other, append-nil (collects_by client h), answers_same o client h e refl refl) agree

-- the last frame has one owner
pub last_owner : (ss xs ys : List Sending) (n r : ℕ) (frame other : ArrayVec ℕ)
    → ss ≡ xs ++ record { owner = owners.Request n; frame = frame } ∷ []
    → ss ≡ ys ++ record { owner = owners.Run r; frame = other } ∷ [] → ⊥
last_owner ss xs ys n r frame other is also =
    no (same_from_push xs ys (record { owner = owners.Request n; frame = frame })
    (record { owner = owners.Run r; frame = other }) (sym is ∙ also)).1
  where
    no : ◌≡◌ {A = Sending} (record { owner = owners.Request n; frame = frame })
        (record { owner = owners.Run r; frame = other }) → ⊥
    no h = false≢true (ap (λ (x : Sending). is_run r x.owner) h ∙ eq-eqb r r refl)

-- one more outcome
pub count_more : (lists : List (List OutcomeValue)) (c : ℕ) (d : OutcomeValue) → c < length lists
    → in_all (put_at lists c d) ≡ in_all lists + 1
count_more [] c d within = absurd (omega arith)
count_more (ds ∷ lists) zero d within =
    omega (arith, length-append ds (d ∷ []), in_all-cons (ds ++ d ∷ []) lists, in_all-cons ds lists)
count_more (ds ∷ lists) (suc c) d within =
    let later = count_more lists c d (omega arith) in
    omega (arith, in_all-cons ds (put_at lists c d), in_all-cons ds lists)

pub owed_more : (o : Opening) (h k : List Entry) (e : Entry) (s : QueueState) (client : ℕ) (d : OutcomeValue)
    → client < length s.owed → ((c : ℕ) → (c == client) ≡ true → answers_to o c k ≡ answers_to o c h ++ e ∷ [])
    → ((c : ℕ) → (c == client) ≡ false → answers_to o c k ≡ answers_to o c h) → collectors k ≡ collectors h
    → ((c : ℕ) → length (collects_by c h) ≤ length (answers_to o c h)) → outcome_of k e ≡ Some d
    → ((c : ℕ) → owed_to c s ≡ filter_map (outcome_of k) (uncollected o c h)) → (c : ℕ)
    → get_or (owes client d s) c [] ≡ filter_map (outcome_of k) (uncollected o c k)
owed_more o h k e s client d within own other same few outcome_is before c = by_client (cases_eq c client)
  where
    by_client : (c ≡ client) ⊎ (c ≡ client → ⊥)
        → get_or (owes client d s) c [] ≡ filter_map (outcome_of k) (uncollected o c k)
    by_client (inl is) = rw (is, owes-own s client d within) (more client (own client (eq-eqb client client refl)))
      where
        more : (c : ℕ) → answers_to o c k ≡ answers_to o c h ++ e ∷ []
            → owed_to c s ++ d ∷ [] ≡ filter_map (outcome_of k) (uncollected o c k)
        more c grows =
            rw (
              uncollected_more o c h k e (ap (λ l. filter (λ b. c == b) l) same) (few c) grows,
              filter_map-append (outcome_of k) (uncollected o c h) (e ∷ []),
              ← before c,
              outcome_is,
            ) refl
    by_client (inr not) = owes-other s client c d not ∙ rw (other c (ne_eqb c client not), same) (before c)

-- one more flag
pub flags_grow : (o : Opening) (h k : List Entry) (e : Entry) (s : QueueState) (client : ℕ) (flag : Bool)
    → client < length s.flags → ((c : ℕ) → (c == client) ≡ true → answers_to o c k ≡ answers_to o c h ++ e ∷ [])
    → ((c : ℕ) → (c == client) ≡ false → answers_to o c k ≡ answers_to o c h) → collectors k ≡ collectors h
    → ((c : ℕ) → length (collects_by c h) ≤ length (answers_to o c h)) → may_be_incomplete o k e ≡ flag
    → ((c : ℕ) → flags_to c s ≡ map (may_be_incomplete o k) (uncollected o c h)) → (c : ℕ)
    → get_or (flags_more client flag s) c [] ≡ map (may_be_incomplete o k) (uncollected o c k)
flags_grow o h k e s client flag within own other same few flag_is before c = by_client (cases_eq c client)
  where
    by_client : (c ≡ client) ⊎ (c ≡ client → ⊥)
        → get_or (flags_more client flag s) c [] ≡ map (may_be_incomplete o k) (uncollected o c k)
    by_client (inl is) =
        rw (is, get_or-set_same s.flags client (flags_to client s ++ flag ∷ []) [] within)
        (more client (own client (eq-eqb client client refl)))
      where
        more : (c : ℕ) → answers_to o c k ≡ answers_to o c h ++ e ∷ []
            → flags_to c s ++ flag ∷ [] ≡ map (may_be_incomplete o k) (uncollected o c k)
        more c grows =
            rw (
              uncollected_more o c h k e (ap (λ l. filter (λ b. c == b) l) same) (few c) grows,
              map-append (may_be_incomplete o k) (uncollected o c h) (e ∷ []),
              ← before c,
              flag_is,
            ) refl
    by_client (inr not) =
        get_or-set_other s.flags client c (flags_to client s ++ flag ∷ []) [] not
        ∙ rw (other c (ne_eqb c client not), same) (before c)

-- what a Finish says of its end is what the queue has noted
pub whole_so : (status : Status) (r : Option Joined) → is_whole status (completion_of status r).head
    ≡ is_whole status (option_and_then (λ j. j.head) r)
whole_so Completed None = refl
whole_so Completed (Some j) = refl
whole_so _ r = refl

pub end_so : (key : Option AnswerKey) (sent : Bool) (status : Status) (r : Option Joined) (b : BrokenKeys)
    → (after_end key sent status (completion_of status r).head b
    ≡ after_end key sent status (option_and_then (λ j. j.head) r) b)
    × (is_end_flagged key status (completion_of status r).head b
    ≡ is_end_flagged key status (option_and_then (λ j. j.head) r) b)
end_so None sent status r b = (refl, refl)
end_so (Some key) sent status r b = (rw (whole_so status r) refl, rw (whole_so status r) refl)

-- no frame of a request was sent
pub none_sent : (n : ℕ) (ss : List Sending)
    → ((i : ℕ) (x : Sending) → slice_get ss i ≡ Some x → is_request n x.owner ≡ false)
    → list_any (λ (x : Sending). is_request n x.owner) ss ≡ false
none_sent n [] none = refl
none_sent n (x ∷ ss) none = rw (none 0 x refl) (none_sent n ss (λ i y at. none (suc i) y at))

-- the oldest request is finished
pub stands_finish : (o : Opening) (h : List Entry) (s : QueueState) (a : Accepted) (rest : List Accepted)
    (done : Joined) → EachAfter (MayFollow o) h → MayFollow o h (finish_of (owed_for done a)) → LogFacts o h
    → ClientFacts o h → unfinished h ≡ a ∷ rest → done ≡ completion_of done.status (result a.number h)
    → s.awaited ≡ None → s.run ≡ None → Describes o h s
    → Describes o (h ++ finish_of (owed_for done a) ∷ []) (finishes_oldest s (owed_for done a))
stands_finish o h s a rest done each may facts clients oldest completes idle none stands =
    let waiting : drop 1 s.waiting ≡ unfinished k =
    rw (unfinished_finish h a.number done.status (length done.data_)) (ap (drop 1) stands.waiting_are) in
    let awaits : IsPending o k new s.awaited = rw idle (awaited-push h e ∙ rw idle at stands.awaited_is) in
    let way : false ≡ was_sent (oldest_number o k) k = sym (none_sent (oldest_number o k) (sends k) unsent) in
    let standing : IsStanding (verdicts (oldest_number o k) k) new.decided new.joiner =
    rw (verdicts_unsent k (oldest_number o k) unsent) (refl, refl) in
    let runs : RunIs o k new s.run =
    run_same o h k s new s.run (same_running o h e refl refl refl) refl (inr refl) stands.run_is in
    let known : s.devices ≡ known_devices o k =
    stands.devices_are ∙ sym (known_step o h e each may (answers-push h e)) in
    let long : length new.owed ≡ length (places o k) =
    length-set s.owed a.client _ ∙ simp pushes stands.owed_for_each in
    let outcomes : (c : ℕ) → owed_to c new ≡ filter_map (outcome_of k) (uncollected o c k) =
    owed_more o h k e s a.client (owed_value (owed_for done a)) within
    (λ c own. answers_finish_own o c h a.number done.status (length done.data_) a.client client_is own)
    (λ c other. answers_finish_other o c h a.number done.status (length done.data_) a.client client_is other)
    (collectors-push h e) clients.collected_within
    (ap (λ (j : Joined). Some (owed_value (owed_for j a)))
    (ap (λ q. completion_of done.status q) (result_same h k a.number (sends-push h e) (cames-push h e))
    ∙ sym completes)) (λ c. stands.outcomes_are c ∙ sym (outcomes_step o h e each may c)) in
    let all : uncollected_by new + length (collectors k) ≡ length (finishes k) + length (answers k) =
    let more = count_more s.owed a.client (owed_value (owed_for done a)) within in
    let all = stands.all_outcomes in simp (pushes, length_push) (omega arith) in
    let flags_long : length new.flags ≡ length (places o k) =
    length-set s.flags a.client _ ∙ simp pushes stands.flags_for_each in
    let flags : (c : ℕ) → flags_to c new ≡ map (may_be_incomplete o k) (uncollected o c k) =
    flags_grow o h k e s a.client (flag_at_end s done) flags_within
    (λ c own. answers_finish_own o c h a.number done.status (length done.data_) a.client client_is own)
    (λ c other. answers_finish_other o c h a.number done.status (length done.data_) a.client client_is other)
    (collectors-push h e) clients.collected_within flag_so
    (λ c. stands.flags_are c ∙ sym (flags_finish o h a.number done.status (length done.data_) each may c)) in
    search (
      run_pushes,
      waiting,
      awaits,
      way,
      standing,
      runs,
      known,
      long,
      outcomes,
      all,
      broken_so,
      flags_long,
      flags,
      stands,
    )
  where
    e : Entry
    e = finish_of (owed_for done a)

    k : List Entry
    k = h ++ e ∷ []

    new : QueueState
    new = finishes_oldest s (owed_for done a)

    first : slice_get (unfinished h) 0 ≡ Some a
    first = rw oldest refl

    number : a.number ≡ oldest_number o h
    number = unfinished_number o h facts 0 a first ∙ omega arith

    within : a.client < length s.owed
    within = rw stands.owed_for_each (facts.clients (length (finishes h) + 0) a (unfinished_index h 0 a first))

    unsent : (i : ℕ) (x : Sending) → slice_get (sends k) i ≡ Some x → is_request (oldest_number o k) x.owner ≡ false
    unsent i x at = by_test (cases_Bool (is_request (oldest_number o k) x.owner))
      where
        by_test : (is_request (oldest_number o k) x.owner ≡ true) ⊎ (is_request (oldest_number o k) x.owner ≡ false)
            → is_request (oldest_number o k) x.owner ≡ false
        by_test (inr other) = other
        by_test (inl own) =
            absurd (past (facts.sent_oldest i x (rw (sends-push h e) at at) (oldest_number o k) own)
            (ap length (finishes-push h e) ∙ length-append (finishes h) _))
          where
            past : {n : ℕ} → o.next_request + n ≤ oldest_number o h → n ≡ length (finishes h) + 1 → ⊥
            past p q = omega arith

    client_is : client_of_request o h a.number ≡ Some a.client
    client_is = client_of_accepted o h facts (length (finishes h) + 0) a (unfinished_index h 0 a first)

    flags_within : a.client < length s.flags
    flags_within = rw stands.flags_for_each (facts.clients (length (finishes h) + 0) a (unfinished_index h 0 a first))

    head_is : done.head ≡ (completion_of done.status (result a.number h)).head
    head_is = ap (λ (j : Joined). j.head) completes

    broken_so : broken_after s done ≡ broken_keys o k
    broken_so =
        ap (λ head. after_end (key_of_first s.waiting) s.under_way done.status head s.broken) head_is
        ∙ ((end_so (key_of_first s.waiting) s.under_way done.status (result a.number h) s.broken).0
        ∙ rw (stands.waiting_are, stands.under_way_is, ← number, stands.broken_is)
        (sym (ap (λ (i : Incomplete). i.keys) (incomplete_push o h e))))

    flag_so : may_be_incomplete o k e ≡ flag_at_end s done
    flag_so =
        flag_of_finish o h a.number done.status (length done.data_) each may
        ∙ sym (ap (λ head. is_end_flagged (key_of_first s.waiting) done.status head s.broken) head_is
        ∙ ((end_so (key_of_first s.waiting) s.under_way done.status (result a.number h) s.broken).1
        ∙ rw (stands.waiting_are, stands.broken_is) refl))
