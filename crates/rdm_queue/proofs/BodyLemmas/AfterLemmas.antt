-- A queue stands after a log that grows by what each call adds: the calls that finish nothing.
use Rattle.rdm_queue.proofs.Common.{◌≡◌, ℕ, suc, Bool, true, false, not, List, [], ◌∷◌, ◌++◌, length, filter, map, sum}
use Rattle.rdm_queue.proofs.Common.{length-append, Option, Some, None, refl, sym, ap, ◌∙◌, append_assoc, arith}
use Rattle.rdm_queue.proofs.Common.{filter_map, ◌≢◌, ◌==◌, option_map, option_and_then, is_some, slice_get}
use Rattle.rdm_queue.proofs.Common.{if◌then◌else◌, AllByRecursion, false≢true, map-append, sum_by-append, none-some}
use Rattle.rdm_queue.proofs.Common.{ArrayVec, Sent, sent_by, Setup, ClientId, Owner, Opening, Entry}
use Rattle.rdm_queue.proofs.Common.{Join, Send, Finish, Collect, Pause, Resume, JoinFault, Work}
use Rattle.rdm_queue.proofs.Common.{WorkFault, Awaited, MayFollow, Accepted, joins, accepts, asks, sends, cames}
use Rattle.rdm_queue.proofs.Common.{finishes, answers, collectors, traded, of_request, verdicts, last_run, awaited}
use Rattle.rdm_queue.proofs.Common.{is_paused, is_closed, is_answer_to, answers_to, uncollected, join_fault, MaySend}
use Rattle.rdm_queue.proofs.Common.{Legal, OutcomeValue, outcome_value, outcome_of, oldest_kind, RefusesJoin}
use Rattle.rdm_queue.proofs.Common.{join_refused, work_refused, work_accepted, Outcome, opened, QueueState, first_state}
use Rattle.rdm_queue.proofs.Common.{first_join_fault, first_fault, number_for, work_fault, outstanding}
use Rattle.rdm_queue.proofs.Common.{outstanding_asks, is_discovery, owed_to, joins_client, accepts_work}
use Rattle.rdm_queue.proofs.Common.{collects_oldest, first_kind, kind_of_value, sent_for, IsPending}
use Rattle.rdm_queue.proofs.Common.{Describes, StandsAfter, empty, LogFacts, legal_facts, ClientFacts, client_facts}
use Rattle.rdm_queue.proofs.Common.{AskFacts, ask_facts, joins-push, is_paused-push, is_closed-push, answers_passed}
use Rattle.rdm_wire.specs.declared.request.ReqClass.{ReqClass}
use Rattle.rdm_wire.specs.declared.request.ReqClass.TheVariants as requests
use Rattle.rdm_wire.specs.Packet.{Fields, Packet}
use Rattle.rdm_wire.specs.CommandFrames.{request_fields, code_of_request_class}
use Rattle.rdm_wire.proofs.PacketLemmas.{fields_at-packet}
use Rattle.rdm_log.specs.declared.entry.Call.TheVariants as calls
use Rattle.rdm_log.specs.declared.entry.Entry.TheVariants.{Refuse}
use Rattle.rdm_log.specs.declared.entry.Entry.TheVariants as discovery
use Rattle.rdm_queue.specs.declared.pending.Awaited.TheVariants as awaiting
use Rattle.rdm_log.specs.log.Entries.{finished_of, answered_of}
use Rattle.rdm_log.specs.log.History.{can_pause, can_resume}
use Rattle.rdm_log.specs.log.Clients.{outstanding_requests, outstanding_discoveries}
use Rattle.rdm_log.specs.log.Refusals.{IsRefused, number_of_join_fault, number_of_work_fault}
use Rattle.rdm_log.specs.declared.work.Work.TheVariants.{Submit, Discover}
use Rattle.rdm_log.specs.promises.Outcomes.{kind_of_answer}
use Rattle.rdm_log.specs.promises.Blocks.{IsOldest, call_of, next_number}
use Rattle.rdm_log.proofs.LogLemmas.ClientFacts.{outstanding_parts, outstanding_discovery_parts}
use Rattle.rdm_log.proofs.LogLemmas.KeepsLegal.{join_keeps, refuse_keeps, collect_keeps, pause_keeps, resume_keeps}
use Rattle.rdm_log.proofs.LogLemmas.KeepsLegal.{accept_keeps, ask_keeps}
unfoldable use Rattle.rdm_log.specs.log.Broken.{after_entries}
use Rattle.rdm_queue.proofs.BodyLemmas.InvariantLemmas.{none_owed_more}
use Rattle.rdm_queue.proofs.BodyLemmas.DescribesSame.{SameWork, same_work, stands_same}
use Rattle.rdm_queue.proofs.BodyLemmas.DescribesWork.{stands_accept, stands_ask, stands_collect}

facts_after : (o : Opening) (h : List Entry) (s : QueueState) → StandsAfter o h s → LogFacts o h
facts_after o h s after = legal_facts o h after.legal.each

asks_after : (o : Opening) (h : List Entry) (s : QueueState) → StandsAfter o h s → AskFacts o h
asks_after o h s after = ask_facts o h after.legal.each

clients_after : (o : Opening) (h : List Entry) (s : QueueState) → StandsAfter o h s → ClientFacts o h
clients_after o h s after = client_facts o h after.legal.each

-- a queue without calls
pub first_after : (setup : Setup) → StandsAfter (opened setup) [] (first_state setup)
unfolding joins accepts asks sends cames finishes answers collectors traded of_request verdicts awaited is_paused
    is_closed answers_to last_run after_entries
first_after setup = record {
  legal = empty (opened setup);
  goes_on = tt;
  stands = record {
    source_is = refl;
    greatest_is = refl;
    budget_is = refl;
    search_is = refl;
    places_are = refl;
    paused_is = refl;
    closed_is = refl;
    next_request_is = refl;
    next_tn_is = refl;
    waiting_are = refl;
    awaited_is = refl;
    under_way_is = refl;
    standing = (refl, refl);
    next_ask_is = refl;
    next_run_is = refl;
    asked_are = refl;
    run_is = record { none_open = refl; none_left = omega arith; left = λ first. (refl, refl) };
    devices_are = refl;
    devices_run_is = refl;
    owed_for_each = refl;
    outcomes_are = λ c. refl;
    broken_is = refl;
    flags_for_each = refl;
    flags_are = λ c. refl;
    all_outcomes = refl;
    first_run = omega arith;
  };
}

-- a join
pub join_fault_is : (o : Opening) (h : List Entry) (s : QueueState) (n : ℕ) → Describes o h s
    → first_join_fault s n ≡ join_fault o h n
join_fault_is o h s n stands = rw (stands.closed_is, stands.places_are, stands.greatest_is) refl

pub join_after : (o : Opening) (h : List Entry) (s : QueueState) (c : ClientId) (n : ℕ) → join_fault o h n ≡ None
    → c.0 ≡ length s.places → StandsAfter o h s → StandsAfter o (h ++ Join c n ∷ []) (joins_client s n)
join_after o h s c n passes client after = record {
  legal = join_keeps o h c n after.legal passes (client ∙ ap length after.stands.places_are);
  goes_on = after.goes_on;
  stands = stands_same o h e s (s.places ++ n ∷ []) s.paused s.closed (s.owed ++ [] ∷ []) (s.flags ++ [] ∷ [])
      after.legal.each
      (after.legal.settled, passes, client ∙ ap length after.stands.places_are)
      (same_work o h e refl refl refl refl refl refl)
      (rw (joins-push h e, after.stands.places_are) (append_assoc o.places.items (joins h) (n ∷ [])))
      (after.stands.paused_is ∙ sym (is_paused-push o h e)) (after.stands.closed_is ∙ sym (is_closed-push o h e))
      (none_owed_more s.owed) (sum_more s.owed) (long s.owed after.stands.owed_for_each) (none_owed_more s.flags)
      (long s.flags after.stands.flags_for_each) after.stands;
}
  where
    e : Entry
    e = Join c n

    sum_more : (lists : List (List OutcomeValue))
        → sum (map (λ (ds : List OutcomeValue). length ds) (lists ++ [] ∷ []))
        ≡ sum (map (λ (ds : List OutcomeValue). length ds) lists)
    sum_more lists =
        ap (λ l. sum l) (map-append (λ (ds : List OutcomeValue). length ds) lists ([] ∷ []))
        ∙ (sum_by-append (λ (m : ℕ). m) (map (λ (ds : List OutcomeValue). length ds) lists) (0 ∷ []) ∙ omega arith)

    long : {X : Type 0} (lists : List (List X)) → length lists ≡ length (o.places.items ++ joins h)
        → length (lists ++ [] ∷ []) ≡ length (o.places.items ++ joins (h ++ e ∷ []))
    long lists same = rw (joins-push h e)
        (let one = length-append lists ([] ∷ []) in let two = length-append o.places.items (joins h ++ n ∷ []) in
        let three = length-append (joins h) (n ∷ []) in let four = length-append o.places.items (joins h) in
        omega arith)

-- a refusal
refuse_after : (o : Opening) (h : List Entry) (s : QueueState) (e : Entry) → MayFollow o h e → Legal o (h ++ e ∷ [])
    → SameWork o h (h ++ e ∷ []) → joins (h ++ e ∷ []) ≡ joins h → is_paused o (h ++ e ∷ []) ≡ is_paused o h
    → is_closed o (h ++ e ∷ []) ≡ is_closed o h → StandsAfter o h s → StandsAfter o (h ++ e ∷ []) s
refuse_after o h s e may legal work joined paused closed after = record {
  legal = legal;
  goes_on = after.goes_on;
  stands = stands_same o h e s s.places s.paused s.closed s.owed s.flags after.legal.each may work
      (rw joined after.stands.places_are) (after.stands.paused_is ∙ sym paused) (after.stands.closed_is ∙ sym closed)
      (λ c. refl) refl (rw joined after.stands.owed_for_each) (λ c. refl) (rw joined after.stands.flags_for_each)
      after.stands;
}

refused_after : (o : Opening) (h : List Entry) (s : QueueState) (c : Option ClientId) (call : calls.the_data)
    (cause : ℕ) → IsRefused o h c call cause → StandsAfter o h s
    → StandsAfter o (h ++ Refuse c call (record { 0 = cause }) ∷ []) s
refused_after o h s c call cause refused after =
    let e = Refuse c call (record { 0 = cause }) in
    refuse_after o h s e (after.legal.settled, refused)
    (refuse_keeps o h c call (record { 0 = cause }) after.legal refused)
    (same_work o h e refl refl refl refl refl refl) (joins-push h e) (is_paused-push o h e)
    (is_closed-push o h e) after

pub join_refused_after : (o : Opening) (h : List Entry) (s : QueueState) (n : ℕ) (fault : JoinFault)
    → RefusesJoin (join_fault o h n) fault → StandsAfter o h s → StandsAfter o (h ++ join_refused n fault ∷ []) s
join_refused_after o h s n fault refuses after =
    refused_after o h s None (calls.Join n) (number_of_join_fault fault) (ap number_of_join_fault refuses) after

-- a client's work
counts : (o : Opening) (c : ℕ) (h k : List Entry) (es : List Entry)
    → AllByRecursion (λ e. is_answer_to o c k e ≡ true) es
    → (length (filter (λ d. not (is_discovery d)) (filter_map (outcome_of h) es)) ≡ length (filter_map finished_of es))
    × (length (filter is_discovery (filter_map (outcome_of h) es)) ≡ length (filter_map answered_of es))
counts o c h k [] all = (refl, refl)
counts o c h k (Finish n status len ∷ es) all = let rest = counts o c h k es all.1 in (ap suc rest.0, rest.1)
counts o c h k (discovery.Answer n run fault ∷ es) all = let rest = counts o c h k es all.1 in (rest.0, ap suc rest.1)
counts o c h k (e ∷ es) all = absurd (false≢true all.0)

outstanding_same : (o : Opening) (h : List Entry) (s : QueueState) (c : ℕ) → StandsAfter o h s
    → outstanding c s ≡ outstanding_requests o c h
unfolding finishes
outstanding_same o h s c after =
    rw (
      outstanding_parts o h (clients_after o h s after) c,
      after.stands.waiting_are,
      after.stands.outcomes_are c,
      (counts o c h h (uncollected o c h) (answers_passed o c h)).0,
    ) refl

asks_same_after : (o : Opening) (h : List Entry) (s : QueueState) (c : ℕ) → StandsAfter o h s
    → outstanding_asks c s ≡ outstanding_discoveries o c h
unfolding answers
asks_same_after o h s c after =
    rw (
      outstanding_discovery_parts o h (clients_after o h s after) c,
      after.stands.asked_are,
      after.stands.outcomes_are c,
      (counts o c h h (uncollected o c h) (answers_passed o c h)).1,
    ) refl

pub first_fault_is : (o : Opening) (h : List Entry) (s : QueueState) (c : ℕ) (work : Work) → StandsAfter o h s
    → first_fault s c work ≡ work_fault o h c work
first_fault_is o h s c (Submit request) after =
    rw (after.stands.closed_is, outstanding_same o h s c after, after.stands.places_are, after.stands.next_request_is)
    refl
first_fault_is o h s c (Discover kind) after =
    rw (after.stands.closed_is, asks_same_after o h s c after, after.stands.places_are, after.stands.next_ask_is) refl

pub number_is : (o : Opening) (h : List Entry) (s : QueueState) (work : Work) → StandsAfter o h s
    → number_for s work ≡ next_number o h work
number_is o h s (Submit request) after = after.stands.next_request_is
number_is o h s (Discover kind) after = after.stands.next_ask_is

pub work_after : (o : Opening) (h : List Entry) (s : QueueState) (c : ClientId) (n : ℕ) (work : Work)
    → work_fault o h c.0 work ≡ None → n ≡ number_for s work → StandsAfter o h s
    → StandsAfter o (h ++ work_accepted c n work ∷ []) (accepts_work s c.0 work)
work_after o h s c n (Submit request) passes number after =
    let next = number ∙ after.stands.next_request_is in
    record {
      legal = accept_keeps o h c n request after.legal passes next;
      goes_on = after.goes_on;
      stands = stands_accept o h s c n request after.legal.each (after.legal.settled, passes, next)
          (facts_after o h s after) (asks_after o h s after) number after.stands;
    }
work_after o h s c n (Discover kind) passes number after =
    let next = number ∙ after.stands.next_ask_is in
    record {
      legal = ask_keeps o h c n kind after.legal passes next;
      goes_on = after.goes_on;
      stands = stands_ask o h s c n kind after.legal.each (after.legal.settled, passes, next) (facts_after o h s after)
          (asks_after o h s after) number after.stands;
    }

pub work_refused_after : (o : Opening) (h : List Entry) (s : QueueState) (c : ClientId) (work : Work)
    (fault : WorkFault) → work_fault o h c.0 work ≡ Some fault → StandsAfter o h s
    → StandsAfter o (h ++ work_refused c work fault ∷ []) s
work_refused_after o h s c work fault refuses after =
    refused_after o h s (Some c) (call_of work) (number_of_work_fault fault)
    (is_refused work (ap (option_map number_of_work_fault) refuses)) after
  where
    is_refused : (w : Work) → option_map number_of_work_fault (work_fault o h c.0 w) ≡ Some (number_of_work_fault fault)
        → IsRefused o h (Some c) (call_of w) (number_of_work_fault fault)
    is_refused (Submit request) is = is
    is_refused (Discover kind) is = is

-- pause and resume
switch_after : (o : Opening) (h : List Entry) (s : QueueState) (e : Entry) (paused : Bool) → MayFollow o h e
    → Legal o (h ++ e ∷ []) → SameWork o h (h ++ e ∷ []) → joins (h ++ e ∷ []) ≡ joins h
    → is_paused o (h ++ e ∷ []) ≡ paused → is_closed o (h ++ e ∷ []) ≡ is_closed o h → StandsAfter o h s
    → StandsAfter o (h ++ e ∷ []) (record s { paused = paused })
switch_after o h s e paused may legal work joined paused_is closed after = record {
  legal = legal;
  goes_on = after.goes_on;
  stands = stands_same o h e s s.places paused s.closed s.owed s.flags after.legal.each may work
      (rw joined after.stands.places_are) (sym paused_is) (after.stands.closed_is ∙ sym closed) (λ c. refl) refl
      (rw joined after.stands.owed_for_each) (λ c. refl) (rw joined after.stands.flags_for_each) after.stands;
}

pub pause_after : (o : Opening) (h : List Entry) (s : QueueState) → can_pause o h ≡ true → StandsAfter o h s
    → StandsAfter o (h ++ Pause ∷ []) (record s { paused = true })
pause_after o h s can after =
    switch_after o h s Pause true (after.legal.settled, can) (pause_keeps o h after.legal can)
    (same_work o h Pause refl refl refl refl refl refl) (joins-push h Pause) (is_paused-push o h Pause)
    (is_closed-push o h Pause) after

pub resume_after : (o : Opening) (h : List Entry) (s : QueueState) → can_resume o h ≡ true → StandsAfter o h s
    → StandsAfter o (h ++ Resume ∷ []) (record s { paused = false })
resume_after o h s can after =
    switch_after o h s Resume false (after.legal.settled, can) (resume_keeps o h after.legal can)
    (same_work o h Resume refl refl refl refl refl refl) (joins-push h Resume) (is_paused-push o h Resume)
    (is_closed-push o h Resume) after

-- a take
pub pending_flag : (o : Opening) (h : List Entry) (s : QueueState) (w : Option Awaited) → IsPending o h s w
    → is_some w ≡ awaited h
pending_flag o h s None pending = sym pending
pending_flag o h s (Some (awaiting.Request sent)) pending = sym pending.last.waits
pending_flag o h s (Some (awaiting.Run tn)) pending = sym pending.last.waits

-- what a request's frame says was sent
class_back : (class : ReqClass) → (if code_of_request_class class == 0x20 then requests.Get else requests.Set) ≡ class
class_back requests.Get = refl
class_back requests.Set = refl

abbrev sent_of_fields : Fields → Sent
sent_of_fields f = record {
  target = f.dest;
  source = f.source;
  tn = f.tn;
  sub_device = f.sub_device;
  class = if f.class == 0x20 then requests.Get else requests.Set;
  pid = f.pid;
}

pub sent_by_frame : (s : QueueState) (a : Accepted) (frame : List ℕ)
    → Packet (request_fields a.request s.source s.next_tn) frame → sent_by frame ≡ sent_for s a
sent_by_frame s a frame is =
    ap sent_by is.1 ∙ ap sent_of_fields (fields_at-packet (request_fields a.request s.source s.next_tn) is.0)
    ∙ rw (class_back a.request.class) refl

-- a frame that goes out
pub record IsSent (o : Opening) (h : List Entry) (owner : Owner) (frame : ArrayVec ℕ) (new : QueueState) : Type 0 where
  pub may : MaySend o h owner frame
  pub after : StandsAfter o (h ++ Send owner frame ∷ []) new

-- a collect: the oldest owed is the oldest answer's
first_entry : (o : Opening) (c : ℕ) (h k : List Entry) (es : List Entry) (outcome : OutcomeValue)
    → AllByRecursion (λ e. is_answer_to o c k e ≡ true) es → slice_get (filter_map (outcome_of h) es) 0 ≡ Some outcome
    → (e : Entry) × (slice_get es 0 ≡ Some e) × (outcome_of h e ≡ Some outcome)
first_entry o c h k [] outcome all first = absurd (no first)
  where
    no : None ≡ Some outcome → ⊥
    no h = cc
first_entry o c h k (Finish n status len ∷ es) outcome all first = (Finish n status len, refl, first)
first_entry o c h k (discovery.Answer n run fault ∷ es) outcome all first = (discovery.Answer n run fault, refl, first)
first_entry o c h k (e ∷ es) outcome all first = absurd (false≢true all.0)

pub oldest_after : (o : Opening) (h : List Entry) (s : QueueState) (c : ClientId) (outcome : Outcome)
    → option_map outcome_value (Some outcome) ≡ slice_get (owed_to c.0 s) 0 → StandsAfter o h s
    → IsOldest o h c.0 outcome
oldest_after o h s c outcome told after =
    let found = first_entry o c.0 h h (uncollected o c.0 h) (outcome_value outcome) (answers_passed o c.0 h)
    (sym (ap (λ l. slice_get l 0) (after.stands.outcomes_are c.0)) ∙ sym told) in
    record { entry = found.0; oldest = found.1; told = found.2 }

some_list : {X : Type 0} (xs : List X) (x : X) → slice_get xs 0 ≡ Some x → xs ≢ []
some_list xs x first none = no (rw none at first)
  where
    no : None ≡ Some x → ⊥
    no h = cc

pub collect_after : (o : Opening) (h : List Entry) (s : QueueState) (c : ClientId) (outcome : Outcome)
    → option_map outcome_value (Some outcome) ≡ slice_get (owed_to c.0 s) 0 → StandsAfter o h s
    → StandsAfter o (h ++ Collect c ∷ []) (collects_oldest s c.0)
collect_after o h s c outcome told after =
    let oldest = oldest_after o h s c outcome told after in
    let some = some_list (uncollected o c.0 h) oldest.entry oldest.oldest in
    record {
      legal = collect_keeps o h c after.legal some;
      goes_on = after.goes_on;
      stands = stands_collect o h s c (outcome_value outcome) after.legal.each (after.legal.settled, some) (sym told)
          after.stands;
    }

pub none_owed_after : (o : Opening) (h : List Entry) (s : QueueState) (c : ℕ)
    → ◌≡◌ {A = Option OutcomeValue} None (slice_get (owed_to c s) 0) → StandsAfter o h s → uncollected o c h ≡ []
none_owed_after o h s c none after =
    none_uncollected (uncollected o c h) (answers_passed o c h)
    (ap (λ l. slice_get l 0) (sym (after.stands.outcomes_are c)) ∙ sym none)
  where
    none_uncollected : (es : List Entry) → AllByRecursion (λ e. is_answer_to o c h e ≡ true) es
        → slice_get (filter_map (outcome_of h) es) 0 ≡ None → es ≡ []
    none_uncollected [] all first = refl
    none_uncollected (Finish n status len ∷ es) all first = absurd (none-some _ (sym first))
    none_uncollected (discovery.Answer n run fault ∷ es) all first = absurd (none-some _ (sym first))
    none_uncollected (e ∷ es) all first = absurd (false≢true all.0)

pub kind_after : (o : Opening) (h : List Entry) (s : QueueState) (c : ℕ) → StandsAfter o h s
    → first_kind c s ≡ oldest_kind o h c
kind_after o h s c after =
    ap (λ l. option_map kind_of_value (slice_get l 0)) (after.stands.outcomes_are c)
    ∙ kind_of_first (uncollected o c h) (answers_passed o c h)
  where
    kind_of_first : (es : List Entry) → AllByRecursion (λ e. is_answer_to o c h e ≡ true) es
        → option_map kind_of_value (slice_get (filter_map (outcome_of h) es) 0)
        ≡ option_and_then kind_of_answer (slice_get es 0)
    kind_of_first [] all = refl
    kind_of_first (Finish n status len ∷ es) all = refl
    kind_of_first (discovery.Answer n run fault ∷ es) all = refl
    kind_of_first (e ∷ es) all = absurd (false≢true all.0)
