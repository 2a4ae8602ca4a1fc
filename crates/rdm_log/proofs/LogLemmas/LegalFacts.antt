-- What holds for a log in which each entry may follow those before it, even if something is due at its end.
use Rattle.rdm_log.proofs.Common.{◌≡◌, false, ℕ, ◌+◌, ◌≤◌, ◌<◌, true, List, [], ◌∷◌, ◌++◌, length, Some, None}
use Rattle.rdm_log.proofs.Common.{if◌then◌else◌, slice_get, refl, sym, ap, ◌∙◌, append_assoc, append-nil, arith}
use Rattle.rdm_log.proofs.Common.{length-append, inl, inr, ◌⊎◌, false≢true, eqb-true, none-some, same_Some}
use Rattle.rdm_log.proofs.Common.{slice_get_within, length_push, ArrayVec, EachAfter, Request, LineEvent, Status}
use Rattle.rdm_log.proofs.Common.{ClientId, Opening, Entry, Accept, Send, Came, Finish, Accepted, Sending, Finished}
use Rattle.rdm_log.proofs.Common.{joins, accepts, sends, cames, finishes, is_request, result, awaited, unfinished}
use Rattle.rdm_log.proofs.Common.{next_client, next_request, NothingDue, MaySendRequest, MaySendRun, MayFinish}
use Rattle.rdm_log.proofs.Common.{IsClosing, FitsResult, MayFollow}
use Rattle.std.proofs.lemmas.Bool.{false_from_ne_true}
use Rattle.rdm_log.specs.declared.entry.Owner.TheVariants as owners
use Rattle.rdm_log.proofs.LogLemmas.Grows.{front}
use Rattle.rdm_log.proofs.LogLemmas.PushLemmas.{unfinished_accept, SameRequests, same_after, joins-append, accepts-push}
use Rattle.rdm_log.proofs.LogLemmas.PushLemmas.{sends-push, cames-push}
use Rattle.rdm_log.proofs.LogLemmas.PushLemmas.{finishes-push, awaited-push}
use Rattle.rdm_log.proofs.LogLemmas.ExchangeLemmas.{IsUnanswered, result_same, result_sent, result_unsent}
use Rattle.rdm_log.specs.declared.work.Work.TheVariants as works
use Rattle.rdm_log.proofs.LogLemmas.RefusalLemmas.{work_passes}
use Rattle.rdm_log.proofs.LogLemmas.Indices.{slice_get-append_left, slice_get-drop, slice_get-push, IsPushed, all_at}
use Rattle.rdm_log.proofs.LogLemmas.Indices.{each_index_push}

-- a fact of the empty log that each entry keeps which may follow
pub along : (o : Opening) (Q : List Entry → Type 0) → Q []
    → ((h : List Entry) (e : Entry) → EachAfter (MayFollow o) h → Q h → MayFollow o h e → Q (h ++ e ∷ []))
    → (h : List Entry) → EachAfter (MayFollow o) h → Q h
along o Q none step h all = go [] h none all
  where
    onward : (h more : List Entry) (e : Entry) → Q h → EachAfter (MayFollow o) (h ++ e ∷ more) → Q (h ++ e ∷ [])
    onward h more e before each = step h e (front o h (e ∷ more) each) before (each h more e refl)

    go : (h more : List Entry) → Q h → EachAfter (MayFollow o) (h ++ more) → Q (h ++ more)
    go h [] before each = rw append-nil before
    go h (e ∷ more) before each =
        rw (append_assoc h (e ∷ []) more) at (go (h ++ e ∷ []) more (onward h more e before each)
        (rw (append_assoc h (e ∷ []) more) each))

-- the last frame awaits its reply, and is the oldest unfinished request's, whose result is open
pub record IsAwaited (h : List Entry) : Type 0 where
  pub accepted : Accepted
  pub oldest : slice_get (unfinished h) 0 ≡ Some accepted
  pub frame : ArrayVec ℕ
  pub unanswered : IsUnanswered h (record { owner = owners.Request accepted.number; frame = frame })
  pub undecided : result accepted.number h ≡ None

-- or it is a run's, and that request's result is open too
pub record IsRunAwaited (h : List Entry) : Type 0 where
  pub run : ℕ
  pub frame : ArrayVec ℕ
  pub unanswered : IsUnanswered h (record { owner = owners.Run run; frame = frame })
  pub undecided : (a : Accepted) → slice_get (unfinished h) 0 ≡ Some a → result a.number h ≡ None

-- the counts of a log and the numbers in it
pub record LogFacts (o : Opening) (h : List Entry) : Type 0 where
  -- no more Finishes than Accepts
  pub finished_within : length (finishes h) ≤ length (accepts h)
  -- each frame has its answer, but for the last while it is awaited
  pub exchanges : length (sends h) ≡ length (cames h) + (if awaited h then 1 else 0)
  -- numbers rise by one from the opening's
  pub accept_numbers : (i : ℕ) (a : Accepted) → slice_get (accepts h) i ≡ Some a → a.number ≡ o.next_request + i
  pub finish_numbers : (i : ℕ) (f : Finished) → slice_get (finishes h) i ≡ Some f → f.number ≡ o.next_request + i
  -- a request whose frame was sent was accepted, and is finished or the oldest that isn't
  pub sent_accepted : (i : ℕ) (s : Sending) → slice_get (sends h) i ≡ Some s → (n : ℕ) → is_request n s.owner ≡ true
      → n < next_request o h
  pub sent_oldest : (i : ℕ) (s : Sending) → slice_get (sends h) i ≡ Some s → (n : ℕ) → is_request n s.owner ≡ true
      → n ≤ o.next_request + length (finishes h)
  pub waits : awaited h ≡ true → IsAwaited h ⊎ IsRunAwaited h
  -- each request is of a client that had joined
  pub clients : (i : ℕ) (a : Accepted) → slice_get (accepts h) i ≡ Some a → a.client < next_client o h

-- the i-th unfinished request: its index among the Accepts, and its number
pub unfinished_index : (h : List Entry) (i : ℕ) (a : Accepted) → slice_get (unfinished h) i ≡ Some a
    → slice_get (accepts h) (length (finishes h) + i) ≡ Some a
unfinished_index h i a at = sym (slice_get-drop (length (finishes h)) (accepts h) i) ∙ at

pub unfinished_within : (h : List Entry) (i : ℕ) (a : Accepted) → slice_get (unfinished h) i ≡ Some a
    → length (finishes h) + i < length (accepts h)
unfinished_within h i a at = slice_get_within (accepts h) (length (finishes h) + i) a (unfinished_index h i a at)

pub unfinished_number : (o : Opening) (h : List Entry) → LogFacts o h → (i : ℕ) (a : Accepted)
    → slice_get (unfinished h) i ≡ Some a → a.number ≡ o.next_request + (length (finishes h) + i)
unfinished_number o h facts i a at = facts.accept_numbers (length (finishes h) + i) a (unfinished_index h i a at)

-- while none is awaited each frame has its answer
pub sent_evenly : (o : Opening) (h : List Entry) → LogFacts o h → awaited h ≡ false
    → length (sends h) ≡ length (cames h)
sent_evenly o h facts idle = let x = rw idle at facts.exchanges in omega arith

-- while a reply is awaited the oldest request's result is open, and so nothing is finished
oldest_undecided : (h : List Entry) → IsAwaited h ⊎ IsRunAwaited h → (a : Accepted)
    → slice_get (unfinished h) 0 ≡ Some a → result a.number h ≡ None
oldest_undecided h (inl w) a at = rw (same_Some w.accepted a (sym w.oldest ∙ at)) at w.undecided
oldest_undecided h (inr w) a at = w.undecided a at

no_finish_awaited : (o : Opening) (h : List Entry) (n : ℕ) (status : Status) (len : ℕ) → LogFacts o h
    → MayFinish o h n status len → awaited h ≡ true → ⊥
no_finish_awaited o h n status len facts may waits = false≢true (sym closing.0.not_awaited ∙ waits)
  where
    undecided : result n h ≡ None
    undecided = rw may.number (oldest_undecided h (facts.waits waits) may.accepted may.oldest)

    closing : FitsResult (IsClosing o h) None status len
    closing = rw undecided at may.fits

-- the empty log
facts_of_empty : (o : Opening) → LogFacts o []
unfolding accepts finishes sends cames awaited
facts_of_empty o = record {
  finished_within = omega arith;
  exchanges = refl;
  accept_numbers = λ i a at. absurd (none-some a at);
  finish_numbers = λ i f at. absurd (none-some f at);
  sent_accepted = λ i s at n own. absurd (none-some s at);
  sent_oldest = λ i s at n own. absurd (none-some s at);
  waits = λ waits. absurd (false≢true waits);
  clients = λ i a at. absurd (none-some a at);
}

-- no entry removes a client
pub more_clients : (o : Opening) (h : List Entry) (e : Entry) → next_client o h ≤ next_client o (h ++ e ∷ [])
more_clients o h e =
    rw joins-append
    (omega (
      arith,
      length-append o.places.items (joins h),
      length-append o.places.items (joins h ++ joins (e ∷ [])),
      length-append (joins h) (joins (e ∷ [])),
    ))

-- no frame was sent of a request after the oldest unfinished one, nor of one that isn't accepted
pub later_unsent : (o : Opening) (h : List Entry) → LogFacts o h → (n : ℕ) → o.next_request + length (finishes h) < n
    → (i : ℕ) (s : Sending) → slice_get (sends h) i ≡ Some s → is_request n s.owner ≡ false
later_unsent o h facts n later i s at =
    false_from_ne_true (is_request n s.owner) (λ own. absurd (omega (arith, facts.sent_oldest i s at n own)))

pub unaccepted_unsent : (o : Opening) (h : List Entry) → LogFacts o h → (n : ℕ) → next_request o h ≤ n
    → (i : ℕ) (s : Sending) → slice_get (sends h) i ≡ Some s → is_request n s.owner ≡ false
unaccepted_unsent o h facts n later i s at =
    false_from_ne_true (is_request n s.owner) (λ own. absurd (omega (arith, facts.sent_accepted i s at n own)))

-- the same requests and exchanges, and no fewer clients: the same facts
unanswered_same : (h k : List Entry) (s : Sending) → sends k ≡ sends h → cames k ≡ cames h → IsUnanswered h s
    → IsUnanswered k s
unanswered_same h k s sent came w = record {
  earlier = w.earlier;
  last = sent ∙ w.last;
  answered = w.answered ∙ ap length (sym came);
}

awaited_same : (h k : List Entry) → SameRequests h k → IsAwaited h ⊎ IsRunAwaited h → IsAwaited k ⊎ IsRunAwaited k
awaited_same h k same (inl w) = inl (record {
  accepted = w.accepted;
  oldest = rw (same.same_accepts, same.same_finishes) w.oldest;
  frame = w.frame;
  unanswered = unanswered_same h k _ same.same_sends same.same_cames w.unanswered;
  undecided = result_same h k w.accepted.number same.same_sends same.same_cames ∙ w.undecided;
})
awaited_same h k same (inr w) = inr (record {
  run = w.run;
  frame = w.frame;
  unanswered = unanswered_same h k _ same.same_sends same.same_cames w.unanswered;
  undecided = rw (same.same_accepts, same.same_finishes)
      (λ a at. result_same h k a.number same.same_sends same.same_cames ∙ w.undecided a at);
})

facts_same : (o : Opening) (h k : List Entry) → SameRequests h k → next_client o h ≤ next_client o k → LogFacts o h
    → LogFacts o k
facts_same o h k same more facts = record {
  finished_within = rw (same.same_accepts, same.same_finishes) facts.finished_within;
  exchanges = rw (same.same_sends, same.same_cames, same.same_awaited) facts.exchanges;
  accept_numbers = rw same.same_accepts facts.accept_numbers;
  finish_numbers = rw same.same_finishes facts.finish_numbers;
  sent_accepted = rw (same.same_sends, same.same_accepts) facts.sent_accepted;
  sent_oldest = rw (same.same_sends, same.same_finishes) facts.sent_oldest;
  waits = λ waits. awaited_same h k same (facts.waits (sym same.same_awaited ∙ waits));
  clients = rw same.same_accepts (λ i a at. omega (arith, facts.clients i a at, more));
}

-- each other entry keeps the facts: an Accept, a Send, a Came, a Finish
facts_accept : (o : Opening) (h : List Entry) (c : ClientId) (n : ℕ) (request : Request) → LogFacts o h
    → MayFollow o h (Accept c n request) → LogFacts o (h ++ Accept c n request ∷ [])
facts_accept o h c n request facts may = record {
  finished_within = rw (more, finishes-push h e) (omega (arith, facts.finished_within, length_push (accepts h) a));
  exchanges = rw (sends-push h e, cames-push h e, awaited-push h e) facts.exchanges;
  accept_numbers =
      rw more (each_index_push (λ i b. b.number ≡ o.next_request + i) (accepts h) a facts.accept_numbers may.2);
  finish_numbers = rw (finishes-push h e) facts.finish_numbers;
  sent_accepted =
      rw (sends-push h e, more)
      (λ i s at m own. omega (arith, facts.sent_accepted i s at m own, length_push (accepts h) a));
  sent_oldest = rw (sends-push h e, finishes-push h e) facts.sent_oldest;
  waits = λ waits. awaited_accept (facts.waits (sym (awaited-push h e) ∙ waits));
  clients = rw more
      (each_index_push (λ i b. b.client < next_client o k) (accepts h) a
      (λ i b at. omega (arith, facts.clients i b at, more_clients o h e))
      (omega (arith, (work_passes o h c.0 (works.Submit request) may.1).known, more_clients o h e)));
}
  where
    e : Entry
    e = Accept c n request

    k : List Entry
    k = h ++ e ∷ []

    a : Accepted
    a = record { client = c.0; number = n; request = request }

    more : accepts k ≡ accepts h ++ a ∷ []
    more = accepts-push h e

    later : unfinished k ≡ unfinished h ++ a ∷ []
    later = unfinished_accept h c n request facts.finished_within

    same : (m : ℕ) → result m k ≡ result m h
    same m = result_same h k m (sends-push h e) (cames-push h e)

    unsent : result n k ≡ None
    unsent = same n ∙ result_unsent h n (unaccepted_unsent o h facts n (omega (arith, may.2)))

    awaited_accept : IsAwaited h ⊎ IsRunAwaited h → IsAwaited k ⊎ IsRunAwaited k
    awaited_accept (inl w) = inl (record {
      accepted = w.accepted;
      oldest = rw later (slice_get-append_left (unfinished h) (a ∷ []) 0 w.accepted w.oldest);
      frame = w.frame;
      unanswered = unanswered_same h k _ (sends-push h e) (cames-push h e) w.unanswered;
      undecided = same w.accepted.number ∙ w.undecided;
    })
    awaited_accept (inr w) = inr (record {
      run = w.run;
      frame = w.frame;
      unanswered = unanswered_same h k _ (sends-push h e) (cames-push h e) w.unanswered;
      undecided = rw later (λ b at. by_index b (slice_get-push (unfinished h) a 0 b at));
    })
      where
        by_index : (b : Accepted) → (slice_get (unfinished h) 0 ≡ Some b) ⊎ IsPushed (unfinished h) a 0 b
            → result b.number k ≡ None
        by_index b (inl before) = same b.number ∙ w.undecided b before
        by_index b (inr pushed) = rw pushed.is unsent

facts_send : (o : Opening) (h : List Entry) (n : ℕ) (frame : ArrayVec ℕ) → LogFacts o h → NothingDue o h
    → MaySendRequest o h n frame → LogFacts o (h ++ Send (owners.Request n) frame ∷ [])
facts_send o h n frame facts due may = record {
  finished_within = rw (accepts-push h e, finishes-push h e) facts.finished_within;
  exchanges = rw (more, cames-push h e, awaited-push h e) (omega (arith, length_push (sends h) s, even));
  accept_numbers = rw (accepts-push h e) facts.accept_numbers;
  finish_numbers = rw (finishes-push h e) facts.finish_numbers;
  sent_accepted =
      rw (more, accepts-push h e)
      (each_index_push (λ i t. (m : ℕ) → is_request m t.owner ≡ true → m < next_request o h) (sends h) s
      facts.sent_accepted
      (λ m own. omega (
        arith,
        eqb-true m n own,
        may.number,
        number,
        unfinished_within h 0 may.accepted may.lowest,
      )));
  sent_oldest =
      rw (more, finishes-push h e)
      (each_index_push (λ i t. (m : ℕ) → is_request m t.owner ≡ true → m ≤ o.next_request + length (finishes h))
      (sends h) s facts.sent_oldest (λ m own. omega (arith, eqb-true m n own, may.number, number)));
  waits = λ waits. inl (record {
    accepted = may.accepted;
    oldest = rw (accepts-push h e, finishes-push h e) may.lowest;
    frame = frame;
    unanswered = record { earlier = sends h; last = rw (← may.number) more; answered = rw (cames-push h e) even };
    undecided = result_sent h (owners.Request n) frame may.accepted.number even
        ∙ all_at (λ a. result a.number h ≡ None) (unfinished h) due.results_open 0 may.accepted may.lowest;
  });
  clients = rw (accepts-push h e) (λ i a at. omega (arith, facts.clients i a at, more_clients o h e));
}
  where
    e : Entry
    e = Send (owners.Request n) frame

    s : Sending
    s = record { owner = owners.Request n; frame = frame }

    more : sends (h ++ e ∷ []) ≡ sends h ++ s ∷ []
    more = sends-push h e

    even : length (sends h) ≡ length (cames h)
    even = sent_evenly o h facts may.not_awaited

    number : may.accepted.number ≡ o.next_request + (length (finishes h) + 0)
    number = unfinished_number o h facts 0 may.accepted may.lowest

facts_run_send : (o : Opening) (h : List Entry) (r : ℕ) (frame : ArrayVec ℕ) → LogFacts o h → NothingDue o h
    → MaySendRun o h r frame → LogFacts o (h ++ Send (owners.Run r) frame ∷ [])
facts_run_send o h r frame facts due may = record {
  finished_within = rw (accepts-push h e, finishes-push h e) facts.finished_within;
  exchanges = rw (more, cames-push h e, awaited-push h e) (omega (arith, length_push (sends h) s, even));
  accept_numbers = rw (accepts-push h e) facts.accept_numbers;
  finish_numbers = rw (finishes-push h e) facts.finish_numbers;
  sent_accepted =
      rw (more, accepts-push h e)
      (each_index_push (λ i t. (m : ℕ) → is_request m t.owner ≡ true → m < next_request o h) (sends h) s
      facts.sent_accepted (λ m own. absurd (false≢true own)));
  sent_oldest =
      rw (more, finishes-push h e)
      (each_index_push (λ i t. (m : ℕ) → is_request m t.owner ≡ true → m ≤ o.next_request + length (finishes h))
      (sends h) s facts.sent_oldest (λ m own. absurd (false≢true own)));
  waits = λ waits. inr (record {
    run = r;
    frame = frame;
    unanswered = record { earlier = sends h; last = more; answered = rw (cames-push h e) even };
    undecided = rw (accepts-push h e, finishes-push h e)
        (λ a at. result_sent h (owners.Run r) frame a.number even
        ∙ all_at (λ b. result b.number h ≡ None) (unfinished h) due.results_open 0 a at);
  });
  clients = rw (accepts-push h e) (λ i a at. omega (arith, facts.clients i a at, more_clients o h e));
}
  where
    e : Entry
    e = Send (owners.Run r) frame

    s : Sending
    s = record { owner = owners.Run r; frame = frame }

    more : sends (h ++ e ∷ []) ≡ sends h ++ s ∷ []
    more = sends-push h e

    even : length (sends h) ≡ length (cames h)
    even = sent_evenly o h facts may.not_awaited

facts_came : (o : Opening) (h : List Entry) (event : LineEvent) → LogFacts o h → awaited h ≡ true
    → LogFacts o (h ++ Came event ∷ [])
facts_came o h event facts waits = record {
  finished_within = rw (accepts-push h e, finishes-push h e) facts.finished_within;
  exchanges = rw (sends-push h e, cames-push h e, awaited-push h e)
      (let x = rw waits at facts.exchanges in omega (arith, length_push (cames h) event));
  accept_numbers = rw (accepts-push h e) facts.accept_numbers;
  finish_numbers = rw (finishes-push h e) facts.finish_numbers;
  sent_accepted = rw (sends-push h e, accepts-push h e) facts.sent_accepted;
  sent_oldest = rw (sends-push h e, finishes-push h e) facts.sent_oldest;
  waits = λ still. absurd (false≢true (sym (awaited-push h e) ∙ still));
  clients = rw (accepts-push h e) (λ i a at. omega (arith, facts.clients i a at, more_clients o h e));
}
  where
    e : Entry
    e = Came event

facts_finish : (o : Opening) (h : List Entry) (n : ℕ) (status : Status) (len : ℕ) → LogFacts o h
    → MayFinish o h n status len → LogFacts o (h ++ Finish n status len ∷ [])
facts_finish o h n status len facts may = record {
  finished_within =
      rw (accepts-push h e, more)
      (omega (arith, length_push (finishes h) f, unfinished_within h 0 may.accepted may.oldest));
  exchanges = rw (sends-push h e, cames-push h e, awaited-push h e) facts.exchanges;
  accept_numbers = rw (accepts-push h e) facts.accept_numbers;
  finish_numbers =
      rw more (each_index_push (λ i g. g.number ≡ o.next_request + i) (finishes h) f facts.finish_numbers
      (omega (arith, may.number, unfinished_number o h facts 0 may.accepted may.oldest)));
  sent_accepted = rw (sends-push h e, accepts-push h e) facts.sent_accepted;
  sent_oldest =
      rw (sends-push h e, more)
      (λ i s at m own. omega (arith, facts.sent_oldest i s at m own, length_push (finishes h) f));
  waits = λ waits. absurd (no_finish_awaited o h n status len facts may (sym (awaited-push h e) ∙ waits));
  clients = rw (accepts-push h e) (λ i a at. omega (arith, facts.clients i a at, more_clients o h e));
}
  where
    e : Entry
    e = Finish n status len

    f : Finished
    f = record { number = n; status = status; len = len }

    more : finishes (h ++ e ∷ []) ≡ finishes h ++ f ∷ []
    more = finishes-push h e

facts_step : (o : Opening) (h : List Entry) (e : Entry) → EachAfter (MayFollow o) h → LogFacts o h → MayFollow o h e
    → LogFacts o (h ++ e ∷ [])
facts_step o h (Accept c n request) each facts may = facts_accept o h c n request facts may
facts_step o h (Send (owners.Request n) frame) each facts may = facts_send o h n frame facts may.0 may.1
facts_step o h (Send (owners.Run r) frame) each facts may = facts_run_send o h r frame facts may.0 may.1
facts_step o h (Came event) each facts may = facts_came o h event facts may.1
facts_step o h (Finish n status len) each facts may = facts_finish o h n status len facts may
facts_step o h e each facts may =
    facts_same o h (h ++ e ∷ []) (same_after h e refl refl refl refl refl) (more_clients o h e) facts

-- the facts of each such log
pub legal_facts : (o : Opening) (h : List Entry) → EachAfter (MayFollow o) h → LogFacts o h
legal_facts o h each = along o (λ k. LogFacts o k) (facts_of_empty o) (facts_step o) h each
