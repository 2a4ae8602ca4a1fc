-- A request's exchanges and its result, as a log grows by a frame or by what came for it.
use Rattle.rdm_log.proofs.Common.{◌≡◌, ℕ, true, false, List, [], ◌∷◌, ◌++◌, length, map, filter, Some, None, slice_get}
use Rattle.rdm_log.proofs.Common.{zip, refl, ap, append-nil, suc, map-append, filter-append, ArrayVec, LineEvent, Owner}
use Rattle.rdm_log.proofs.Common.{Entry, Send, Came, Sending, traded_of, is_request, verdict_on, sends, cames, traded}
use Rattle.rdm_log.proofs.Common.{of_request, verdicts, result}
use Rattle.rdm_join.specs.Result.{result_of}
use Rattle.rdm_log.proofs.LogLemmas.Indices.{zip_first_more, zip_both_more}
use Rattle.rdm_log.proofs.LogLemmas.PushLemmas.{sends-push, cames-push}

-- nothing sent and nothing come: the same exchanges
pub verdicts_same : (h k : List Entry) (n : ℕ) → sends k ≡ sends h → cames k ≡ cames h → verdicts n k ≡ verdicts n h
unfolding traded of_request verdicts
verdicts_same h k n s c = rw (s, c) refl

pub result_same : (h k : List Entry) (n : ℕ) → sends k ≡ sends h → cames k ≡ cames h → result n k ≡ result n h
unfolding result
result_same h k n s c = ap result_of (verdicts_same h k n s c)

-- a frame without its answer is no exchange
pub traded_sent : (h : List Entry) (owner : Owner) (frame : ArrayVec ℕ) → length (sends h) ≡ length (cames h)
    → traded (h ++ Send owner frame ∷ []) ≡ traded h
unfolding traded
traded_sent h owner frame even =
    rw (
      sends-push h (Send owner frame),
      cames-push h (Send owner frame),
    )
    (ap (λ l. map traded_of l) (zip_first_more (sends h) (cames h) (record { owner = owner; frame = frame }) even))

pub verdicts_sent : (h : List Entry) (owner : Owner) (frame : ArrayVec ℕ) (n : ℕ) → length (sends h) ≡ length (cames h)
    → verdicts n (h ++ Send owner frame ∷ []) ≡ verdicts n h
unfolding of_request verdicts
verdicts_sent h owner frame n even = rw (traded_sent h owner frame even) refl

pub result_sent : (h : List Entry) (owner : Owner) (frame : ArrayVec ℕ) (n : ℕ) → length (sends h) ≡ length (cames h)
    → result n (h ++ Send owner frame ∷ []) ≡ result n h
unfolding result
result_sent h owner frame n even = ap result_of (verdicts_sent h owner frame n even)

-- the last frame s has no answer yet
pub record IsUnanswered (h : List Entry) (s : Sending) : Type 0 where
  pub earlier : List Sending
  pub last : sends h ≡ earlier ++ s ∷ []
  pub answered : length earlier ≡ length (cames h)

-- what came is the last frame's
pub traded_came : (h : List Entry) (s : Sending) (event : LineEvent) → IsUnanswered h s
    → traded (h ++ Came event ∷ []) ≡ traded h ++ record { owner = s.owner; frame = s.frame; event = event } ∷ []
unfolding traded
traded_came h s event waits =
    rw (
      sends-push h (Came event),
      cames-push h (Came event),
      waits.last,
      zip_both_more waits.earlier (cames h) s event waits.answered,
      zip_first_more waits.earlier (cames h) s waits.answered,
    )
    (map-append traded_of (zip waits.earlier (cames h)) ((s, event) ∷ []))

-- one verdict more for the frame's owner, and none for others
pub verdicts_came_own : (h : List Entry) (s : Sending) (event : LineEvent) (n : ℕ) → IsUnanswered h s
    → is_request n s.owner ≡ true
    → verdicts n (h ++ Came event ∷ []) ≡ verdicts n h
    ++ verdict_on (record { owner = s.owner; frame = s.frame; event = event }) ∷ []
unfolding of_request verdicts
verdicts_came_own h s event n waits own =
    rw (
      traded_came h s event waits,
      filter-append (λ t. is_request n t.owner) (traded h)
          (record { owner = s.owner; frame = s.frame; event = event } ∷ []),
      own,
    )
    (map-append verdict_on (filter (λ t. is_request n t.owner) (traded h))
    (record { owner = s.owner; frame = s.frame; event = event } ∷ []))

pub verdicts_came_other : (h : List Entry) (s : Sending) (event : LineEvent) (n : ℕ) → IsUnanswered h s
    → is_request n s.owner ≡ false → verdicts n (h ++ Came event ∷ []) ≡ verdicts n h
unfolding of_request verdicts
verdicts_came_other h s event n waits other =
    rw (
      traded_came h s event waits,
      filter-append (λ t. is_request n t.owner) (traded h)
          (record { owner = s.owner; frame = s.frame; event = event } ∷ []),
      other,
      append-nil,
    ) refl

pub result_came_other : (h : List Entry) (s : Sending) (event : LineEvent) (n : ℕ) → IsUnanswered h s
    → is_request n s.owner ≡ false → result n (h ++ Came event ∷ []) ≡ result n h
unfolding result
result_came_other h s event n waits other = ap result_of (verdicts_came_other h s event n waits other)

-- no frame of the request was sent: no verdicts, and its result is open
none_of : (n : ℕ) (ss : List Sending) (es : List LineEvent)
    → ((i : ℕ) (s : Sending) → slice_get ss i ≡ Some s → is_request n s.owner ≡ false)
    → filter (λ t. is_request n t.owner) (map traded_of (zip ss es)) ≡ []
none_of n [] es others = refl
none_of n (s ∷ ss) [] others = refl
none_of n (s ∷ ss) (e ∷ es) others = rw (others 0 s refl) (none_of n ss es (λ i t at. others (suc i) t at))

pub verdicts_unsent : (h : List Entry) (n : ℕ)
    → ((i : ℕ) (s : Sending) → slice_get (sends h) i ≡ Some s → is_request n s.owner ≡ false) → verdicts n h ≡ []
unfolding traded of_request verdicts
verdicts_unsent h n others = rw (none_of n (sends h) (cames h) others) refl

pub result_unsent : (h : List Entry) (n : ℕ)
    → ((i : ℕ) (s : Sending) → slice_get (sends h) i ≡ Some s → is_request n s.owner ≡ false) → result n h ≡ None
unfolding result
result_unsent h n others = rw (verdicts_unsent h n others) refl
