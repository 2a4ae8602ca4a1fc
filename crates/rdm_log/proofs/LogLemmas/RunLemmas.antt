-- What a log says of its runs, as it grows.
use Rattle.rdm_log.proofs.Common.{◌≡◌, ℕ, ◌≤◌, arith, Bool, true, false, cond, List, [], ◌∷◌, ◌++◌, length, filter}
use Rattle.rdm_log.proofs.Common.{filter_map, map, Option, Some, None, fold, ◌+◌, take, not, one-add, refl, sym, ap}
use Rattle.rdm_log.proofs.Common.{◌∙◌, append-nil, inl, inr, ◌⊎◌, ◌||◌, list_any, before_first, position_or_len}
use Rattle.rdm_log.proofs.Common.{cases_Bool, false≢true, eq-eqb, or_parts, map-append, list_any-append, fold_push}
use Rattle.rdm_log.proofs.Common.{filter-append, none-some, same_Some, ArrayVec, Seen, LineEvent, Owner, Opening, Entry}
use Rattle.rdm_log.proofs.Common.{Send, Came, Sending, OwnedExchange, traded_of, sending_of, came_of, answered_of, asks}
use Rattle.rdm_log.proofs.Common.{answers, sends, cames, traded, is_run, sends_run, has_begun, entries_before_run}
use Rattle.rdm_log.proofs.Common.{run_of_owner, last_run, unless_answered, open_run, asked_before, served, or_right}
use Rattle.rdm_log.proofs.Common.{run_exchanges, run_frames, last_run_without_fault, devices_of, known_devices}
use Rattle.std.specs.Prelude.{zip}
use Rattle.rdm_log.specs.declared.entry.Owner.TheVariants as owners
use Rattle.rdm_log.specs.log.Runs.{seen_of}
use Rattle.rdm_log.proofs.LogLemmas.PushLemmas.{sends-push, cames-push, answers-push}
use Rattle.rdm_log.proofs.LogLemmas.ExchangeLemmas.{IsUnanswered, traded_sent, traded_came}
use Rattle.std.proofs.Math.Bool.{or-false}

-- which run began last
pub last_run_same : (h k : List Entry) → sends k ≡ sends h → last_run k ≡ last_run h
unfolding last_run
last_run_same h k same = rw same refl

pub last_run_sent : (h : List Entry) (owner : Owner) (frame : ArrayVec ℕ)
    → last_run (h ++ Send owner frame ∷ []) ≡ run_of_owner (last_run h) owner
unfolding last_run
last_run_sent h owner frame =
    rw (sends-push h (Send owner frame))
    (fold_push (λ before (s : Sending). run_of_owner before s.owner) None (sends h) (record {
      owner = owner;
      frame = frame;
    }))

-- that a run has begun
pub has_begun_more : (r : ℕ) (h : List Entry) (e : Entry)
    → has_begun r (h ++ e ∷ []) ≡ (has_begun r h || (sends_run r e || false))
unfolding has_begun
has_begun_more r h e = list_any-append (sends_run r) h (e ∷ [])

pub begun_stays : (r : ℕ) (h k : List Entry) → has_begun r h ≡ true → has_begun r (h ++ k) ≡ true
unfolding has_begun
begun_stays r h k begun = list_any-append (sends_run r) h k ∙ rw begun refl

pub begun_same : (r : ℕ) (h : List Entry) (e : Entry) → sends_run r e ≡ false
    → has_begun r (h ++ e ∷ []) ≡ has_begun r h
begun_same r h e other = has_begun_more r h e ∙ rw other (or-false (has_begun r h))

-- the entries before it began
pub before_first-cons : {X : Type 0} (p : X → Bool) (x : X) (xs : List X)
    → before_first p (x ∷ xs) ≡ cond (p x) [] (x ∷ before_first p xs)
before_first-cons {X} p x xs = by_test (p x) (position_or_len p xs)
  where
    by_test : (b : Bool) (n : ℕ) → take (cond (not b) (1 + n) 0) (x ∷ xs) ≡ cond b [] (x ∷ take n xs)
    by_test true n = refl
    by_test false n = rw one-add refl

before_first-stays : {X : Type 0} (p : X → Bool) (xs ys : List X) → list_any p xs ≡ true
    → before_first p (xs ++ ys) ≡ before_first p xs
before_first-stays p [] ys some = absurd (false≢true some)
before_first-stays {X} p (x ∷ xs) ys some =
    before_first-cons p x (xs ++ ys) ∙ by_test (cases_Bool (p x)) (before_first-stays p xs ys)
    ∙ sym (before_first-cons p x xs)
  where
    by_test : (p x ≡ true) ⊎ (p x ≡ false) → (list_any p xs ≡ true → before_first p (xs ++ ys) ≡ before_first p xs)
        → cond (p x) [] (x ∷ before_first p (xs ++ ys)) ≡ cond (p x) [] (x ∷ before_first p xs)
    by_test (inl passes) later = rw passes refl
    by_test (inr fails) later = rw fails (ap (λ l. x ∷ l) (later (rw fails at some)))

pub entries_before_run_stays : (r : ℕ) (h k : List Entry) → has_begun r h ≡ true
    → entries_before_run r (h ++ k) ≡ entries_before_run r h
unfolding has_begun entries_before_run
entries_before_run_stays r h k begun = before_first-stays (sends_run r) h k begun

pub sent_begins : (r : ℕ) (h : List Entry)
    → list_any (λ (s : Sending). is_run r s.owner) (filter_map sending_of h) ≡ list_any (sends_run r) h
sent_begins r [] = refl
sent_begins r (Send owner frame ∷ h) = ap (λ b. is_run r owner || b) (sent_begins r h)
sent_begins r (e ∷ h) = sent_begins r h

from_sends : (r : ℕ) (first : Option ℕ) (ss : List Sending)
    → fold (λ before (s : Sending). run_of_owner before s.owner) first ss ≡ Some r → (first ≡ Some r)
    ⊎ (list_any (λ (s : Sending). is_run r s.owner) ss ≡ true)
from_sends r first [] e = inl e
from_sends r first (s ∷ ss) e = by_owner s.owner (from_sends r (run_of_owner first s.owner) ss e)
  where
    by_owner : (owner : Owner) → (run_of_owner first owner ≡ Some r)
        ⊎ (list_any (λ (t : Sending). is_run r t.owner) ss ≡ true) → (first ≡ Some r)
        ⊎ ((is_run r owner || list_any (λ (t : Sending). is_run r t.owner) ss) ≡ true)
    by_owner owner (inr later) = inr (or_right (is_run r owner) _ later)
    by_owner (owners.Request n) (inl here) = inl here
    by_owner (owners.Run q) (inl here) = inr (rw (eq-eqb r q (sym (same_Some q r here))) refl)

pub last_begun : (r : ℕ) (h : List Entry) → last_run h ≡ Some r → has_begun r h ≡ true
unfolding last_run has_begun sends
last_begun r h last = by_sends (from_sends r None (filter_map sending_of h) last)
  where
    by_sends : (None ≡ Some r) ⊎ (list_any (λ (s : Sending). is_run r s.owner) (filter_map sending_of h) ≡ true)
        → list_any (sends_run r) h ≡ true
    by_sends (inl none) = absurd (none-some r none)
    by_sends (inr some) = sym (sent_begins r h) ∙ some

-- what it serves
pub served_stays : (r : ℕ) (h k : List Entry) → has_begun r h ≡ true → served r (h ++ k) ≡ served r h
served_stays r h k begun = rw (begun_stays r h k begun, entries_before_run_stays r h k begun, begun) refl

pub served_same : (r : ℕ) (h : List Entry) (e : Entry) → sends_run r e ≡ false → served r (h ++ e ∷ []) ≡ served r h
served_same r h e other = by_begun (cases_Bool (has_begun r h))
  where
    by_begun : (has_begun r h ≡ true) ⊎ (has_begun r h ≡ false) → served r (h ++ e ∷ []) ≡ served r h
    by_begun (inl begun) = served_stays r h (e ∷ []) begun
    by_begun (inr not) = rw (begun_same r h e other, not) refl

-- which run is open
pub open_run_same : (h k : List Entry) → sends k ≡ sends h → answers k ≡ answers h → open_run k ≡ open_run h
open_run_same h k sent answered = rw (last_run_same h k sent) (by_last (last_run h))
  where
    by_last : (last : Option ℕ) → unless_answered last k ≡ unless_answered last h
    by_last None = refl
    by_last (Some r) = rw answered refl

-- how many discoveries were asked for before the last run began, and which no run serves
pub asked_before_same : (h : List Entry) (e : Entry) → sending_of e ≡ None
    → asked_before (last_run (h ++ e ∷ [])) (h ++ e ∷ []) ≡ asked_before (last_run h) h
asked_before_same h e other =
    rw (last_run_same h (h ++ e ∷ []) (rw other at (sends-push h e))) (by_last (last_run h) refl)
  where
    by_last : (last : Option ℕ) → last_run h ≡ last → asked_before last (h ++ e ∷ []) ≡ asked_before last h
    by_last None is = refl
    by_last (Some r) is =
        ap (λ (l : List Entry). length (asks l)) (entries_before_run_stays r h (e ∷ []) (last_begun r h is))

-- a run's exchanges
pub run_exchanges_same : (h k : List Entry) (r : ℕ) → sends k ≡ sends h → cames k ≡ cames h
    → run_exchanges r k ≡ run_exchanges r h
unfolding traded run_exchanges
run_exchanges_same h k r s c = rw (s, c) refl

pub run_exchanges_sent : (h : List Entry) (owner : Owner) (frame : ArrayVec ℕ) (r : ℕ)
    → length (sends h) ≡ length (cames h) → run_exchanges r (h ++ Send owner frame ∷ []) ≡ run_exchanges r h
unfolding run_exchanges
run_exchanges_sent h owner frame r even = rw (traded_sent h owner frame even) refl

pub run_exchanges_came_own : (h : List Entry) (s : Sending) (event : LineEvent) (r : ℕ) → IsUnanswered h s
    → is_run r s.owner ≡ true
    → run_exchanges r (h ++ Came event ∷ []) ≡ run_exchanges r h
    ++ seen_of (record { owner = s.owner; frame = s.frame; event = event }) ∷ []
unfolding run_exchanges
run_exchanges_came_own h s event r waits own =
    rw (
      traded_came h s event waits,
      filter-append (λ t. is_run r t.owner) (traded h)
          (record { owner = s.owner; frame = s.frame; event = event } ∷ []),
      own,
    )
    (map-append seen_of (filter (λ t. is_run r t.owner) (traded h))
    (record { owner = s.owner; frame = s.frame; event = event } ∷ []))

pub run_exchanges_came_other : (h : List Entry) (s : Sending) (event : LineEvent) (r : ℕ) → IsUnanswered h s
    → is_run r s.owner ≡ false → run_exchanges r (h ++ Came event ∷ []) ≡ run_exchanges r h
unfolding run_exchanges
run_exchanges_came_other h s event r waits other =
    rw (
      traded_came h s event waits,
      filter-append (λ t. is_run r t.owner) (traded h)
          (record { owner = s.owner; frame = s.frame; event = event } ∷ []),
      other,
      append-nil,
    ) refl

-- a run has no more exchanges than frames, and none before it begins
length_exchanges_of : (r : ℕ) (ss : List Sending) (es : List LineEvent)
    → length (map seen_of (filter (λ (t : OwnedExchange). is_run r t.owner) (map traded_of (zip ss es))))
    ≤ length (filter (λ (s : Sending). is_run r s.owner) ss)
length_exchanges_of r [] es = omega arith
length_exchanges_of r (s ∷ ss) [] = omega arith
length_exchanges_of r (s ∷ ss) (e ∷ es) = by_test (is_run r s.owner) (length_exchanges_of r ss es)
  where
    frames : List Sending
    frames = filter (λ (t : Sending). is_run r t.owner) ss

    exchanges : List OwnedExchange
    exchanges = filter (λ (t : OwnedExchange). is_run r t.owner) (map traded_of (zip ss es))

    by_test : (b : Bool) → length (map seen_of exchanges) ≤ length frames
        → length (map seen_of (cond b (traded_of (s, e) ∷ exchanges) exchanges)) ≤ length (cond b (s ∷ frames) frames)
    by_test true fewer = omega arith
    by_test false fewer = fewer

pub length_exchanges : (r : ℕ) (h : List Entry) → length (run_exchanges r h) ≤ run_frames r h
unfolding run_exchanges traded
length_exchanges r h = length_exchanges_of r (sends h) (cames h)

none_sent : (r : ℕ) (ss : List Sending) → list_any (λ (s : Sending). is_run r s.owner) ss ≡ false
    → filter (λ (s : Sending). is_run r s.owner) ss ≡ []
none_sent r [] none = refl
none_sent r (s ∷ ss) none = let parts = or_parts (is_run r s.owner) _ none in rw parts.0 (none_sent r ss parts.1)

pub no_frames : (r : ℕ) (h : List Entry) → has_begun r h ≡ false → run_frames r h ≡ 0
unfolding has_begun sends
no_frames r h none = ap length (none_sent r (filter_map sending_of h) (sent_begins r h ∙ none))

pub no_exchanges : (r : ℕ) (h : List Entry) → has_begun r h ≡ false → run_exchanges r h ≡ []
no_exchanges r h none = empty_of (run_exchanges r h) (omega (arith, length_exchanges r h, no_frames r h none))
  where
    empty_of : (x : List Seen) → length x ≡ 0 → x ≡ []
    empty_of [] n = refl
    empty_of (e ∷ x) n = absurd (omega arith)

-- the same runs
pub record SameRuns (h k : List Entry) : Type 0 where
  pub same_answers : answers k ≡ answers h
  pub same_served : (r : ℕ) → served r k ≡ served r h
  pub same_open : open_run k ≡ open_run h
  pub same_exchanges : (r : ℕ) → run_exchanges r k ≡ run_exchanges r h
  pub same_before : (r : ℕ) → has_begun r h ≡ true → entries_before_run r k ≡ entries_before_run r h

-- an entry that is neither Send nor Came nor Answer leaves them
pub not_sent : (r : ℕ) (e : Entry) → sending_of e ≡ None → sends_run r e ≡ false
not_sent r (Send owner frame) none = cc
not_sent r _ none = refl

pub same_runs : (h : List Entry) (e : Entry) → sending_of e ≡ None → came_of e ≡ None → answered_of e ≡ None
    → SameRuns h (h ++ e ∷ [])
same_runs h e send came answer = record {
  same_answers = rw answer at (answers-push h e);
  same_served = λ r. served_same r h e (not_sent r e send);
  same_open = open_run_same h (h ++ e ∷ []) (rw send at (sends-push h e)) (rw answer at (answers-push h e));
  same_exchanges =
      λ r. run_exchanges_same h (h ++ e ∷ []) r (rw send at (sends-push h e)) (rw came at (cames-push h e));
  same_before = λ r begun. entries_before_run_stays r h (e ∷ []) begun;
}

-- and so does a request's frame
pub same_runs_sent : (h : List Entry) (n : ℕ) (frame : ArrayVec ℕ) → length (sends h) ≡ length (cames h)
    → SameRuns h (h ++ Send (owners.Request n) frame ∷ [])
same_runs_sent h n frame even = record {
  same_answers = answers-push h e;
  same_served = λ r. served_same r h e refl;
  same_open = rw (last_run_sent h (owners.Request n) frame) (by_last (last_run h));
  same_exchanges = λ r. run_exchanges_sent h (owners.Request n) frame r even;
  same_before = λ r begun. entries_before_run_stays r h (e ∷ []) begun;
}
  where
    e : Entry
    e = Send (owners.Request n) frame

    by_last : (last : Option ℕ) → unless_answered last (h ++ e ∷ []) ≡ unless_answered last h
    by_last None = refl
    by_last (Some r) = rw (answers-push h e) refl

-- the devices known depend on the Answers and on their runs' exchanges alone
pub known_same : (o : Opening) (h k : List Entry) → answers k ≡ answers h
    → ((r : ℕ) → run_exchanges r k ≡ run_exchanges r h) → known_devices o k ≡ known_devices o h
known_same o h k answered same = rw answered (by_last (last_run_without_fault h))
  where
    by_last : (last : Option ℕ) → devices_of o.devices last k ≡ devices_of o.devices last h
    by_last None = refl
    by_last (Some r) = rw (same r) refl
