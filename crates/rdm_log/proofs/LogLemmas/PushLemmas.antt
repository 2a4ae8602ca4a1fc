-- How what a log says grows with its last entries.
use Rattle.rdm_log.proofs.Common.{◌≡◌, ℕ, false, List, [], ◌∷◌, ◌++◌, Option, Some, None, ◌∙◌, ◌≤◌, length, drop}
use Rattle.rdm_log.proofs.Common.{refl, sym, filter_map, append-nil, cons_option}
use Rattle.rdm_log.proofs.Common.{filter_map-append, length_push, drop-append-le, fold_push, Request, Status, LineEvent}
use Rattle.rdm_log.proofs.Common.{ClientId, Opening, Entry, Accept, Finish, Accepted, AskedDiscovery, Sending, Finished}
use Rattle.rdm_log.proofs.Common.{Answered, accepted_of, asked_of, sending_of, came_of, finished_of, answered_of}
use Rattle.rdm_log.proofs.Common.{collector_of, joins, accepts, asks, sends, cames, finishes, answers, collectors}
use Rattle.rdm_log.proofs.Common.{unfinished, unanswered, awaits_after, closed_after, awaited, is_paused, is_closed}
use Rattle.std.proofs.lemmas.List.{drop-drop}
use Rattle.rdm_log.specs.log.Entries.{join_of}
use Rattle.rdm_log.specs.log.History.{paused_after}

-- for two parts: what the first says, and then what the second says
pub joins-append : (h k : List Entry) → joins (h ++ k) ≡ joins h ++ joins k
unfolding joins
joins-append h k = filter_map-append join_of h k

pub accepts-append : (h k : List Entry) → accepts (h ++ k) ≡ accepts h ++ accepts k
unfolding accepts
accepts-append h k = filter_map-append accepted_of h k

pub sends-append : (h k : List Entry) → sends (h ++ k) ≡ sends h ++ sends k
unfolding sends
sends-append h k = filter_map-append sending_of h k

pub asks-append : (h k : List Entry) → asks (h ++ k) ≡ asks h ++ asks k
unfolding asks
asks-append h k = filter_map-append asked_of h k

pub answered-append : (h k : List Entry) → answers (h ++ k) ≡ answers h ++ answers k
unfolding answers
answered-append h k = filter_map-append answered_of h k

pub finishes-append : (h k : List Entry) → finishes (h ++ k) ≡ finishes h ++ finishes k
unfolding finishes
finishes-append h k = filter_map-append finished_of h k

-- the flags go by the last entry
pub awaited-push : (h : List Entry) (e : Entry) → awaited (h ++ e ∷ []) ≡ awaits_after (awaited h) e
unfolding awaited
awaited-push h e = fold_push awaits_after false h e

pub is_paused-push : (o : Opening) (h : List Entry) (e : Entry)
    → is_paused o (h ++ e ∷ []) ≡ paused_after (is_paused o h) e
unfolding is_paused
is_paused-push o h e = fold_push paused_after o.paused h e

pub is_closed-push : (o : Opening) (h : List Entry) (e : Entry)
    → is_closed o (h ++ e ∷ []) ≡ closed_after (is_closed o h) e
unfolding is_closed
is_closed-push o h e = fold_push closed_after o.closed h e

-- as rules for `simp` and `search`: one more, if there is one
abbrev pub more : {X : Type 0} → List X → Option X → List X
more xs None = xs
more xs (Some x) = xs ++ x ∷ []

filter_map-push : {X Y : Type 0} (f : X → Option Y) (xs : List X) (x : X)
    → filter_map f (xs ++ x ∷ []) ≡ more (filter_map f xs) (f x)
filter_map-push {X} {Y} f xs x = filter_map-append f xs (x ∷ []) ∙ by_option (f x)
  where
    by_option : (y : Option Y) → filter_map f xs ++ cons_option y [] ≡ more (filter_map f xs) y
    by_option None = append-nil (filter_map f xs)
    by_option (Some y) = refl

pub joins-push : (h : List Entry) (e : Entry) → joins (h ++ e ∷ []) ≡ more (joins h) (join_of e)
unfolding joins
joins-push h e = filter_map-push join_of h e

pub accepts-push : (h : List Entry) (e : Entry) → accepts (h ++ e ∷ []) ≡ more (accepts h) (accepted_of e)
unfolding accepts
accepts-push h e = filter_map-push accepted_of h e

pub asks-push : (h : List Entry) (e : Entry) → asks (h ++ e ∷ []) ≡ more (asks h) (asked_of e)
unfolding asks
asks-push h e = filter_map-push asked_of h e

pub sends-push : (h : List Entry) (e : Entry) → sends (h ++ e ∷ []) ≡ more (sends h) (sending_of e)
unfolding sends
sends-push h e = filter_map-push sending_of h e

pub cames-push : (h : List Entry) (e : Entry) → cames (h ++ e ∷ []) ≡ more (cames h) (came_of e)
unfolding cames
cames-push h e = filter_map-push came_of h e

pub finishes-push : (h : List Entry) (e : Entry) → finishes (h ++ e ∷ []) ≡ more (finishes h) (finished_of e)
unfolding finishes
finishes-push h e = filter_map-push finished_of h e

pub answers-push : (h : List Entry) (e : Entry) → answers (h ++ e ∷ []) ≡ more (answers h) (answered_of e)
unfolding answers
answers-push h e = filter_map-push answered_of h e

pub collectors-push : (h : List Entry) (e : Entry) → collectors (h ++ e ∷ []) ≡ more (collectors h) (collector_of e)
unfolding collectors
collectors-push h e = filter_map-push collector_of h e

pub ruleset pushes = (
  joins-push,
  accepts-push,
  asks-push,
  sends-push,
  cames-push,
  finishes-push,
  answers-push,
  collectors-push,
  awaited-push,
  is_paused-push,
  is_closed-push,
)

-- the same requests and exchanges
pub record SameRequests (h k : List Entry) : Type 0 where
  pub same_accepts : accepts k ≡ accepts h
  pub same_finishes : finishes k ≡ finishes h
  pub same_sends : sends k ≡ sends h
  pub same_cames : cames k ≡ cames h
  pub same_awaited : awaited k ≡ awaited h

-- an entry of another kind leaves them
pub same_after : (h : List Entry) (e : Entry) → accepted_of e ≡ None → finished_of e ≡ None → sending_of e ≡ None
    → came_of e ≡ None → awaits_after (awaited h) e ≡ awaited h → SameRequests h (h ++ e ∷ [])
same_after h e accept finish send came waits = record {
  same_accepts = rw accept at (accepts-push h e);
  same_finishes = rw finish at (finishes-push h e);
  same_sends = rw send at (sends-push h e);
  same_cames = rw came at (cames-push h e);
  same_awaited = awaited-push h e ∙ waits;
}

-- the unfinished requests: one more at the end, or one fewer at the start
pub unfinished_accept : (h : List Entry) (c : ClientId) (n : ℕ) (request : Request)
    → length (finishes h) ≤ length (accepts h)
    → unfinished (h ++ Accept c n request ∷ []) ≡ unfinished h
    ++ record { client = c.0; number = n; request = request } ∷ []
unfinished_accept h c n request within =
    let a : Accepted = record { client = c.0; number = n; request = request } in
    rw (accepts-push h (Accept c n request), finishes-push h (Accept c n request))
    (drop-append-le (length (finishes h)) (accepts h) (a ∷ []) within)

pub unfinished_finish : (h : List Entry) (n : ℕ) (status : Status) (len : ℕ)
    → unfinished (h ++ Finish n status len ∷ []) ≡ drop 1 (unfinished h)
unfinished_finish h n status len =
    let f : Finished = record { number = n; status = status; len = len } in
    rw (
      accepts-push h (Finish n status len),
      finishes-push h (Finish n status len),
      length_push (finishes h) f,
    ) (sym (drop-drop 1 (length (finishes h)) (accepts h)))

-- the unanswered discoveries likewise
pub unanswered_ask : (h : List Entry) (e : Entry) (a : AskedDiscovery) → asked_of e ≡ Some a → answered_of e ≡ None
    → length (answers h) ≤ length (asks h) → unanswered (h ++ e ∷ []) ≡ unanswered h ++ a ∷ []
unanswered_ask h e a is other within =
    rw (asks-push h e, is, answers-push h e, other) (drop-append-le (length (answers h)) (asks h) (a ∷ []) within)

pub unanswered_answer : (h : List Entry) (e : Entry) (b : Answered) → asked_of e ≡ None → answered_of e ≡ Some b
    → unanswered (h ++ e ∷ []) ≡ drop 1 (unanswered h)
unanswered_answer h e b other is =
    rw (asks-push h e, other, answers-push h e, is, length_push (answers h) b)
    (sym (drop-drop 1 (length (answers h)) (asks h)))
