-- An idle queue stands after the opening that its log leaves, and no entries.
use Rattle.rdm_queue.proofs.Common.{empty_in_bound, ◌≡◌, ℕ, zero, suc, ◌≤◌, Bool, true, false, List, [], ◌∷◌, length}
use Rattle.rdm_queue.proofs.Common.{get_or, Option, Some, None, slice_get, refl, sym, ap, ◌∙◌, append-nil, inl, inr}
use Rattle.rdm_queue.proofs.Common.{arith, if◌then◌else◌, ◌⊎◌, ◌&&◌, ◌==◌, cases_Bool, eq-eqb, eqb-true, false≢true}
use Rattle.rdm_queue.proofs.Common.{none-some, length-drop, Opening, Entry, Awaited, Sending, joins, accepts, asks}
use Rattle.rdm_queue.proofs.Common.{sends, cames, finishes, answers, collectors, traded, of_request, verdicts}
use Rattle.rdm_queue.proofs.Common.{is_request, awaited, is_paused, is_closed, is_idle, unfinished, unanswered}
use Rattle.rdm_queue.proofs.Common.{answers_to, last_run, open_run, OutcomeValue, QueueState, RunState, IsPending}
use Rattle.rdm_queue.proofs.Common.{RunIs, Describes, StandsAfter, oldest_number, SessionInvariant, empty, LogFacts}
use Rattle.rdm_queue.proofs.Common.{legal_facts, IsAwaited, IsRunAwaited, run_facts, verdicts_unsent, asked_fewer}
use Rattle.rdm_log.specs.declared.entry.Owner.TheVariants as owners
use Rattle.rdm_queue.specs.declared.pending.Awaited.TheVariants as awaiting
use Rattle.rdm_log.specs.log.History.{uncollected_count}
use Rattle.rdm_log.specs.log.Runs.{number_after}
use Rattle.rdm_log.specs.log.LogState.{opening_after}
use Rattle.rdm_queue.proofs.Common.{map, uncollected as uncollected_in}
use Rattle.rdm_log.specs.log.Broken.{may_be_incomplete}
unfoldable use Rattle.rdm_log.specs.log.Broken.{after_entries}
use Rattle.rdm_queue.proofs.BodyLemmas.AfterLemmas.{none_owed_after}
use Rattle.rdm_queue.specs.body.State.{opening_of, uncollected}
use Rattle.rdm_queue.proofs.BodyLemmas.OutstandingLemmas.{in_all, in_all-cons}
use Rattle.rdm_queue.proofs.BodyLemmas.DescribesWork.{none_sent}
use Rattle.rdm_queue.proofs.BodyLemmas.RunningLemmas.{none_before}

-- nothing is left
pub record IsAtRest (h : List Entry) : Type 0 where
  pub finished : unfinished h ≡ []
  pub answered : unanswered h ≡ []
  pub collected : uncollected_count h ≡ 0

no_items : {X : Type 0} (xs : List X) → length xs ≡ 0 → xs ≡ []
no_items [] none = refl
no_items (x ∷ xs) none = absurd (omega arith)

pub at_rest : (h : List Entry) → is_idle h ≡ true → IsAtRest h
at_rest h idle =
    by_parts (length (unfinished h) == 0) (length (unanswered h) == 0) (uncollected_count h == 0) refl refl refl idle
  where
    by_parts : (a b c : Bool) → (length (unfinished h) == 0) ≡ a → (length (unanswered h) == 0) ≡ b
        → (uncollected_count h == 0) ≡ c → (a && b && c) ≡ true → IsAtRest h
    by_parts true true true p q r all = record {
      finished = no_items (unfinished h) (eqb-true _ _ p);
      answered = no_items (unanswered h) (eqb-true _ _ q);
      collected = eqb-true _ _ r;
    }
    by_parts true true false p q r all = absurd (false≢true all)
    by_parts true false c p q r all = absurd (false≢true all)
    by_parts false b c p q r all = absurd (false≢true all)

-- no run has begun that has an answer left to give
pub no_run : (o : Opening) (h : List Entry) (s : QueueState) → IsAtRest h → Describes o h s → s.run ≡ None
no_run o h s rest stands = by_run s.run refl stands.run_is
  where
    by_run : (run : Option RunState) → s.run ≡ run → RunIs o h s run → s.run ≡ None
    by_run None is running = is
    by_run (Some r) is running =
        absurd (let few = asked_fewer h in let long = length-drop (length (answers h)) (asks h) in
        let none = ap (λ l. length l) rest.answered in omega (arith, running.left, running.some))

-- no reply is awaited
not_awaited : (o : Opening) (h : List Entry) (s : QueueState) → IsAtRest h → StandsAfter o h s → awaited h ≡ true → ⊥
not_awaited o h s rest after waits = by_owner ((legal_facts o h after.legal.each).waits waits)
  where
    none_open : open_run h ≡ None
    none_open = (rw (no_run o h s rest after.stands) at after.stands.run_is).none_open

    by_owner : IsAwaited h ⊎ IsRunAwaited h → ⊥
    by_owner (inl w) = none-some w.accepted (ap (λ l. slice_get l 0) (sym rest.finished) ∙ w.oldest)
    by_owner (inr w) =
        none-some w.run
        (sym none_open
        ∙ (run_facts o h after.legal.each).waits waits (record { owner = owners.Run w.run; frame = w.frame })
        w.unanswered w.run (eq-eqb w.run w.run refl))

pub none_awaited : (o : Opening) (h : List Entry) (s : QueueState) → IsAtRest h → StandsAfter o h s → s.awaited ≡ None
none_awaited o h s rest after = by_awaited s.awaited refl after.stands.awaited_is
  where
    by_awaited : (w : Option Awaited) → s.awaited ≡ w → IsPending o h s w → s.awaited ≡ None
    by_awaited None is pending = is
    by_awaited (Some (awaiting.Request sent)) is pending = absurd (not_awaited o h s rest after pending.last.waits)
    by_awaited (Some (awaiting.Run tn)) is pending = absurd (not_awaited o h s rest after pending.last.waits)

-- no frame of the next request was sent
unsent : (o : Opening) (h : List Entry) → LogFacts o h → IsAtRest h → (i : ℕ) (x : Sending)
    → slice_get (sends h) i ≡ Some x → is_request (oldest_number o h) x.owner ≡ false
unsent o h facts rest i x at = by_test (cases_Bool (is_request (oldest_number o h) x.owner))
  where
    by_test : (is_request (oldest_number o h) x.owner ≡ true) ⊎ (is_request (oldest_number o h) x.owner ≡ false)
        → is_request (oldest_number o h) x.owner ≡ false
    by_test (inr other) = other
    by_test (inl own) =
        absurd (let below = facts.sent_accepted i x at (oldest_number o h) own in
        let long = length-drop (length (finishes h)) (accepts h) in let none = ap (λ l. length l) rest.finished in
        omega arith)

-- no client is owed an outcome
none_in : (lists : List (List OutcomeValue)) (c : ℕ) → in_all lists ≡ 0 → get_or lists c [] ≡ []
none_in [] c none = refl
none_in (ds ∷ lists) zero none = no_items ds (omega (arith, in_all-cons ds lists))
none_in (ds ∷ lists) (suc c) none = none_in lists c (omega (arith, in_all-cons ds lists))

none_owed : (o : Opening) (h : List Entry) (s : QueueState) → IsAtRest h → Describes o h s → uncollected s ≡ 0
none_owed o h s rest stands = let all = stands.all_outcomes in let none = rest.collected in omega arith

-- runs are numbered from 1
from_one : (first : ℕ) (last : Option ℕ) → 1 ≤ first → 1 ≤ number_after first last
from_one first None some = some
from_one first (Some r) some = omega arith

pub rotated : (o : Opening) (h : List Entry) (s : QueueState) → is_idle h ≡ true → StandsAfter o h s
    → StandsAfter (opening_after o h) [] s
unfolding joins accepts asks sends cames finishes answers collectors traded of_request verdicts awaited is_paused
    is_closed answers_to last_run after_entries
rotated o h s idle after = record {
  legal = empty (opening_after o h);
  goes_on = rw none tt;
  stands = record {
    source_is = stands.source_is;
    greatest_is = stands.greatest_is;
    budget_is = stands.budget_is;
    search_is = stands.search_is;
    places_are = rw append-nil stands.places_are;
    paused_is = stands.paused_is;
    closed_is = stands.closed_is;
    next_request_is = omega (arith, stands.next_request_is);
    next_tn_is = omega (arith, stands.next_tn_is);
    waiting_are = stands.waiting_are ∙ rest.finished;
    awaited_is = rw (none_awaited o h s rest after) refl;
    under_way_is = stands.under_way_is ∙ none_sent (oldest_number o h) (sends h) (unsent o h facts rest);
    standing = rw (verdicts_unsent h (oldest_number o h) (unsent o h facts rest)) at stands.standing;
    next_ask_is = omega (arith, stands.next_ask_is);
    next_run_is = stands.next_run_is;
    asked_are = stands.asked_are ∙ rest.answered;
    run_is = rw none (record {
      none_open = refl;
      none_left = omega arith;
      left = none_before o h s (run_facts o h after.legal.each) stands;
    });
    devices_are = stands.devices_are;
    devices_run_is = stands.devices_run_is;
    owed_for_each = rw append-nil stands.owed_for_each;
    outcomes_are = λ c. none_in s.owed c (none_owed o h s rest stands);
    broken_is = stands.broken_is;
    flags_for_each = rw append-nil stands.flags_for_each;
    flags_are = λ c. stands.flags_are c ∙ ap (map (may_be_incomplete o h)) (none_uncollected c);
    all_outcomes = rw (none_owed o h s rest stands) refl;
    first_run = from_one o.next_run (last_run h) stands.first_run;
  };
}
  where
    stands : Describes o h s
    stands = after.stands

    rest : IsAtRest h
    rest = at_rest h idle

    facts : LogFacts o h
    facts = legal_facts o h after.legal.each

    none : s.run ≡ None
    none = no_run o h s rest stands

    none_uncollected : (c : ℕ) → uncollected_in o c h ≡ []
    none_uncollected c =
        none_owed_after o h s c (sym (ap (λ l. slice_get l 0) (none_in s.owed c (none_owed o h s rest stands)))) after

-- and the session's entries still fit
pub session_rotated : (o : Opening) (h : List Entry) (s : QueueState) (room gone : ℕ) (keeps : Bool) → 1 ≤ room
    → is_idle h ≡ true → StandsAfter o h s → SessionInvariant s (record {
      opening = opening_after o h;
      entries = [];
      room = room;
      gone = gone;
      keeps = keeps;
    })
unfolding accepts asks finishes answers collectors awaited is_closed
session_rotated o h s room gone keeps some idle after = record {
  after = rotated o h s idle after;
  in_bound = empty_in_bound (record {
    opening = opening_after o h;
    entries = [];
    room = room;
    gone = gone;
    keeps = keeps;
  }) refl;
  room = let close = at_most_one (is_closed o h) in omega arith;
}
  where
    at_most_one : (closed : Bool) → (if closed then 0 else 1) ≤ 1
    at_most_one true = omega arith
    at_most_one false = omega arith

-- the opening that goes on from where a queue stands
pub opening_is : (o : Opening) (h : List Entry) (s : QueueState) → Describes o h s → opening_of s ≡ opening_after o h
opening_is o h s stands =
    rw (
      stands.source_is,
      stands.greatest_is,
      stands.budget_is,
      stands.search_is,
      stands.places_are,
      stands.paused_is,
      stands.closed_is,
      stands.devices_are,
      stands.devices_run_is,
      stands.broken_is,
      stands.next_request_is,
      stands.next_ask_is,
      stands.next_run_is,
      stands.next_tn_is,
    ) refl
