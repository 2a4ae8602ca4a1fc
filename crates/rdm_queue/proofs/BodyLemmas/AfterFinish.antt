-- A queue stands amid a block that grows by a close or a reply.
use Rattle.rdm_queue.proofs.Common.{◌≡◌, true, false, List, [], ◌∷◌, ◌++◌, Option, Some, None, refl, sym, ◌∙◌, subst}
use Rattle.rdm_queue.proofs.Common.{arith, ◌≢◌, ◌⊎◌, ℕ, inl, inr, false≢true, none-some, LineEvent, Judged, Sent}
use Rattle.rdm_queue.proofs.Common.{verdict, Joined, result_of, JoinerStanding, StandsAt, next_op, End, Opening, Entry}
use Rattle.rdm_queue.proofs.Common.{Came, Close, Awaited, sends, verdicts, result, awaited, is_closed, QueueState}
use Rattle.rdm_queue.proofs.Common.{StandingAt, hears_run, AwaitsRequest, IsPending, oldest_number, Describes}
use Rattle.rdm_queue.proofs.Common.{StandsAmid, pushed, joins-push, is_paused-push, is_closed-push, LogFacts, IsAwaited}
use Rattle.rdm_queue.proofs.Common.{IsRunAwaited, legal_facts, unfinished_number, StandsAfter}
use Rattle.rdm_queue.specs.declared.pending.Awaited.TheVariants as awaiting
use Rattle.rdm_queue.specs.body.State.{Hears, HearsRequest}
use Rattle.rdm_queue.proofs.BodyLemmas.DescribesSame.{same_work, stands_same}
use Rattle.rdm_queue.proofs.BodyLemmas.DescribesWork.{stands_came, last_owner}
use Rattle.rdm_queue.proofs.BodyLemmas.DescribesRuns.{stands_run_came}

-- a close
pub close_amid : (o : Opening) (h : List Entry) (s : QueueState) → is_closed o h ≡ false → StandsAfter o h s
    → StandsAmid o (h ++ Close ∷ []) (record s { closed = true })
close_amid o h s open_ after = record {
  each = pushed o h Close after.legal.each (after.legal.settled, open_);
  stands = stands_same o h Close s s.places s.paused true s.owed s.flags after.legal.each (after.legal.settled, open_)
      (same_work o h Close refl refl refl refl refl refl)
      (rw (joins-push h Close) after.stands.places_are) (after.stands.paused_is ∙ sym (is_paused-push o h Close))
      (sym (is_closed-push o h Close)) (λ c. refl) refl (rw (joins-push h Close) after.stands.owed_for_each)
      (λ c. refl) (rw (joins-push h Close) after.stands.flags_for_each) after.stands;
}

-- the state of the oldest request, if its result is open
pub open_standing : (r : Option Joined) (vs : List Judged) (decided : Option Joined) (joiner : JoinerStanding)
    → r ≡ None → StandingAt r vs decided joiner → (decided ≡ None) × StandsAt vs joiner
open_standing None vs decided joiner is standing = standing
open_standing (Some j) vs decided joiner is standing = absurd (none-some j (sym is))

-- the result of a request that awaits its reply is open
pub awaited_open : (o : Opening) (h : List Entry) (sent : Sent) → LogFacts o h → AwaitsRequest o h sent
    → result_of (verdicts (oldest_number o h) h) ≡ None
unfolding result
awaited_open o h sent facts w = by_facts (facts.waits w.last.waits)
  where
    by_facts : IsAwaited h ⊎ IsRunAwaited h → result_of (verdicts (oldest_number o h) h) ≡ None
    by_facts (inl a) =
        subst (λ (n : ℕ). result n h ≡ None) (unfinished_number o h facts 0 a.accepted a.oldest ∙ omega arith)
        a.undecided
    by_facts (inr r) =
        absurd (last_owner (sends h) w.last.earlier r.unanswered.earlier (oldest_number o h) r.run w.frame r.frame
        w.last.sends_are r.unanswered.last)

-- what came is heard
abbrev pub HearsEach : QueueState → LineEvent → QueueState → Type 0
HearsEach s event new = (sent : Sent) → s.awaited ≡ Some (awaiting.Request sent) → HearsRequest sent event s new

abbrev pub HearsEachRun : QueueState → LineEvent → QueueState → Type 0
HearsEachRun s event new =
    (tn : ℕ) → s.awaited ≡ Some (awaiting.Run tn) → next_op s.agent ≢ End → new ≡ hears_run tn event s

pub came_amid : (o : Opening) (h : List Entry) (s new : QueueState) (event : LineEvent) → awaited h ≡ true
    → HearsEach s event new → HearsEachRun s event new → StandsAfter o h s → StandsAmid o (h ++ Came event ∷ []) new
unfolding result
came_amid o h s new event waits hears hears_by_run after = record {
  each = pushed o h (Came event) after.legal.each (after.legal.settled, waits);
  stands = by_awaited s.awaited refl;
}
  where
    facts : LogFacts o h
    facts = legal_facts o h after.legal.each

    pending : (w : Option Awaited) → s.awaited ≡ w → IsPending o h s w
    pending w is = subst (λ q. IsPending o h s q) is after.stands.awaited_is

    by_awaited : (w : Option Awaited) → s.awaited ≡ w → Describes o (h ++ Came event ∷ []) new
    by_awaited None is = absurd (false≢true (sym (pending None is) ∙ waits))
    by_awaited (Some (awaiting.Request sent)) is =
        let before = open_standing (result_of (verdicts (oldest_number o h) h)) (verdicts (oldest_number o h) h)
        s.decided s.joiner (awaited_open o h sent facts (pending (Some (awaiting.Request sent)) is))
        after.stands.standing in
        let heard : Hears (verdicts (oldest_number o h) h ++ verdict sent event ∷ []) s new =
        hears sent is (verdicts (oldest_number o h) h) before.0 before.1 in
        rw heard.new_is
        (stands_came o h s sent event new.decided new.joiner after.legal.each (after.legal.settled, waits) facts is
        heard.standing after.stands)
    by_awaited (Some (awaiting.Run tn)) is =
        rw (hears_by_run tn is (pending (Some (awaiting.Run tn)) is).goes_on)
        (stands_run_came o h s tn event after.legal.each (after.legal.settled, waits) facts is after.stands)
