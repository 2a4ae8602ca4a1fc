-- The oldest request is finished if it has ended, or at a close.
use Rattle.rdm_queue.proofs.Common.{◌≡◌, ℕ, Bool, true, false, List, [], ◌∷◌, ◌++◌, length, Option, Some, None}
use Rattle.rdm_queue.proofs.Common.{slice_get, refl, sym, ap, ◌∙◌, subst, arith, ◌&&◌, not, is_some, if◌then◌else◌}
use Rattle.rdm_queue.proofs.Common.{false≢true, none-some, same_Some, FailedToSend, Judged, Sent, Joined, result_of}
use Rattle.rdm_queue.proofs.Common.{ended, or_if_open, JoinerStanding, Opening, Entry, Awaited, Accepted, verdicts}
use Rattle.rdm_queue.proofs.Common.{result, unfinished, FitsResult, completion_of, QueueState, OwedOutcome, owed_for}
use Rattle.rdm_queue.proofs.Common.{finish_of, finishes_oldest, end_of_oldest, owed_next, due, GivesResult, StandingAt}
use Rattle.rdm_queue.proofs.Common.{IsStanding, AwaitsRun, IsPending, oldest_number, Describes, StandsAmid, pushed}
use Rattle.rdm_queue.proofs.Common.{LogFacts, legal_facts, unfinished_number, client_facts, all_unserved}
use Rattle.rdm_queue.specs.declared.pending.Awaited.TheVariants as awaiting
use Rattle.rdm_log.specs.log.MayFinish.{MayFinish, IsClosing}
use Rattle.rdm_queue.proofs.BodyLemmas.DecidedLemmas.{result_complete, gives_complete, gives_fits}
use Rattle.rdm_queue.proofs.BodyLemmas.AfterLemmas.{pending_flag}
use Rattle.rdm_queue.proofs.BodyLemmas.AfterFinish.{open_standing, awaited_open}
use Rattle.rdm_queue.proofs.BodyLemmas.DescribesWork.{stands_finish}
use Rattle.rdm_queue.proofs.BodyLemmas.TakeLemmas.{not_running}

-- the state of the oldest request, if it isn't decided
pub undecided : (r : Option Joined) (vs : List Judged) (decided : Option Joined) (joiner : JoinerStanding)
    → decided ≡ None → StandingAt r vs decided joiner → r ≡ None
undecided None vs decided joiner none standing = refl
undecided (Some j) vs decided joiner none standing = absurd (none-some standing.0 (sym none ∙ standing.2))

-- what is due
record IsDue (end : Option Joined) (waiting : List Accepted) (d : OwedOutcome) : Type 0 where
  done : Joined
  oldest : Accepted
  rest : List Accepted
  end_is : end ≡ Some done
  waiting_are : waiting ≡ oldest ∷ rest
  owed_is : d ≡ owed_for done oldest

is_due : (end : Option Joined) (waiting : List Accepted) (d : OwedOutcome) → owed_next end waiting ≡ Some d
    → IsDue end waiting d
is_due (Some done) (a ∷ rest) d is = record {
  done = done;
  oldest = a;
  rest = rest;
  end_is = refl;
  waiting_are = refl;
  owed_is = sym (same_Some (owed_for done a) d is);
}
is_due (Some done) [] d is = absurd (none-some d is)
is_due None waiting d is = absurd (none-some d is)

-- the oldest request's result in a log, and how it ends: as decided, or at a close unsent
record EndsRight (o : Opening) (h : List Entry) (n : ℕ) (done : Joined) : Type 0 where
  fits : FitsResult (IsClosing o h) (result n h) done.status (length done.data_)
  complete : done ≡ completion_of done.status (result n h)

ends_decided : (o : Opening) (h : List Entry) (n : ℕ) (vs : List Judged) (joiner : JoinerStanding) (done : Joined)
    (r : Option Joined) → result_of vs ≡ r → result n h ≡ r → StandingAt r vs (Some done) joiner → EndsRight o h n done
ends_decided o h n vs joiner done None is own standing = absurd (none-some done (sym standing.0))
ends_decided o h n vs joiner done (Some j) is own standing =
    let gives : GivesResult j done = rw (same_Some done standing.0 standing.2) standing.1 in
    record {
      fits = rw own (gives_fits (IsClosing o h) j done (result_complete vs j is) gives);
      complete = rw own (gives_complete j done (result_complete vs j is) gives);
    }

record ClosesUnsent (closed waits : Bool) (done : Joined) : Type 0 where
  is_closed_ : closed ≡ true
  idle : waits ≡ false
  unsent : done ≡ ended FailedToSend

closes_unsent : (closed waits : Bool) (done : Joined)
    → (if closed && not waits then Some (ended FailedToSend) else None) ≡ Some done → ClosesUnsent closed waits done
closes_unsent true false done is = record {
  is_closed_ = refl;
  idle = refl;
  unsent = sym (same_Some (ended FailedToSend) done is);
}
closes_unsent true true done is = absurd (none-some done is)
closes_unsent false waits done is = absurd (none-some done is)

ends_unsent : (o : Opening) (h : List Entry) (n : ℕ) (done : Joined) → IsClosing o h → result n h ≡ None
    → done ≡ ended FailedToSend → EndsRight o h n done
ends_unsent o h n done closing open_ is = record {
  fits = rw (open_, is) (closing, refl, refl);
  complete = rw (open_, is) refl;
}

ends_right : (o : Opening) (h : List Entry) (s : QueueState) (n : ℕ) (done : Joined) → n ≡ oldest_number o h
    → Describes o h s → s.run ≡ None → (decided : Option Joined) → s.decided ≡ decided
    → or_if_open decided (if s.closed && not (is_some s.awaited) then Some (ended FailedToSend) else None) ≡ Some done
    → EndsRight o h n done
unfolding result
ends_right o h s n done number stands none (Some own) is end =
    ends_decided o h n vs s.joiner done (result_of vs) refl (ap (λ (m : ℕ). result m h) number)
    (subst (λ (d : Option Joined). IsStanding vs d s.joiner) (is ∙ end) stands.standing)
  where
    vs : List Judged
    vs = verdicts (oldest_number o h) h
ends_right o h s n done number stands none None is end =
    ends_unsent o h n done
    (record {
      closed = sym stands.closed_is ∙ closes.is_closed_;
      not_awaited =
          sym (pending_flag o h s s.awaited stands.awaited_is) ∙ closes.idle;
      runs_answered =
          sym (all_unserved h (not_running o h s none stands).none_left);
    })
    (ap (λ (m : ℕ). result m h) number
    ∙ undecided (result_of vs) vs s.decided s.joiner is stands.standing) closes.unsent
  where
    vs : List Judged
    vs = verdicts (oldest_number o h) h

    closes : ClosesUnsent s.closed (is_some s.awaited) done
    closes = closes_unsent s.closed (is_some s.awaited) done end

-- and no reply is awaited then
idle_at_end : (o : Opening) (h : List Entry) (s : QueueState) (done : Joined) → LogFacts o h → Describes o h s
    → s.run ≡ None → end_of_oldest s ≡ Some done → s.awaited ≡ None
idle_at_end o h s done facts stands none end = by_awaited s.awaited refl
  where
    decides : (sent : Sent) → s.awaited ≡ Some (awaiting.Request sent) → (decided : Option Joined) → s.decided ≡ decided
        → or_if_open decided (if s.closed && not (is_some s.awaited) then Some (ended FailedToSend) else None)
        ≡ Some done → ⊥
    decides sent is (Some own) decided e =
        none-some own
        (sym (open_standing (result_of vs) vs s.decided s.joiner
        (awaited_open o h sent facts (subst (λ q. IsPending o h s q) is stands.awaited_is)) stands.standing).0
        ∙ decided)
      where
        vs : List Judged
        vs = verdicts (oldest_number o h) h
    decides sent is None decided e =
        false≢true (sym (closes_unsent s.closed (is_some s.awaited) done e).idle ∙ ap (λ q. is_some q) is)

    by_awaited : (w : Option Awaited) → s.awaited ≡ w → s.awaited ≡ None
    by_awaited None is = is
    by_awaited (Some (awaiting.Request sent)) is = absurd (decides sent is s.decided refl end)
    by_awaited (Some (awaiting.Run tn)) is =
        let w : AwaitsRun o h s tn = subst (λ q. IsPending o h s q) is stands.awaited_is in
        absurd (none-some w.run (sym none ∙ w.run_is))

pub finish_amid : (o : Opening) (h : List Entry) (s : QueueState) (d : OwedOutcome) → s.run ≡ None → due s ≡ Some d
    → StandsAmid o h s → StandsAmid o (h ++ finish_of d ∷ []) (finishes_oldest s d)
finish_amid o h s d none is amid = rw was.owed_is (record {
  each = pushed o h (finish_of (owed_for was.done was.oldest)) amid.each may;
  stands = stands_finish o h s was.oldest was.rest was.done amid.each may facts (client_facts o h amid.each)
      unfinished_are ends.complete (idle_at_end o h s was.done facts amid.stands none was.end_is) none amid.stands;
})
  where
    facts : LogFacts o h
    facts = legal_facts o h amid.each

    was : IsDue (end_of_oldest s) s.waiting d
    was = is_due (end_of_oldest s) s.waiting d is

    unfinished_are : unfinished h ≡ was.oldest ∷ was.rest
    unfinished_are = sym amid.stands.waiting_are ∙ was.waiting_are

    first : slice_get (unfinished h) 0 ≡ Some was.oldest
    first = rw unfinished_are refl

    ends : EndsRight o h was.oldest.number was.done
    ends = ends_right o h s was.oldest.number was.done (unfinished_number o h facts 0 was.oldest first ∙ omega arith)
        amid.stands none s.decided refl was.end_is

    may : MayFinish o h was.oldest.number was.done.status (length was.done.data_)
    may = record { accepted = was.oldest; oldest = first; number = refl; fits = ends.fits }
