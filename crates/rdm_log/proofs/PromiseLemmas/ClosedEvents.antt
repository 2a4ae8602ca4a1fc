-- Events after a close start nothing.
use Rattle.rdm_log.proofs.Common.{◌≡◌, ℕ, zero, suc, ◌<◌, Bool, true, false, List, [], ◌∷◌, ◌++◌, Some, None, slice_get}
use Rattle.rdm_log.proofs.Common.{refl, sym, ap, ◌∙◌, append_assoc, append-nil, arith, Result, Ok, Err, false≢true}
use Rattle.rdm_log.proofs.Common.{none-some, same_Some, ClientId, Owner, Opening, Entry, Close, Event, Work, WorkFault}
use Rattle.rdm_log.proofs.Common.{is_closed, MaySend, LogState, WorkLogs, CloseAddsWhere, brings, answer_to, Adds}
use Rattle.rdm_log.proofs.Common.{IsAnswered, Explains}
use Rattle.rdm_log.specs.declared.entry.Owner.TheVariants as owners
use Rattle.rdm_log.specs.declared.event.Event.TheVariants as events
use Rattle.rdm_log.specs.declared.event.Answer.{Answer}
use Rattle.rdm_log.specs.declared.event.Answer.TheVariants as answers
use Rattle.rdm_log.specs.declared.work.Work.TheVariants as works
use Rattle.rdm_log.proofs.PromiseLemmas.BlockLemmas.{join_ok, work_ok, work_adds, work_answer}
use Rattle.rdm_log.specs.promises.EventsHeadline.{starts}
use Rattle.rdm_log.proofs.LogLemmas.PushLemmas.{is_closed-push}
use Rattle.rdm_log.proofs.LogLemmas.RefusalLemmas.{join_passes, work_passes}
use Rattle.rdm_log.proofs.PromiseLemmas.NothingAfterClose.{closed_more}
use Rattle.rdm_log.proofs.PromiseLemmas.ExplainsLemmas.{explained_grows}

-- a queue stays closed
pub stays_closed : (o : Opening) (h more : List Entry) → is_closed o h ≡ true → is_closed o (h ++ more) ≡ true
stays_closed o h [] closed = rw append-nil closed
stays_closed o h (e ∷ more) closed =
    rw (append_assoc h (e ∷ []) more) at (stays_closed o (h ++ e ∷ []) more (closed_more o h e closed))

pub close_closes : (k : LogState) (r : Answer) (block : List Entry) → Adds k events.Close r block
    → is_closed k.opening (k.entries ++ block) ≡ true
close_closes k answers.Close block adds = by_flag (is_closed k.opening k.entries) refl adds
  where
    by_flag : (b : Bool) → is_closed k.opening k.entries ≡ b → CloseAddsWhere b block
        → is_closed k.opening (k.entries ++ block) ≡ true
    by_flag true closed none = rw (none, append-nil) closed
    by_flag false open_ adds =
        rw (adds.whole, ← append_assoc k.entries (Close ∷ []) adds.results)
        (stays_closed k.opening (k.entries ++ Close ∷ []) adds.results (is_closed-push k.opening k.entries Close))
close_closes k _ block adds = absurd adds

pub closes : (old : LogState) (es : List Event) (rs : List Answer) (new : LogState) → Explains old es rs new → (i : ℕ)
    → slice_get es i ≡ Some events.Close → is_closed new.opening new.entries ≡ true
closes old [] rs new explains i at_e = absurd (none-some events.Close at_e)
closes old (e ∷ es) (r ∷ rs) new explains zero at_e = closed_later
  where
    here : IsAnswered old events.Close r explains.0
    here = rw (same_Some e events.Close at_e) at explains.1

    closed_here : is_closed explains.0.opening explains.0.entries ≡ true
    closed_here = rw here.grows (close_closes old r here.block here.adds)

    closed_later : is_closed new.opening new.entries ≡ true
    closed_later =
        let later = explained_grows explains.0 es rs new explains.2 in
        rw later.1 (stays_closed explains.0.opening explains.0.entries later.0 closed_here)
closes old (e ∷ es) (r ∷ rs) new explains (suc i) at_e = closes explains.0 es rs new explains.2 i at_e
closes old (e ∷ es) [] new explains i at_e = absurd explains

-- if the queue is closed, no event has an answer that starts something
silent_join : (k : LogState) (n : ℕ) (r : Answer) (block : List Entry) → is_closed k.opening k.entries ≡ true
    → Adds k (events.Join n) r block → starts r ≡ false
silent_join k n (answers.Join (Ok c)) block closed adds =
    let passes = join_passes k.opening k.entries n (join_ok k n c block adds).0 in
    absurd (false≢true (sym passes.not_closed ∙ closed))
silent_join k n (answers.Join (Err fault)) block closed adds = refl
silent_join k n _ block closed adds = absurd adds

silent_work : (k : LogState) (c : ClientId) (work : Work) (r : Answer) (block : List Entry)
    → is_closed k.opening k.entries ≡ true → Adds k (brings c work) r block → starts r ≡ false
silent_work k c work r block closed adds =
    let is = work_answer k c work r block adds in
    ap starts is.1 ∙ by_result is.0 (work_adds k c work is.0 block (rw is.1 at adds))
  where
    refused : (w : Work) (fault : WorkFault) → starts (answer_to w (Err fault)) ≡ false
    refused (works.Submit request) fault = refl
    refused (works.Discover kind) fault = refl

    by_result : (x : Result ℕ WorkFault) → WorkLogs k c work x block → starts (answer_to work x) ≡ false
    by_result (Ok n) logs =
        let passes = work_passes k.opening k.entries c.0 work (work_ok k c work n block logs).0 in
        absurd (false≢true (sym passes.not_closed ∙ closed))
    by_result (Err fault) logs = refused work fault

silent_take : (k : LogState) (r : Answer) (block : List Entry) → is_closed k.opening k.entries ≡ true
    → Adds k events.Take r block → starts r ≡ false
silent_take k (answers.Take (Ok (Some frame))) block closed adds = by_owner adds.1.0 adds.1.1
  where
    by_owner : (owner : Owner) → MaySend k.opening k.entries owner frame → true ≡ false
    by_owner (owners.Request n) may = absurd (false≢true (sym may.not_closed ∙ closed))
    by_owner (owners.Run r) may = absurd (false≢true (sym may.not_closed ∙ closed))
silent_take k (answers.Take (Ok None)) block closed adds = refl
silent_take k (answers.Take (Err x)) block closed adds = refl
silent_take k _ block closed adds = absurd adds

silent : (k : LogState) (e : Event) (r : Answer) (block : List Entry) → is_closed k.opening k.entries ≡ true
    → Adds k e r block → starts r ≡ false
silent k (events.Join n) r block closed adds = silent_join k n r block closed adds
silent k (events.Submit c request) r block closed adds = silent_work k c (works.Submit request) r block closed adds
silent k (events.Discover c kind) r block closed adds = silent_work k c (works.Discover kind) r block closed adds
silent k events.Take r block closed adds = silent_take k r block closed adds
silent k events.Pause (answers.Pause r) block closed adds = refl
silent k events.Resume (answers.Resume r) block closed adds = refl
silent k events.Close answers.Close block closed adds = refl
silent k (events.Deliver event) (answers.Deliver r) block closed adds = refl
silent k (events.Collect c) (answers.Collect r) block closed adds = refl
silent k _ _ block closed adds = absurd adds

pub next_closed : (old next : LogState) (e : Event) (r : Answer) → IsAnswered old e r next
    → is_closed old.opening old.entries ≡ true → is_closed next.opening next.entries ≡ true
next_closed old next e r here closed = rw here.grows (stays_closed old.opening old.entries here.block closed)

pub nothing_closed : (old : LogState) (es : List Event) (rs : List Answer) (new : LogState) → Explains old es rs new
    → is_closed old.opening old.entries ≡ true → (j : ℕ) (answer : Answer) → slice_get rs j ≡ Some answer
    → starts answer ≡ false
nothing_closed old es [] new explains closed j answer at = absurd (none-some answer at)
nothing_closed old [] (r ∷ rs) new explains closed j answer at = absurd explains
nothing_closed old (e ∷ es) (r ∷ rs) new explains closed zero answer at =
    rw (same_Some r answer at) at (silent old e r explains.1.block closed explains.1.adds)
nothing_closed old (e ∷ es) (r ∷ rs) new explains closed (suc j) answer at =
    nothing_closed explains.0 es rs new explains.2 (next_closed old explains.0 e r explains.1 closed) j answer at

pub nothing_after : (old : LogState) (es : List Event) (rs : List Answer) (new : LogState) → Explains old es rs new
    → (i j : ℕ) (answer : Answer) → i < j → slice_get es i ≡ Some events.Close → slice_get rs j ≡ Some answer
    → starts answer ≡ false
nothing_after old [] rs new explains i j answer before at_e at_r = absurd (none-some events.Close at_e)
nothing_after old (e ∷ es) [] new explains i j answer before at_e at_r = absurd explains
nothing_after old (e ∷ es) (r ∷ rs) new explains i zero answer before at_e at_r = absurd (omega arith)
nothing_after old (e ∷ es) (r ∷ rs) new explains zero (suc j) answer before at_e at_r =
    nothing_closed explains.0 es rs new explains.2 (closed_after (rw (same_Some e events.Close at_e) at explains.1)) j
    answer at_r
  where
    closed_after : IsAnswered old events.Close r explains.0 → is_closed explains.0.opening explains.0.entries ≡ true
    closed_after here = rw here.grows (close_closes old r here.block here.adds)
nothing_after old (e ∷ es) (r ∷ rs) new explains (suc i) (suc j) answer before at_e at_r =
    nothing_after explains.0 es rs new explains.2 i j answer (omega arith) at_e at_r
