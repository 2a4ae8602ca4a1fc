-- What is promised of a list of events.
use Rattle.rdm_log.proofs.Common.{◌≡◌, ℕ, zero, suc, false, List, [], ◌∷◌, ◌++◌, map, filter_map, Option, Some}
use Rattle.rdm_log.proofs.Common.{slice_get, refl, sym, ap, ◌∙◌, append_assoc, append-nil, Result, Ok, Err, option_map}
use Rattle.rdm_log.proofs.Common.{Contains, none-some, slice_get-get_or, slice_get-map, same_Some, EachAfter, Request}
use Rattle.rdm_log.proofs.Common.{Kind, ClientId, Entry, Accept, Ask, NoMemory, BoxedOutcome, Event, Work, WorkFault}
use Rattle.rdm_log.proofs.Common.{Accepted, AskedDiscovery, accepted_of, asked_of, accepts, asks, work_fault, MayFollow}
use Rattle.rdm_log.proofs.Common.{Legal, LogState, grown, is_full_log, WorkAdds, WorkLogs, work_accepted, work_refused}
use Rattle.rdm_log.proofs.Common.{discovered, unboxed, Adds, Explains, numbers_accepted, numbers_asked, AnsweredAt}
use Rattle.rdm_log.proofs.Common.{brings, answer_to, IsOwnOutcome, ReportsTheLine, inl, inr}
use Rattle.rdm_log.specs.declared.fault.WorkFault.TheVariants.{Full}
use Rattle.rdm_log.specs.declared.outcome.AskCompletion.{AskCompletion}
use Rattle.rdm_log.specs.declared.outcome.Outcome.TheVariants as outcomes
use Rattle.rdm_log.specs.declared.event.Event.TheVariants as events
use Rattle.rdm_log.specs.declared.event.Answer.{Answer}
use Rattle.rdm_log.specs.declared.event.Answer.TheVariants as answers
use Rattle.rdm_log.specs.declared.work.Work.TheVariants.{Submit, Discover}
use Rattle.rdm_log.specs.promises.Blocks.{call_of}
use Rattle.rdm_log.specs.promises.EventsHeadline.{FullExactly, RefusesDiscovery, EventsPromised}
use Rattle.rdm_log.proofs.LogLemmas.Indices.{filter_map_has}
use Rattle.rdm_log.proofs.PromiseLemmas.StableResults.{contains_from_get}
use Rattle.rdm_log.proofs.PromiseLemmas.OneResult.{one_result, one_answer}
use Rattle.rdm_log.proofs.PromiseLemmas.FullRefuses.{most_is_fault, fault_is_most, refusal_changes_nothing}
use Rattle.rdm_log.proofs.PromiseLemmas.Promises.{promised}
use Rattle.rdm_log.proofs.PromiseLemmas.BlockLemmas.{work_ok, work_full, work_adds, work_answer}
use Rattle.rdm_log.proofs.PromiseLemmas.OwnOutcomes.{own_outcome, reports_the_line}
use Rattle.rdm_log.proofs.PromiseLemmas.CollectedEvents.{collected_once}
use Rattle.rdm_log.proofs.PromiseLemmas.EventsInBound.{in_bound}
use Rattle.rdm_log.proofs.PromiseLemmas.ClosedEvents.{closes, nothing_after, nothing_closed}
use Rattle.rdm_log.proofs.PromiseLemmas.QuietEvents.{idle_after}
use Rattle.rdm_log.proofs.PromiseLemmas.RisingNumbers.{numbers_rise, asks_rise}
use Rattle.rdm_log.proofs.PromiseLemmas.ExplainsLemmas.{HasBlock, has_block, one_answer_each, explained_grows}
use Rattle.rdm_log.proofs.PromiseLemmas.ExplainsLemmas.{answered_at, block_contained, block_follows}

-- work that was accepted is in the log
accepted : (old : LogState) (es : List Event) (rs : List Answer) (new : LogState) → Explains old es rs new
    → (i : ℕ) (c : ClientId) (n : ℕ) (work : Work) → slice_get es i ≡ Some (brings c work)
    → slice_get rs i ≡ Some (answer_to work (Ok n)) → Contains new.entries (work_accepted c n work)
accepted old es rs new explains i c n work at_e at_r =
    let at = answered_at old es rs new explains i (brings c work) (answer_to work (Ok n)) at_e at_r in
    block_contained new at.before at.here.block (work_accepted c n work)
    (has_block old es rs new i (brings c work) (answer_to work (Ok n)) at)
    (work_ok at.before c work n at.here.block (work_adds at.before c work (Ok n) at.here.block at.here.adds)).2

-- and so is its number
contained : {X : Type 0} (f : Entry → Option X) (number : X → ℕ) (h : List Entry) (e : Entry) (x : X) → f e ≡ Some x
    → Contains h e → Contains (map number (filter_map f h)) (number x)
contained f number h e x is has =
    let found = filter_map_has f h has.0 e x (slice_get-get_or h has.0 e has.1 ∙ ap (λ y. Some y) has.2) is in
    contains_from_get (map number (filter_map f h)) found.0 (number x)
    (slice_get-map number (filter_map f h) found.0 ∙ ap (option_map number) found.1)

number_contained : (h : List Entry) (c : ClientId) (n : ℕ) (request : Request) → Contains h (Accept c n request)
    → Contains (numbers_accepted (accepts h)) n
unfolding accepts
number_contained h c n request has =
    contained accepted_of (λ (a : Accepted). a.number) h (Accept c n request)
    (record { client = c.0; number = n; request = request }) refl has

discovery_contained : (h : List Entry) (c : ClientId) (n : ℕ) (kind : Kind) → Contains h (Ask c n kind)
    → Contains (numbers_asked (asks h)) n
unfolding asks
discovery_contained h c n kind has =
    contained asked_of (λ (a : AskedDiscovery). a.number) h (Ask c n kind)
    (record { client = c.0; number = n; kind = kind }) refl has

-- work if the log isn't full
refused_full : (k : LogState) (c : ClientId) (work : Work) (answer : Answer) (block : List Entry)
    → Adds k (brings c work) answer block → answer ≡ answer_to work (Err Full)
    → WorkAdds k.opening k.entries c work (Err Full) block
refused_full k c work answer block adds is =
    work_full k c work block (work_adds k c work (Err Full) block (rw is at adds))

answered_full : (k : LogState) (c : ClientId) (work : Work) (answer : Answer) (block : List Entry)
    → Adds k (brings c work) answer block → is_full_log k ≡ false → work_fault k.opening k.entries c.0 work ≡ Some Full
    → answer ≡ answer_to work (Err Full)
answered_full k c work answer block adds room fault =
    let is = work_answer k c work answer block adds in
    let logs : WorkLogs k c work is.0 block = work_adds k c work is.0 block (rw is.1 at adds) in
    is.1 ∙ ap (answer_to work) (by_result is.0 (rw room at logs))
  where
    by_result : (r : Result ℕ WorkFault) → WorkAdds k.opening k.entries c work r block → r ≡ Err Full
    by_result (Ok n) added = absurd (none-some Full (sym added.0 ∙ fault))
    by_result (Err e) added = rw (same_Some e Full (sym added.0 ∙ fault)) refl

full : (old : LogState) (es : List Event) (rs : List Answer) (new : LogState) → Explains old es rs new
    → Legal new.opening new.entries → (i : ℕ) (c : ClientId) (work : Work) (answer : Answer)
    → slice_get es i ≡ Some (brings c work) → slice_get rs i ≡ Some answer
    → FullExactly old es rs new i c work answer
full old es rs new explains legal i c work answer at_e at_r = record {
  at = at;
  exactly = λ room. (
    λ is. most_is_fault at.before.opening at.before.entries c.0 work
        (refused_full at.before c work answer at.here.block at.here.adds is).0,
    λ is. answered_full at.before c work answer at.here.block at.here.adds room
        (fault_is_most at.before.opening at.before.entries c.0 work is),
  );
  refused = refused;
  unchanged = λ is. rw (refused is)
      (refusal_changes_nothing new.opening at.before.entries (Some c) (call_of work) (record { 0 = 3 }) (each is));
}
  where
    at : AnsweredAt old es rs new i (brings c work) answer
    at = answered_at old es rs new explains i (brings c work) answer at_e at_r

    block : answer ≡ answer_to work (Err Full) → at.here.block ≡ work_refused c work Full ∷ []
    block is = (refused_full at.before c work answer at.here.block at.here.adds is).1

    refused : answer ≡ answer_to work (Err Full) → at.after ≡ grown at.before (work_refused c work Full ∷ [])
    refused is = at.here.grows ∙ ap (grown at.before) (block is)

    each : answer ≡ answer_to work (Err Full)
        → EachAfter (MayFollow new.opening) (at.before.entries ++ work_refused c work Full ∷ [])
    each is =
        block_follows new at.before at.here.block (work_refused c work Full ∷ [])
        (has_block old es rs new i (brings c work) answer at) (block is) legal.each

-- the answer of a collect is that of the client that collects
collected_here : (k : LogState) (e : Event) (given : Result (Option BoxedOutcome) NoMemory) (block : List Entry)
    → Adds k e (answers.Collect given) block → (c : ClientId) × (Some e ≡ Some (events.Collect c))
collected_here k (events.Collect c) given block adds = (c, refl)
collected_here k _ given block adds = absurd adds

pub collected_by : (old : LogState) (es : List Event) (rs : List Answer) (new : LogState) → Explains old es rs new
    → (i : ℕ) (given : Result (Option BoxedOutcome) NoMemory) → slice_get rs i ≡ Some (answers.Collect given)
    → (c : ClientId) × (slice_get es i ≡ Some (events.Collect c))
collected_by old es [] new is i given at = absurd (none-some (answers.Collect given) at)
collected_by old [] (r ∷ rs) new is i given at = absurd is
collected_by old (e ∷ es) (r ∷ rs) new is zero given at =
    collected_here old e given is.1.block (rw (same_Some r (answers.Collect given) at) at is.1.adds)
collected_by old (e ∷ es) (r ∷ rs) new is (suc i) given at = collected_by is.0 es rs new is.2 i given at

collected : (old : LogState) (es : List Event) (rs : List Answer) (new : LogState) → Explains old es rs new
    → Legal new.opening new.entries → (i : ℕ) (c : ClientId) (outcome : BoxedOutcome)
    → slice_get es i ≡ Some (events.Collect c) → slice_get rs i ≡ Some (answers.Collect (Ok (Some outcome)))
    → IsOwnOutcome new.opening new.entries c.0 (unboxed outcome)
collected old es rs new explains legal i c outcome at_e at_r =
    rw whole (own_outcome new.opening at.before.entries (at.here.block ++ split.back) c.0 (unboxed outcome)
    (rw whole at legal.each) (rw (← split.same_opening) at at.here.adds.0))
  where
    at : AnsweredAt old es rs new i (events.Collect c) (answers.Collect (Ok (Some outcome)))
    at = answered_at old es rs new explains i (events.Collect c) (answers.Collect (Ok (Some outcome))) at_e at_r

    split : HasBlock new at.before at.here.block
    split = has_block old es rs new i (events.Collect c) (answers.Collect (Ok (Some outcome))) at

    whole : new.entries ≡ at.before.entries ++ (at.here.block ++ split.back)
    whole = split.whole ∙ append_assoc at.before.entries at.here.block split.back

reported : (old : LogState) (es : List Event) (rs : List Answer) (new : LogState) → Explains old es rs new
    → Legal new.opening new.entries → (i : ℕ) (outcome : BoxedOutcome) (number : Option ℕ) (done : AskCompletion)
    → slice_get rs i ≡ Some (answers.Collect (Ok (Some outcome))) → unboxed outcome ≡ outcomes.Discovery number done
    → ReportsTheLine new.entries (discovered done)
reported old es rs new explains legal i outcome number done at_r is =
    let asked = collected_by old es rs new explains i (Ok (Some outcome)) at_r in
    reports_the_line new.opening new.entries legal asked.0.0 number (discovered done)
    (rw is at (collected old es rs new explains legal i asked.0 outcome asked.1 at_r))

no_memory : (old : LogState) (es : List Event) (rs : List Answer) (new : LogState) → Explains old es rs new
    → (i : ℕ) (c : ClientId) (fault : NoMemory) → slice_get es i ≡ Some (events.Collect c)
    → slice_get rs i ≡ Some (answers.Collect (Err fault)) → RefusesDiscovery old es rs new i c fault
no_memory old es rs new explains i c fault at_e at_r =
    let at = answered_at old es rs new explains i (events.Collect c) (answers.Collect (Err fault)) at_e at_r in
    record {
      at = at;
      discovery = at.here.adds.0;
      unchanged = at.here.grows ∙ ap (grown at.before) at.here.adds.1
          ∙ ap (λ l. record at.before { entries = l }) (append-nil at.before.entries);
    }

pub events_promised : (old : LogState) (es : List Event) (rs : List Answer) (new : LogState) → Explains old es rs new
    → Legal new.opening new.entries → EventsPromised old es rs new
events_promised old es rs new explains legal = record {
  all_answered = one_answer_each old es rs new explains;
  only_grows = explained_grows old es rs new explains;
  log = promised new.opening new.entries legal;
  accepted = λ i c n request at_e at_r. accepted old es rs new explains i c n (Submit request) at_e at_r;
  finished = λ i j m c n request event at_e at_r before at_close at_deliver.
      (one_result new.opening new.entries legal).exactly_one (closes old es rs new explains j at_close)
      (idle_after old es rs new explains j m event before at_close at_deliver) n
      (number_contained new.entries c n request (accepted old es rs new explains i c n (Submit request) at_e at_r));
  asked = λ i c n kind at_e at_r. accepted old es rs new explains i c n (Discover kind) at_e at_r;
  answered = λ i j m c n kind event at_e at_r before at_close at_deliver.
      (one_answer new.opening new.entries legal).exactly_one (closes old es rs new explains j at_close)
      (idle_after old es rs new explains j m event before at_close at_deliver) n
      (discovery_contained new.entries c n kind (accepted old es rs new explains i c n (Discover kind) at_e at_r));
  numbers_rise = numbers_rise old es rs new explains;
  asks_rise = asks_rise old es rs new explains;
  closed = closes old es rs new explains;
  nothing_after = nothing_after old es rs new explains;
  nothing_closed = λ closed. nothing_closed old es rs new explains closed;
  full = full old es rs new explains legal;
  collected = collected old es rs new explains legal;
  reported = reported old es rs new explains legal;
  no_memory = no_memory old es rs new explains;
  collected_once = collected_once old es rs new explains legal.each;
  in_bound = λ front back n r fault present is calm.
      in_bound old es rs new explains legal.each front back n r fault present is (inl calm);
  in_bound_in_noise = λ front back n r fault present w is noisy.
      in_bound old es rs new explains legal.each front back n r fault present is (inr (w, noisy));
}
