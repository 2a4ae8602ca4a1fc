-- After a Close and a later Deliver no reply is awaited.
use Rattle.rdm_log.proofs.Common.{◌≡◌, ℕ, zero, suc, ◌<◌, true, false, List, [], ◌∷◌, ◌++◌, Some, None, slice_get}
use Rattle.rdm_log.proofs.Common.{refl, sym, ◌∙◌, append_assoc, append-nil, arith, Ok, Err, AllByRecursion, false≢true}
use Rattle.rdm_log.proofs.Common.{none-some, same_Some, LineEvent, Owner, Entry, Came, Event, awaits_after, awaited}
use Rattle.rdm_log.proofs.Common.{is_closed, MaySend, LogState, Adds, IsAnswered, Explains}
use Rattle.rdm_log.specs.declared.entry.Owner.TheVariants as owners
use Rattle.rdm_log.specs.declared.event.Event.TheVariants as events
use Rattle.rdm_log.specs.declared.event.Answer.{Answer}
use Rattle.rdm_log.specs.declared.event.Answer.TheVariants as answers
use Rattle.rdm_log.proofs.LogLemmas.PushLemmas.{awaited-push}
use Rattle.rdm_log.proofs.PromiseLemmas.EntriesOf.{EachOf, adds_each, results_each}
use Rattle.rdm_log.proofs.PromiseLemmas.ClosedEvents.{next_closed, close_closes}

-- entries after which no reply is awaited if none was before
abbrev IsQuiet : List Entry → Type 0
IsQuiet block = AllByRecursion (λ e. awaits_after false e ≡ false) block

quiet_block : (h block : List Entry) → awaited h ≡ false → IsQuiet block → awaited (h ++ block) ≡ false
quiet_block h [] idle quiet = rw append-nil idle
quiet_block h (e ∷ block) idle quiet =
    rw (append_assoc h (e ∷ []) block) at (quiet_block (h ++ e ∷ []) block (awaited-push h e ∙ rw idle quiet.0) quiet.1)

quiet_events : (k : LogState) (e : Event) (r : Answer) (block : List Entry)
    → EachOf e (λ e. awaits_after false e ≡ false) → Adds k e r block → IsQuiet block
quiet_events k e r block each adds = adds_each (λ e. awaits_after false e ≡ false) k e r block each adds

-- if the queue is closed, no event's block awaits a reply
quiet : (k : LogState) (e : Event) (r : Answer) (block : List Entry) → is_closed k.opening k.entries ≡ true
    → Adds k e r block → IsQuiet block
quiet k events.Take (answers.Take (Ok (Some frame))) block closed adds = absurd (by_owner adds.1.0 adds.1.1)
  where
    by_owner : (owner : Owner) → MaySend k.opening k.entries owner frame → ⊥
    by_owner (owners.Request n) may = false≢true (sym may.not_closed ∙ closed)
    by_owner (owners.Run r) may = false≢true (sym may.not_closed ∙ closed)
quiet k events.Take (answers.Take (Ok None)) block closed adds = rw adds.1.1 tt
quiet k events.Take (answers.Take (Err x)) block closed adds = rw adds.1 tt
quiet k events.Take _ block closed adds = absurd adds
quiet k (events.Join n) r block closed adds =
    quiet_events k (events.Join n) r block (λ c. refl, λ fault. refl) adds
quiet k (events.Submit c request) r block closed adds =
    quiet_events k (events.Submit c request) r block (λ n. refl, λ fault. refl) adds
quiet k (events.Discover c kind) r block closed adds =
    quiet_events k (events.Discover c kind) r block (λ n. refl, λ fault. refl) adds
quiet k events.Pause r block closed adds = quiet_events k events.Pause r block refl adds
quiet k events.Resume r block closed adds = quiet_events k events.Resume r block refl adds
quiet k events.Close r block closed adds =
    quiet_events k events.Close r block (refl, (λ n status len. refl, λ n run fault. refl)) adds
quiet k (events.Deliver event) r block closed adds =
    quiet_events k (events.Deliver event) r block (refl, (λ n status len. refl, λ n run fault. refl)) adds
quiet k (events.Collect c) r block closed adds = quiet_events k (events.Collect c) r block refl adds

stays_idle : (old : LogState) (es : List Event) (rs : List Answer) (new : LogState) → Explains old es rs new
    → is_closed old.opening old.entries ≡ true → awaited old.entries ≡ false → awaited new.entries ≡ false
stays_idle old [] [] new is closed idle = rw is idle
stays_idle old (e ∷ es) (r ∷ rs) new is closed idle =
    stays_idle is.0 es rs new is.2 (next_closed old is.0 e r is.1 closed)
    (rw is.1.grows (quiet_block old.entries is.1.block idle (quiet old e r is.1.block closed is.1.adds)))
stays_idle old [] (r ∷ rs) new is closed idle = absurd is
stays_idle old (e ∷ es) [] new is closed idle = absurd is

-- after a Deliver no reply is awaited
delivered : (k : LogState) (event : LineEvent) (r : Answer) (block : List Entry) → Adds k (events.Deliver event) r block
    → awaited (k.entries ++ block) ≡ false
delivered k event (answers.Deliver (Ok x)) block adds =
    let with = adds.1 in
    rw (with.whole, ← append_assoc k.entries (Came event ∷ []) with.results)
    (quiet_block (k.entries ++ Came event ∷ []) with.results (awaited-push k.entries (Came event))
    (results_each (λ e. awaits_after false e ≡ false) (λ n status len. refl, λ n run fault. refl) with.results
    with.each))
delivered k event (answers.Deliver (Err e)) block adds = rw (adds.2, append-nil) adds.0
delivered k event _ block adds = absurd adds

idle_delivered : (old : LogState) (es : List Event) (rs : List Answer) (new : LogState) → Explains old es rs new
    → is_closed old.opening old.entries ≡ true → (m : ℕ) (event : LineEvent)
    → slice_get es m ≡ Some (events.Deliver event) → awaited new.entries ≡ false
idle_delivered old [] rs new is closed m event at = absurd (none-some (events.Deliver event) at)
idle_delivered old (e ∷ es) [] new is closed m event at = absurd is
idle_delivered old (e ∷ es) (r ∷ rs) new is closed zero event at =
    stays_idle is.0 es rs new is.2 (next_closed old is.0 e r is.1 closed)
    (after_it (rw (same_Some e (events.Deliver event) at) at is.1))
  where
    after_it : IsAnswered old (events.Deliver event) r is.0 → awaited is.0.entries ≡ false
    after_it here = rw here.grows (delivered old event r here.block here.adds)
idle_delivered old (e ∷ es) (r ∷ rs) new is closed (suc m) event at =
    idle_delivered is.0 es rs new is.2 (next_closed old is.0 e r is.1 closed) m event at

pub idle_after : (old : LogState) (es : List Event) (rs : List Answer) (new : LogState) → Explains old es rs new
    → (j m : ℕ) (event : LineEvent) → j < m → slice_get es j ≡ Some events.Close
    → slice_get es m ≡ Some (events.Deliver event) → awaited new.entries ≡ false
idle_after old [] rs new is j m event before at_j at_m = absurd (none-some events.Close at_j)
idle_after old (e ∷ es) [] new is j m event before at_j at_m = absurd is
idle_after old (e ∷ es) (r ∷ rs) new is j zero event before at_j at_m = absurd (omega arith)
idle_after old (e ∷ es) (r ∷ rs) new is zero (suc m) event before at_j at_m =
    idle_delivered is.0 es rs new is.2 (closed_after (rw (same_Some e events.Close at_j) at is.1)) m event at_m
  where
    closed_after : IsAnswered old events.Close r is.0 → is_closed is.0.opening is.0.entries ≡ true
    closed_after here = rw here.grows (close_closes old r here.block here.adds)
idle_after old (e ∷ es) (r ∷ rs) new is (suc j) (suc m) event before at_j at_m =
    idle_after is.0 es rs new is.2 j m event (omega arith) at_j at_m
