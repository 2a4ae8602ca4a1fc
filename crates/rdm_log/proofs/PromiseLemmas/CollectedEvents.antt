-- A client collects the outcomes of its Finishes and Answers once, in order.
use Rattle.rdm_log.proofs.Common.{◌≡◌, ℕ, zero, suc, true, false, List, [], ◌∷◌, ◌++◌, length, take, drop, Option}
use Rattle.rdm_log.proofs.Common.{Some, None, if◌then◌else◌, slice_get, refl, ap, ◌∙◌, append_assoc, append-nil}
use Rattle.rdm_log.proofs.Common.{add-one, inl, inr, filter_map, ◌⊎◌, ◌==◌, Ok, Err, AllByRecursion, cons_option}
use Rattle.rdm_log.proofs.Common.{eq-eqb, cases_Bool, eqb-true, length_push, filter-append, filter_map-append}
use Rattle.rdm_log.proofs.Common.{same_Some, EachAfter, ClientId, Opening, Entry, Collect, Outcome, Event}
use Rattle.rdm_log.proofs.Common.{collector_of, collectors, answers_to, collects_by, collected, uncollected, MayFollow}
use Rattle.rdm_log.proofs.Common.{OutcomeValue, outcome_value, outcome_of, unboxed, LogState, grown, IsOldest, Adds}
use Rattle.rdm_log.proofs.Common.{IsAnswered, Explains}
use Rattle.rdm_log.specs.declared.event.Event.TheVariants as events
use Rattle.rdm_log.specs.declared.event.Answer.{Answer}
use Rattle.rdm_log.specs.declared.event.Answer.TheVariants as answers
use Rattle.rdm_log.proofs.PromiseLemmas.EntriesOf.{EachOf, adds_each}
use Rattle.rdm_log.specs.promises.EventsHeadline.{outcome_given, given_to, collected_outcomes}
use Rattle.rdm_log.proofs.LogLemmas.Grows.{front}
use Rattle.rdm_log.proofs.LogLemmas.PushLemmas.{collectors-push}
use Rattle.rdm_log.proofs.LogLemmas.ClientLemmas.{answers_same}
use Rattle.rdm_log.proofs.LogLemmas.ClientSteps.{collected_step}
use Rattle.rdm_log.proofs.PromiseLemmas.StableOutcomes.{outcome_stays}
use Rattle.rdm_log.proofs.PromiseLemmas.ExplainsLemmas.{explained_grows}

-- an entry that is no Collect leaves what was collected
abbrev NoCollects : List Entry → Type 0
NoCollects block = AllByRecursion (λ e. collector_of e ≡ None) block

collected_block : (o : Opening) (c : ℕ) (h block : List Entry) → EachAfter (MayFollow o) (h ++ block) → NoCollects block
    → collected o c (h ++ block) ≡ collected o c h
collected_block o c h [] each none = rw append-nil refl
collected_block o c h (e ∷ block) each none =
    rw (append_assoc h (e ∷ []) block) at (collected_block o c (h ++ e ∷ []) block
    (rw (append_assoc h (e ∷ []) block) each) none.1)
    ∙ collected_step o c h e (front o h (e ∷ block) each) (each h block e refl) none.0

-- a Collect takes the client's oldest uncollected answer
take_next : (m : ℕ) (xs : List Entry) (x : Entry) → slice_get (drop m xs) 0 ≡ Some x
    → take (suc m) xs ≡ take m xs ++ x ∷ []
take_next zero [] x at = cc
take_next zero (y ∷ xs) x at = rw (same_Some y x at) refl
take_next (suc m) [] x at = cc
take_next (suc m) (y ∷ xs) x at = ap (λ l. y ∷ l) (take_next m xs x at)

collected_own : (o : Opening) (h : List Entry) (d : ClientId) (x : Entry) → slice_get (uncollected o d.0 h) 0 ≡ Some x
    → collected o d.0 (h ++ Collect d ∷ []) ≡ collected o d.0 h ++ x ∷ []
collected_own o h d x at =
    rw (
      answers_same o d.0 h (Collect d) refl refl,
      collectors-push h (Collect d),
      filter-append (λ c. d.0 == c) (collectors h) (d.0 ∷ []),
      eq-eqb d.0 d.0 refl,
      length_push (collects_by d.0 h) d.0,
      add-one,
    )
    (take_next (length (collects_by d.0 h)) (answers_to o d.0 h) x at)

collected_other : (o : Opening) (c : ℕ) (h : List Entry) (d : ClientId) → (c == d.0) ≡ false
    → collected o c (h ++ Collect d ∷ []) ≡ collected o c h
collected_other o c h d other =
    rw (
      answers_same o c h (Collect d) refl refl,
      collectors-push h (Collect d),
      filter-append (λ x. c == x) (collectors h) (d.0 ∷ []),
      other,
      append-nil,
    ) refl

-- for an event that returned no outcome
pub record GaveNothing (e : Event) (r : Answer) (block : List Entry) : Type 0 where
  pub none : NoCollects block
  pub nothing : (c : ℕ) → outcome_given c e r ≡ None

-- an event returned a client's oldest outcome, or none
pub record GaveOne (k : LogState) (e : Event) (r : Answer) (block : List Entry) : Type 0 where
  pub client : ClientId
  pub outcome : Outcome
  pub oldest : IsOldest k.opening k.entries client.0 outcome
  pub is : block ≡ Collect client ∷ []
  pub given : (c : ℕ) → outcome_given c e r ≡ (if c == client.0 then Some (outcome_value outcome) else None)

-- an event whose block has no Collect
gave_nothing : (k : LogState) (e : Event) (r : Answer) (block : List Entry) → EachOf e (λ e. collector_of e ≡ None)
    → ((c : ℕ) → outcome_given c e r ≡ None) → Adds k e r block → GaveNothing e r block ⊎ GaveOne k e r block
gave_nothing k e r block each nothing adds =
    inl (record { none = adds_each (λ e. collector_of e ≡ None) k e r block each adds; nothing = nothing })

gave : (k : LogState) (e : Event) (r : Answer) (block : List Entry) → Adds k e r block → GaveNothing e r block
    ⊎ GaveOne k e r block
gave k (events.Join n) r block adds =
    gave_nothing k (events.Join n) r block (λ c. refl, λ fault. refl) (λ d. refl) adds
gave k (events.Submit c request) r block adds =
    gave_nothing k (events.Submit c request) r block (λ n. refl, λ fault. refl) (λ d. refl) adds
gave k (events.Discover c kind) r block adds =
    gave_nothing k (events.Discover c kind) r block (λ n. refl, λ fault. refl) (λ d. refl) adds
gave k events.Pause r block adds = gave_nothing k events.Pause r block refl (λ d. refl) adds
gave k events.Resume r block adds = gave_nothing k events.Resume r block refl (λ d. refl) adds
gave k events.Close r block adds =
    gave_nothing k events.Close r block (refl, (λ n status len. refl, λ n run fault. refl)) (λ d. refl) adds
gave k events.Take r block adds = gave_nothing k events.Take r block (λ owner frame. refl) (λ d. refl) adds
gave k (events.Deliver event) r block adds =
    gave_nothing k (events.Deliver event) r block (refl, (λ n status len. refl, λ n run fault. refl)) (λ d. refl) adds
gave k (events.Collect c) (answers.Collect (Ok (Some outcome))) block adds = inr (record {
  client = c;
  outcome = unboxed outcome;
  oldest = adds.0;
  is = adds.1;
  given = λ d. refl;
})
gave k (events.Collect c) (answers.Collect (Ok None)) block adds =
    inl (record { none = rw adds.1 tt; nothing = λ d. refl })
gave k (events.Collect c) (answers.Collect (Err x)) block adds =
    inl (record { none = rw adds.1 tt; nothing = λ d. refl })
gave k (events.Collect c) _ block adds = absurd adds

-- the oldest uncollected answer has its outcome also in a later log
outcome_lasts : (o : Opening) (h more : List Entry) (c : ℕ) (outcome : Outcome) → EachAfter (MayFollow o) (h ++ more)
    → (is : IsOldest o h c outcome) → outcome_of (h ++ more) is.entry ≡ Some (outcome_value outcome)
outcome_lasts o h more c outcome each is = outcome_stays o h more c 0 is.entry each is.oldest ∙ is.told

-- what one event adds to a client's outcomes, as a later log has them
one_collect : (k : LogState) (d : ClientId) (outcome : Outcome) (back log : List Entry)
    → log ≡ (k.entries ++ Collect d ∷ []) ++ back → EachAfter (MayFollow k.opening) log
    → IsOldest k.opening k.entries d.0 outcome
    → collected_outcomes k.opening d.0 (k.entries ++ Collect d ∷ []) log
    ≡ collected_outcomes k.opening d.0 k.entries log ++ outcome_value outcome ∷ []
one_collect k d outcome back log is each oldest =
    ap (filter_map (outcome_of log)) (collected_own k.opening k.entries d oldest.entry oldest.oldest)
    ∙ filter_map-append (outcome_of log) (collected k.opening d.0 k.entries) (oldest.entry ∷ [])
    ∙ ap (λ given. collected_outcomes k.opening d.0 k.entries log ++ cons_option given []) lasts
  where
    whole : log ≡ k.entries ++ (Collect d ∷ back)
    whole = is ∙ append_assoc k.entries (Collect d ∷ []) back

    lasts : outcome_of log oldest.entry ≡ Some (outcome_value outcome)
    lasts = rw whole (outcome_lasts k.opening k.entries (Collect d ∷ back) d.0 outcome (rw whole at each) oldest)

one_event : (c : ℕ) (k : LogState) (e : Event) (r : Answer) (block back log : List Entry)
    → log ≡ (k.entries ++ block) ++ back → EachAfter (MayFollow k.opening) log → Adds k e r block
    → collected_outcomes k.opening c (k.entries ++ block) log ≡ collected_outcomes k.opening c k.entries log
    ++ cons_option (outcome_given c e r) []
one_event c k e r block back log is each adds = by_gift (gave k e r block adds)
  where
    by_client : (gift : GaveOne k e r block) → ((c == gift.client.0) ≡ true) ⊎ ((c == gift.client.0) ≡ false)
        → collected_outcomes k.opening c (k.entries ++ block) log ≡ collected_outcomes k.opening c k.entries log
        ++ cons_option (outcome_given c e r) []
    by_client gift (inl own) =
        rw (gift.given c, own, gift.is, eqb-true c gift.client.0 own)
        (one_collect k gift.client gift.outcome back log (rw gift.is at is) each gift.oldest)
    by_client gift (inr other) =
        rw (gift.given c, other, append-nil, gift.is)
        (ap (filter_map (outcome_of log)) (collected_other k.opening c k.entries gift.client other))

    by_gift : GaveNothing e r block ⊎ GaveOne k e r block
        → collected_outcomes k.opening c (k.entries ++ block) log ≡ collected_outcomes k.opening c k.entries log
        ++ cons_option (outcome_given c e r) []
    by_gift (inl gift) =
        rw (gift.nothing c, append-nil)
        (ap (filter_map (outcome_of log))
        (collected_block k.opening c k.entries block (front k.opening (k.entries ++ block) back (rw is at each))
        gift.none))
    by_gift (inr gift) = by_client gift (cases_Bool (c == gift.client.0))

first_given : (given : Option OutcomeValue) (later : List OutcomeValue)
    → cons_option given [] ++ later ≡ cons_option given later
first_given None later = refl
first_given (Some x) later = refl

pub collected_once : (old : LogState) (es : List Event) (rs : List Answer) (new : LogState) → Explains old es rs new
    → EachAfter (MayFollow new.opening) new.entries → (c : ℕ)
    → collected_outcomes new.opening c new.entries new.entries
    ≡ collected_outcomes new.opening c old.entries new.entries ++ given_to c es rs
collected_once old [] [] new is each c =
    rw append-nil (ap (λ k. collected_outcomes new.opening c k.entries new.entries) is)
collected_once old [] (r ∷ rs) new is each c = absurd is
collected_once old (e ∷ es) [] new is each c = absurd is
collected_once old (e ∷ es) (r ∷ rs) new is each c =
    collected_once is.0 es rs new is.2 each c ∙ ap (λ l. l ++ given_to c es rs) step
    ∙ append_assoc earlier (cons_option (outcome_given c e r) []) (given_to c es rs)
    ∙ ap (λ l. earlier ++ l) (first_given (outcome_given c e r) (given_to c es rs))
  where
    here : IsAnswered old e r is.0
    here = is.1

    later : (back : List Entry) × (new ≡ grown is.0 back)
    later = explained_grows is.0 es rs new is.2

    whole : new ≡ grown (grown old here.block) later.0
    whole = later.1 ∙ ap (λ k. grown k later.0) here.grows

    opening : new.opening ≡ old.opening
    opening = ap (λ k. k.opening) whole

    earlier : List OutcomeValue
    earlier = collected_outcomes new.opening c old.entries new.entries

    step : collected_outcomes new.opening c is.0.entries new.entries ≡ earlier ++ cons_option (outcome_given c e r) []
    step = rw (opening, ap (λ k. k.entries) here.grows)
        (one_event c old e r here.block later.0 new.entries (ap (λ k. k.entries) whole) (rw opening at each) here.adds)
