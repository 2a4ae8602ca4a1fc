-- How a client counts what it sends and gets.
use Rattle.rdm_lanes.proofs.Common.{◌≡◌, ℕ, ◌+◌, ◌<◌, Bool, true, false, List, [], ◌∷◌, ◌++◌, length, drop, refl, sym}
use Rattle.rdm_lanes.proofs.Common.{ap, ◌∙◌, length-append, append-nil, arith, filter, filter-append, length-map}
use Rattle.rdm_lanes.proofs.Common.{map-append, Global, Producer, Consumer, ClientCall, Request, Kind, OutcomeValue}
use Rattle.rdm_lanes.proofs.Common.{Held, Submit, Discover, Leave, RingOutcome, Discovery, HoldsFor}
use Rattle.rdm_lanes.proofs.Common.{is_work, work_in, value_in, values_in, IsCounted}
use Rattle.rtrb.specs.Ring.{sent as pushed}
use Rattle.rdm_client.specs.Desks.{without_oldest}
use Rattle.rdm_lanes.specs.declared.ring_outcome.RingOutcome.TheVariants.{Request as RequestDone}
use Rattle.rdm_lanes.specs.Callbacks.{is_submit, is_discover, is_of_request, is_of_discovery, HoldsItsOwn}
use Rattle.rdm_lanes.specs.Told.{outcome_in}

-- an item more in a ring
pub work_more : (xs : List ClientCall) (x : ClientCall) → is_work x ≡ true
    → work_in (xs ++ x ∷ []) ≡ work_in xs ++ x ∷ []
unfolding work_in
work_more xs x is = filter-append is_work xs (x ∷ []) ∙ rw is refl

pub leave_more : (xs : List ClientCall) → work_in (xs ++ Leave ∷ []) ≡ work_in xs
unfolding work_in
leave_more xs = filter-append is_work xs (Leave ∷ []) ∙ append-nil (filter is_work xs)

pub values_long : (xs : List RingOutcome) → length (values_in xs) ≡ length xs
unfolding values_in
values_long xs = length-map xs value_in

-- an outcome more
without_one : {X : Type 0} (xs : List X) → 0 < length xs → length (drop 1 xs) + 1 ≡ length xs
without_one [] some = absurd (omega (arith, some))
without_one (x ∷ xs) some = omega arith

pub value_more : (items : List RingOutcome) (item : RingOutcome)
    → values_in (items ++ item ∷ []) ≡ values_in items ++ value_in item ∷ []
unfolding values_in
value_more items item = map-append value_in items (item ∷ [])

got_more : (of : OutcomeValue → Bool) (items : List RingOutcome) (item : RingOutcome)
    → length (filter of (values_in (items ++ item ∷ [])))
    ≡ length (filter of (values_in items)) + length (filter of (value_in item ∷ []))
got_more of items item =
    ap (λ (vs : List OutcomeValue). length (filter of vs)) (value_more items item)
    ∙ ap length (filter-append of (values_in items) (value_in item ∷ []))
    ∙ length-append (filter of (values_in items)) (filter of (value_in item ∷ []))

-- the callbacks that are held, after a call more
module _ {C A : Type 0} where
  pub own_submitted : (old new : List ClientCall) (got : List OutcomeValue) (requests : List C) (asks : List A)
      (callback : C) (request : Request) → new ≡ old ++ Submit request ∷ []
      → HoldsItsOwn (work_in old) got requests asks → HoldsItsOwn (work_in new) got (requests ++ callback ∷ []) asks
  own_submitted old new got requests asks callback request is own =
      let grown : work_in new ≡ work_in old ++ Submit request ∷ [] = ap work_in is
      ∙ work_more old (Submit request) refl in
      let mine = ap length (ap (filter is_submit) grown ∙ filter-append is_submit (work_in old) (Submit request ∷ []))
      ∙ length-append (filter is_submit (work_in old)) (Submit request ∷ []) in
      let other = ap length
      (ap (filter is_discover) grown ∙ filter-append is_discover (work_in old) (Submit request ∷ [])
      ∙ append-nil (filter is_discover (work_in old))) in
      record {
        requests_are = omega (arith, mine, own.requests_are, length-append requests (callback ∷ []));
        asks_are = other ∙ own.asks_are;
      }

  pub own_asked : (old new : List ClientCall) (got : List OutcomeValue) (requests : List C) (asks : List A)
      (callback : A) (kind : Kind) → new ≡ old ++ Discover kind ∷ []
      → HoldsItsOwn (work_in old) got requests asks → HoldsItsOwn (work_in new) got requests (asks ++ callback ∷ [])
  own_asked old new got requests asks callback kind is own =
      let grown : work_in new ≡ work_in old ++ Discover kind ∷ [] = ap work_in is
      ∙ work_more old (Discover kind) refl in
      let mine = ap length
      (ap (filter is_discover) grown ∙ filter-append is_discover (work_in old) (Discover kind ∷ []))
      ∙ length-append (filter is_discover (work_in old)) (Discover kind ∷ []) in
      let other = ap length
      (ap (filter is_submit) grown ∙ filter-append is_submit (work_in old) (Discover kind ∷ [])
      ∙ append-nil (filter is_submit (work_in old))) in
      record {
        requests_are = other ∙ own.requests_are;
        asks_are = omega (arith, mine, own.asks_are, length-append asks (callback ∷ []));
      }

  -- and after an outcome more
  pub own_more : (wanted : Bool) (calls : List ClientCall) (items : List RingOutcome) (item : RingOutcome)
      (desk : Held C A) → HoldsFor wanted desk item → HoldsItsOwn calls (values_in items) desk.requests desk.asks
      → HoldsItsOwn calls (values_in (items ++ item ∷ [])) (without_oldest desk (outcome_in item)).requests
      (without_oldest desk (outcome_in item)).asks
  own_more wanted calls items (RequestDone number done) desk held own =
      let requests = got_more is_of_request items (RequestDone number done) in
      let asks = got_more is_of_discovery items (RequestDone number done) in
      record {
        requests_are = omega (arith, requests, own.requests_are, without_one desk.requests held);
        asks_are = omega (arith, asks, own.asks_are);
      }
  own_more wanted calls items (Discovery number done) desk held own =
      let requests = got_more is_of_request items (Discovery number done) in
      let asks = got_more is_of_discovery items (Discovery number done) in
      record {
        requests_are = omega (arith, requests, own.requests_are);
        asks_are = omega (arith, asks, own.asks_are, without_one desk.asks held.1);
      }

  -- at first
  pub own_nothing : (calls : List ClientCall) (items : List RingOutcome) (requests : List C) (asks : List A)
      → calls ≡ [] → items ≡ [] → requests ≡ [] → asks ≡ []
      → HoldsItsOwn (work_in calls) (values_in items) requests asks
  unfolding work_in values_in
  own_nothing calls items requests asks none nothing no_requests no_asks =
      rw (none, nothing, no_requests, no_asks) (record { requests_are = refl; asks_are = refl })

module _ {P Q : Type 0} where
  pub counted_sent : (old new : Producer ClientCall Global P) (replies : Consumer RingOutcome Global Q)
      (sent collected : ℕ) (left : Bool) (x : ClientCall)
      → IsCounted old replies sent collected left → left ≡ false → pushed new ≡ pushed old ++ x ∷ [] → is_work x ≡ true
      → IsCounted new replies (sent + 1) collected left
  counted_sent old new replies sent collected left x is stays more work = record {
    sent_is =
        let grown : work_in (pushed new) ≡ work_in (pushed old) ++ x ∷ [] = ap work_in more
        ∙ work_more (pushed old) x work in
        let long : length (work_in (pushed new)) ≡ length (work_in (pushed old)) + 1 = ap length grown
        ∙ length-append (work_in (pushed old)) (x ∷ []) in
        omega (arith, is.sent_is);
    collected_is = is.collected_is;
    leave_is_last =
        let before : pushed old ≡ work_in (pushed old) = is.leave_is_last
        ∙ rw stays (append-nil (work_in (pushed old))) in
        rw (stays, append-nil (work_in (pushed new)))
        (more ∙ ap (λ (xs : List ClientCall). xs ++ x ∷ []) before
        ∙ sym (ap work_in more ∙ work_more (pushed old) x work));
  }

  pub counted_leave : (old new : Producer ClientCall Global P) (replies : Consumer RingOutcome Global Q)
      (sent collected : ℕ) (left : Bool)
      → IsCounted old replies sent collected left → left ≡ false → pushed new ≡ pushed old ++ Leave ∷ []
      → IsCounted new replies sent collected true
  counted_leave old new replies sent collected left is stays more = record {
    sent_is = is.sent_is ∙ ap length (sym (ap work_in more ∙ leave_more (pushed old)));
    collected_is = is.collected_is;
    leave_is_last =
        let before : pushed old ≡ work_in (pushed old) = is.leave_is_last
        ∙ rw stays (append-nil (work_in (pushed old))) in
        more ∙ ap (λ (xs : List ClientCall). xs ++ Leave ∷ [])
        (before ∙ sym (ap work_in more ∙ leave_more (pushed old)));
  }
