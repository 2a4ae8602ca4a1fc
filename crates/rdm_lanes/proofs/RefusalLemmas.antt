-- Why a call is refused that may be made.
use Rattle.rdm_lanes.proofs.Common.{◌≡◌, ℕ, ◌<◌, ◌≤◌, Bool, true, false, true≢false, List, [], ◌∷◌, length, Some, None}
use Rattle.rdm_lanes.proofs.Common.{refl, sym, slice_get, arith, Result, Ok, Err, ◌||◌, nat_le, slice_index}
use Rattle.rdm_lanes.proofs.Common.{if◌then◌else◌, MatchBool, nat_tests, slice_get_within, get_or_from_slice_get}
use Rattle.rdm_lanes.proofs.Common.{ClientId, Opening, Entry, outstanding_requests, outstanding_discoveries, Work}
use Rattle.rdm_lanes.proofs.Common.{WorkFault, is_closed, places, next_request, next_ask, work_fault_at, LogState}
use Rattle.rdm_lanes.proofs.Common.{is_full_log, GrowsBy, WorkAdds, WorkLogs, Lane, FitsBut, HasRefusalSlot, MayMake}
use Rattle.rdm_log.specs.declared.fault.WorkFault.TheVariants as work_faults
use Rattle.rdm_log.specs.declared.work.Work.TheVariants.{Submit, Discover}
use Rattle.rdm_lanes.specs.body.Serving.{bringing}
use Rattle.rdm_lanes.proofs.LineLemmas.{AllRightly}
use Rattle.rdm_lanes.proofs.FitLemmas.{work_adds}

-- a call that may be made is refused only by a close, or where the numbers have run out
not_at_most : (m n : ℕ) → n < m → nat_le m n ≡ true → ⊥
not_at_most m n less is = absurd (omega (arith, less, at_most m n is))
  where
    at_most : (m n : ℕ) → nat_le m n ≡ true → m ≤ n
    at_most m n is = grind (arith, nat_tests)

work_cause : (b : Bool) (ps : List ℕ) (full : Bool) (c mine : ℕ) (fault : WorkFault) → slice_get ps c ≡ Some mine
    → work_fault_at b ps full c ≡ Some fault → (b || full) ≡ true
work_cause true ps full c mine fault known is = refl
work_cause false ps full c mine fault known is = by_tests (nat_le (length ps) c) full refl is
  where
    by_tests : (x y : Bool) → nat_le (length ps) c ≡ x
        → (if x then Some work_faults.UnknownClient else (if y then Some work_faults.Full else None)) ≡ Some fault
        → y ≡ true
    by_tests true y p e = absurd (not_at_most (length ps) c (slice_get_within ps c mine known) p)
    by_tests false true p e = refl
    by_tests false false p e = cc

-- with capacity left, only the numbers can have run out
run_out : (b : Bool) (most outstanding : ℕ) (ended : Bool) (when_closed : Type 0)
    → MatchBool b when_closed (outstanding < most) → (b || (nat_le most outstanding || ended)) ≡ true
    → (b || ended) ≡ true
run_out true most outstanding ended when_closed may is = refl
run_out false most outstanding ended when_closed may is = by_test (nat_le most outstanding) refl is
  where
    by_test : (x : Bool) → nat_le most outstanding ≡ x → (x || ended) ≡ true → ended ≡ true
    by_test true e is = absurd (not_at_most most outstanding may e)
    by_test false e is = is

or_sooner : (b x y : Bool) → (b || x) ≡ true → (b || (x || y)) ≡ true
or_sooner true x y e = refl
or_sooner false true y e = refl
or_sooner false false y e = absurd (true≢false (sym e))

or_later : (b x y : Bool) → (b || y) ≡ true → (b || (x || y)) ≡ true
or_later true x y e = refl
or_later false true y e = refl
or_later false false y e = e

work_rightly : (k : LogState) (d : ClientId) (work : Work) (lane : Lane) (r : Result ℕ WorkFault) (block : List Entry)
    → slice_get (places k.opening k.entries) d.0 ≡ Some lane.places → FitsBut (bringing work ∷ []) d.0 k lane
    → MayMake d.0 k lane (bringing work) → WorkAdds k.opening k.entries d work r block
    → AllRightly k.opening k.entries block
work_rightly k d (Submit request) lane (Ok n) block known f may adds = rw adds.2 (tt, tt)
work_rightly k d (Discover kind) lane (Ok n) block known f may adds = rw adds.2 (tt, tt)
work_rightly k d (Submit request) lane (Err fault) block known f may adds =
    rw adds.1 (
      or_sooner (is_closed o h) (nat_le 18446744073709551615 (next_request o h))
          (nat_le 18446744073709551614 (next_ask o h))
          (run_out (is_closed o h) (slice_index (places o h) d.0) (outstanding_requests o d.0 h)
          (nat_le 18446744073709551615 (next_request o h)) (HasRefusalSlot d.0 k lane) enough
          (work_cause (is_closed o h) (places o h) (nat_le (slice_index (places o h) d.0) (outstanding_requests o d.0 h)
          || nat_le 18446744073709551615 (next_request o h)) d.0 lane.places fault known adds.0)),
      tt,
    )
  where
    o : Opening
    o = k.opening

    h : List Entry
    h = k.entries

    enough : MatchBool (is_closed o h) (HasRefusalSlot d.0 k lane)
        (outstanding_requests o d.0 h < slice_index (places o h) d.0)
    enough = rw (get_or_from_slice_get (places o h) d.0 lane.places 0 known, sym f.requests_are) may
work_rightly k d (Discover kind) lane (Err fault) block known f may adds =
    rw adds.1 (
      or_later (is_closed o h) (nat_le 18446744073709551615 (next_request o h))
          (nat_le 18446744073709551614 (next_ask o h))
          (run_out (is_closed o h) 4 (outstanding_discoveries o d.0 h) (nat_le 18446744073709551614 (next_ask o h))
          (HasRefusalSlot d.0 k lane) (rw f.asks_are at may)
          (work_cause (is_closed o h) (places o h) (nat_le 4 (outstanding_discoveries o d.0 h)
          || nat_le 18446744073709551614 (next_ask o h)) d.0 lane.places fault known adds.0)),
      tt,
    )
  where
    o : Opening
    o = k.opening

    h : List Entry
    h = k.entries

pub works_rightly : (old new : LogState) (d : ClientId) (work : Work) (lane : Lane) (r : Result ℕ WorkFault)
    (g : GrowsBy old (WorkLogs old d work r) new) → is_full_log old ≡ false
    → slice_get (places old.opening old.entries) d.0 ≡ Some lane.places → MayMake d.0 old lane (bringing work)
    → FitsBut (bringing work ∷ []) d.0 old lane → AllRightly old.opening old.entries g.block
works_rightly old new d work lane r g free known may f =
    work_rightly old d work lane r g.block known f may (work_adds old d work r g.block free g.adds)
