-- What holds if a call isn't refused.
use Rattle.rdm_log.proofs.Common.{◌≡◌, ℕ, ◌+◌, ◌<◌, ◌≤◌, Bool, true, false, Option, Some, None, if◌then◌else◌, length}
use Rattle.rdm_log.proofs.Common.{sum, List, refl, nat_le, leb-false, lt-leb, Opening, Entry, Work, is_closed, places}
use Rattle.rdm_log.proofs.Common.{next_client, join_fault, work_fault, work_fault_at}
use Rattle.std.proofs.lemmas.Bool.{ltb-false}
use Rattle.rdm_log.specs.declared.fault.WorkFault.TheVariants.{Closed, UnknownClient, Full}
use Rattle.rdm_log.specs.declared.work.Work.TheVariants.{Submit, Discover}

-- of faults in order, none applies
pub none_stands : {X : Type 0} (b : Bool) (fault : X) (later : Option X) → (if b then Some fault else later) ≡ None
    → (b ≡ false) × (later ≡ None)
none_stands true fault later e = cc
none_stands false fault later e = (refl, e)

-- what no fault of a join says
pub record JoinPasses (o : Opening) (h : List Entry) (n : ℕ) : Type 0 where
  pub not_closed : is_closed o h ≡ false
  pub few_clients : next_client o h < 16
  pub fits : sum (places o h) + n ≤ o.greatest

pub join_passes : (o : Opening) (h : List Entry) (n : ℕ) → join_fault o h n ≡ None → JoinPasses o h n
join_passes o h n e =
    let a = none_stands _ _ _ e in
    let b = none_stands _ _ _ a.1 in
    let c = none_stands _ _ _ b.1 in
    record { not_closed = a.0; few_clients = leb-false _ _ b.0; fits = ltb-false _ _ c.0 }

-- a client's work is refused for neither, or only for the third, of the three faults
pub none_at : (closed : Bool) (ps : List ℕ) (full : Bool) (c : ℕ) → work_fault_at closed ps full c ≡ None
    → (closed ≡ false) × (c < length ps) × (full ≡ false)
none_at closed ps full c e =
    let a = none_stands _ _ _ e in
    let b = none_stands _ _ _ a.1 in
    let d = none_stands _ _ _ b.1 in
    (a.0, leb-false _ _ b.0, d.0)

pub full_at : (closed : Bool) (ps : List ℕ) (full : Bool) (c : ℕ) → work_fault_at closed ps full c ≡ Some Full
    → (closed ≡ false) × (c < length ps) × (full ≡ true)
full_at closed ps full c e = let tests = third closed (nat_le (length ps) c) full e in
    (tests.0, leb-false _ _ tests.1, tests.2)
  where
    third : (closed unknown full : Bool)
        → (if closed then Some Closed else (if unknown then Some UnknownClient else (if full then Some Full else None)))
        ≡ Some Full → (closed ≡ false) × (unknown ≡ false) × (full ≡ true)
    third true unknown full e = cc
    third false true full e = cc
    third false false true e = (refl, refl, refl)
    third false false false e = cc

pub at_full : (closed : Bool) (ps : List ℕ) (full : Bool) (c : ℕ) → closed ≡ false → c < length ps → full ≡ true
    → work_fault_at closed ps full c ≡ Some Full
at_full closed ps full c open_ known is = rw (open_, lt-leb (length ps) c known, is) refl

-- what no fault of a client's work says
pub record WorkPasses (o : Opening) (h : List Entry) (c : ℕ) : Type 0 where
  pub not_closed : is_closed o h ≡ false
  pub known : c < next_client o h

pub work_passes : (o : Opening) (h : List Entry) (c : ℕ) (work : Work) → work_fault o h c work ≡ None
    → WorkPasses o h c
work_passes o h c (Submit request) e =
    let tests = none_at (is_closed o h) (places o h) _ c e in record { not_closed = tests.0; known = tests.1 }
work_passes o h c (Discover kind) e =
    let tests = none_at (is_closed o h) (places o h) _ c e in record { not_closed = tests.0; known = tests.1 }
