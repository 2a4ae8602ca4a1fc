-- A decided result, and what a request with it is finished with.
use Rattle.rdm_queue.proofs.Common.{◌≡◌, ◌<◌, Bool, true, false, List, [], ◌∷◌, ◌++◌, length, Option, Some, None, refl}
use Rattle.rdm_queue.proofs.Common.{ap, ◌∙◌, inl, inr, arith, ◌≢◌, if◌then◌else◌, Status, Judged, Joined, ended}
use Rattle.rdm_queue.proofs.Common.{result_of, or_if_open, FitsResult, completion_of, GivesResult}
use Rattle.rdm_join.specs.declared.status.Status.TheVariants.{Completed, InvalidResponse}
use Rattle.rdm_join.specs.declared.verdict.Judged.TheVariants.{Whole, Part, Ended}
use Rattle.rdm_join.specs.Result.{decides, result_after, joined_data, head_of}

-- a result is its own completion: only status Completed has data
abbrev IsComplete : Joined → Type 0
IsComplete j = j ≡ completion_of j.status (Some j)

ended_complete : (s : Status) → IsComplete (ended s)
ended_complete Completed = refl
ended_complete s = refl

chosen_complete : (b : Bool) (j k : Joined) → IsComplete k
    → (if b then Some (ended InvalidResponse) else Some k) ≡ Some j → IsComplete j
chosen_complete true j k complete is = let same : ended InvalidResponse ≡ j = cc in rw (← same) refl
chosen_complete false j k complete is = let same : k ≡ j = cc in rw (← same) complete

part_complete : (b : Bool) (j : Joined) → (if b then Some (ended InvalidResponse) else None) ≡ Some j → IsComplete j
part_complete true j is = let same : ended InvalidResponse ≡ j = cc in rw (← same) refl
part_complete false j is = absurd (no is)
  where
    no : None ≡ Some j → ⊥
    no h = cc

decided_complete : (before : List Judged) (v : Judged) (j : Joined) → decides before v ≡ Some j → IsComplete j
decided_complete before (Ended s) j is = let same : ended s ≡ j = cc in rw (← same) (ended_complete s)
decided_complete before (Whole r) j is =
    chosen_complete _ j
    (record { status = Completed; data_ = joined_data before ++ r.param.items; head = Some (head_of r) }) refl is
decided_complete before (Part r) j is = part_complete _ j is

after_complete : (before vs : List Judged) (j : Joined) → result_after before vs ≡ Some j → IsComplete j
after_complete before [] j is = absurd (no is)
  where
    no : None ≡ Some j → ⊥
    no h = cc
after_complete before (v ∷ vs) j is = by_first (decides before v) refl is (after_complete (before ++ v ∷ []) vs j)
  where
    by_first : (o : Option Joined) → decides before v ≡ o → or_if_open o (result_after (before ++ v ∷ []) vs) ≡ Some j
        → (result_after (before ++ v ∷ []) vs ≡ Some j → IsComplete j) → IsComplete j
    by_first (Some k) here at rest = decided_complete before v j (here ∙ at)
    by_first None here at rest = rest at

pub result_complete : (vs : List Judged) (j : Joined) → result_of vs ≡ Some j → IsComplete j
result_complete vs j is = after_complete [] vs j is

-- what is returned for a result is its completion, and fits
pub gives_complete : (j done : Joined) → IsComplete j → GivesResult j done → done ≡ completion_of done.status (Some j)
gives_complete j done complete (inl same) = rw same complete
gives_complete j done complete (inr wanted) = rw wanted.0 refl

has_data : (j : Joined) → IsComplete j → 0 < length j.data_ → j.status ≡ Completed
has_data j complete some = by_status j.status complete
  where
    empty : (s : Status) → j ≡ ended s → ⊥
    empty s is = none (ap (λ (k : Joined). length k.data_) is) some
      where
        none : length j.data_ ≡ 0 → 0 < length j.data_ → ⊥
        none p q = omega arith

    by_status : (s : Status) → j ≡ completion_of s (Some j) → s ≡ Completed
    by_status Completed is = refl
    by_status s is = absurd (empty s is)

pub gives_fits : (closing : Type 0) (j done : Joined) → IsComplete j → GivesResult j done
    → FitsResult closing (Some j) done.status (length done.data_)
gives_fits closing j done complete (inl same) =
    inl (ap (λ (k : Joined). k.status) same, ap (λ (k : Joined). length k.data_) same)
gives_fits closing j done complete (inr wanted) =
    inr (
      ap (λ (k : Joined). k.status) wanted.0,
      has_data j complete wanted.1,
      some,
      ap (λ (k : Joined). length k.data_) wanted.0,
    )
  where
    some : j.data_ ≢ []
    some none = no (ap length none) wanted.1
      where
        no : length j.data_ ≡ 0 → 0 < length j.data_ → ⊥
        no p q = omega arith
