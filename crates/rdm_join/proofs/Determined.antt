-- The result as a function and as a relation.
use Rattle.std.proofs.Common.{◌≡◌, ℕ, zero, suc, ◌<◌, List, [], ◌∷◌, ◌++◌, take, Option, Some, None, refl, sym, ap, ◌∙◌}
use Rattle.std.proofs.Common.{append_assoc, arith}
use Rattle.std.proofs.lemmas.List.{append-nil}
use Rattle.std.proofs.lemmas.Option.{none-some}
use Rattle.std.specs.Prelude.{slice_get}
use Rattle.rdm_join.specs.Result.{Joined, result_of, result_after, or_if_open, decides, decides_option, IsResult}
use Rattle.rdm_join.specs.declared.verdict.Judged.{Judged}

-- what position i of vs decides after some others
abbrev decided_after : List Judged → List Judged → ℕ → Option Joined
decided_after before [] i = None
decided_after before (v ∷ vs) zero = decides before v
decided_after before (v ∷ vs) (suc i) = decided_after (before ++ v ∷ []) vs i

-- the first position that decides something
record IsFirst (before vs : List Judged) (j : Joined) : Type 0 where
  at : ℕ
  here : decided_after before vs at ≡ Some j
  earlier : (i : ℕ) → i < at → decided_after before vs i ≡ None

-- the first position that decides is the result, and the other way round
to_first : (before vs : List Judged) (j : Joined) → result_after before vs ≡ Some j → IsFirst before vs j
to_first before [] j e = absurd (none-some j e)
to_first before (v ∷ vs) j e = by_head (decides before v) refl e (to_first (before ++ v ∷ []) vs j)
  where
    by_head : (o : Option Joined) → decides before v ≡ o → or_if_open o (result_after (before ++ v ∷ []) vs) ≡ Some j
        → (result_after (before ++ v ∷ []) vs ≡ Some j → IsFirst (before ++ v ∷ []) vs j) → IsFirst before (v ∷ vs) j
    by_head (Some k) p q later = record { at = 0; here = p ∙ q; earlier = λ i below. absurd (none_below i below) }
      where
        none_below : (i : ℕ) → i < 0 → ⊥
        none_below i h = omega arith
    by_head None p q later =
        let r = later q in record { at = suc r.at; here = r.here; earlier = before_it r.at r.earlier }
      where
        before_it : (n : ℕ) → ((i : ℕ) → i < n → decided_after (before ++ v ∷ []) vs i ≡ None) → (i : ℕ) → i < suc n
            → decided_after before (v ∷ vs) i ≡ None
        before_it n all zero below = p
        before_it n all (suc i) below = all i (omega arith)

from_first : (before vs : List Judged) (j : Joined) (n : ℕ) → decided_after before vs n ≡ Some j
    → ((i : ℕ) → i < n → decided_after before vs i ≡ None) → result_after before vs ≡ Some j
from_first before [] j n here earlier = absurd (none-some j here)
from_first before (v ∷ vs) j zero here earlier = rw here refl
from_first before (v ∷ vs) j (suc n) here earlier =
    rw (earlier 0 (omega arith)) (from_first (before ++ v ∷ []) vs j n here (λ i below. earlier (suc i) (omega arith)))

-- a position of the whole list
at_position : (before vs : List Judged) (i : ℕ)
    → decides_option (before ++ take i vs) (slice_get vs i) ≡ decided_after before vs i
at_position before [] i = refl
at_position before (v ∷ vs) zero = ap (λ l. decides l v) (append-nil before)
at_position before (v ∷ vs) (suc i) =
    ap (λ l. decides_option l (slice_get vs i)) (sym (append_assoc before (v ∷ []) (take i vs)))
    ∙ at_position (before ++ v ∷ []) vs i

-- the result's position, and the result of a position
pub meets : (vs : List Judged) (j : Joined) → result_of vs ≡ Some j → IsResult vs j
meets vs j e = let f = to_first [] vs j e in record {
  at = f.at;
  here = at_position [] vs f.at ∙ f.here;
  earlier = λ i below. at_position [] vs i ∙ f.earlier i below;
}

pub only : (vs : List Judged) (j : Joined) → IsResult vs j → result_of vs ≡ Some j
only vs j r =
    from_first [] vs j r.at (sym (at_position [] vs r.at) ∙ r.here)
    (λ i below. sym (at_position [] vs i) ∙ r.earlier i below)
