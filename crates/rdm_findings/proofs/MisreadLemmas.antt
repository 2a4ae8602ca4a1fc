-- The first exchange that misread a UID.
use Rattle.std.proofs.Common.{◌≡◌, ℕ, ◌+◌, ◌<◌, Bool, true, false, List, [], ◌∷◌, ◌++◌, Some, None, length, take}
use Rattle.std.proofs.Common.{arith, refl, sym, ap, ◌∙◌, get_or}
use Rattle.std.specs.Prelude.{if◌then◌else◌}
use Rattle.std.specs.List.{position, position_from}
use Rattle.std.proofs.lemmas.Grind.{common_steps}
use Rattle.std.proofs.lemmas.List.{take_more}
use Rattle.std.proofs.lemmas.Iterator.Adapters.{position_from-zero}
use Rattle.rdm_findings.specs.DeviceText.{first_number}

-- the first place of a list with one more element
from_push : {X : Type 0} (p : X → Bool) (i : ℕ) (xs : List X) (x : X) → position_from p i (xs ++ x ∷ [])
    ≡ first_number (position_from p i xs) (if p x then Some (i + length xs) else None)
from_push p i [] x = by (p x)
  where
    by : (b : Bool) → (if b then Some i else None) ≡ (if b then Some (i + 0) else None)
    by b = grind arith
from_push {X} p i (y ∷ xs) x = by (p y) (from_push p (i + 1) xs x)
  where
    by : (b : Bool) → position_from p (i + 1) (xs ++ x ∷ [])
        ≡ first_number (position_from p (i + 1) xs) (if p x then Some (i + 1 + length xs) else None)
        → (if b then Some i else position_from p (i + 1) (xs ++ x ∷ []))
        ≡ first_number (if b then Some i else position_from p (i + 1) xs)
        (if p x then Some (i + length (y ∷ xs)) else None)
    by true rest = refl
    by false rest = grind (arith, rest)

-- the same of a run with one more exchange
pub position_more : {X : Type 0} (p : X → Bool) (xs : List X) (i : ℕ) (x : X) → i < length xs → x ≡ get_or xs i x
    → position p (take (i + 1) xs) ≡ first_number (position p (take i xs)) (if p x then Some i else None)
position_more p xs i x within read =
    ap (position p) (take_more xs i x within ∙ ap (λ y. take i xs ++ y ∷ []) (sym read))
    ∙ position_from-zero p (take i xs ++ x ∷ []) ∙ from_push p 0 (take i xs) x
    ∙ ap (λ o. first_number o (if p x then Some (0 + length (take i xs)) else None))
    (sym (position_from-zero p (take i xs)))
    ∙ ap (λ n. first_number (position p (take i xs)) (if p x then Some n else None))
    (grind (arith, common_steps, within))
