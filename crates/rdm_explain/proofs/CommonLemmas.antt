-- Lists, results and orders.
use Rattle.std.proofs.Common.{◌≡◌, List, ◌∷◌, subst, slice_get, IfSome, Result, Ok, Err, IfOk}

-- what holds of a result's value
pub if_ok : {X E : Type 0} (P Q : X → Type 0) (r : Result X E) → ((x : X) → P x → Q x) → IfOk r P → IfOk r Q
if_ok P Q (Ok x) follows is = follows x is
if_ok P Q (Err e) follows is = is

-- the first item of a list that has one
pub first_is : {X : Type 0} (P : X → Type 0) (xs : List X) (x : X) (rest : List X) → xs ≡ x ∷ rest
    → IfSome (slice_get xs 0) P → P x
first_is P xs x rest is first = subst (λ l. IfSome (slice_get l 0) P) is first
