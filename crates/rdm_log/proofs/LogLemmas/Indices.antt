-- Elements of a list by their indices, and lists with one more at the end.
use Rattle.rdm_log.proofs.Common.{◌≡◌, ℕ, zero, suc, ◌+◌, List, [], ◌∷◌, ◌++◌, length, drop, Option, Some, None}
use Rattle.rdm_log.proofs.Common.{slice_get, ◌<◌, ◌≤◌, Bool, filter, refl, ap, zero-add, suc-add, inl}
use Rattle.rdm_log.proofs.Common.{inr, arith, filter_map, ◌⊎◌, ◌≢◌, AllByRecursion, cons_option, cases_lt}
use Rattle.std.specs.Prelude.{zip}
use Rattle.std.proofs.lemmas.List.{drop_all}

-- what holds of each index holds of all
pub all_from_indices : {X : Type 0} (P : X → Type 0) (xs : List X) → ((i : ℕ) (x : X) → slice_get xs i ≡ Some x → P x)
    → AllByRecursion P xs
all_from_indices P [] at = tt
all_from_indices P (x ∷ xs) at = (at 0 x refl, all_from_indices P xs (λ i y e. at (suc i) y e))

-- and what holds of all holds at each index
pub all_at : {X : Type 0} (P : X → Type 0) (xs : List X) → AllByRecursion P xs → (i : ℕ) (x : X)
    → slice_get xs i ≡ Some x → P x
all_at P [] all i x e = cc
all_at P (y ∷ xs) all zero x e = let same : y ≡ x = cc in rw same at all.0
all_at P (y ∷ xs) all (suc i) x e = all_at P xs all.1 i x e

-- x is the one after xs
pub record IsPushed {X : Type 0} (xs : List X) (y : X) (i : ℕ) (x : X) : Type 0 where
  pub index : i ≡ length xs
  pub is : x ≡ y

-- an index of a list with one more: of the list, or the last
pub slice_get-push : {X : Type 0} (xs : List X) (y : X) (i : ℕ) (x : X) → slice_get (xs ++ y ∷ []) i ≡ Some x
    → (slice_get xs i ≡ Some x) ⊎ IsPushed xs y i x
slice_get-push [] y zero x e = inr (record { index = refl; is = cc })
slice_get-push [] y (suc i) x e = cc
slice_get-push (z ∷ xs) y zero x e = inl e
slice_get-push {X} (z ∷ xs) y (suc i) x e = onward (slice_get-push xs y i x e)
  where
    onward : (slice_get xs i ≡ Some x) ⊎ IsPushed xs y i x → (slice_get xs i ≡ Some x) ⊎ IsPushed (z ∷ xs) y (suc i) x
    onward (inl before) = inl before
    onward (inr last) = inr (record { index = ap suc last.index; is = last.is })

-- an index of a list is the same index of a longer one
pub slice_get-append_left : {X : Type 0} (xs ys : List X) (i : ℕ) (x : X) → slice_get xs i ≡ Some x
    → slice_get (xs ++ ys) i ≡ Some x
slice_get-append_left [] ys i x e = cc
slice_get-append_left (z ∷ xs) ys zero x e = e
slice_get-append_left (z ∷ xs) ys (suc i) x e = slice_get-append_left xs ys i x e

-- an index after the first n
pub slice_get-drop : {X : Type 0} (n : ℕ) (xs : List X) (i : ℕ) → slice_get (drop n xs) i ≡ slice_get xs (n + i)
slice_get-drop zero xs i = rw zero-add refl
slice_get-drop (suc n) [] i = refl
slice_get-drop (suc n) (x ∷ xs) i = rw suc-add (slice_get-drop n xs i)

-- a list with a first element
pub slice_get_first : {X : Type 0} (xs : List X) (x : X) → slice_get xs 0 ≡ Some x → xs ≡ x ∷ drop 1 xs
slice_get_first [] x e = cc
slice_get_first (y ∷ xs) x e = let same : y ≡ x = cc in rw same refl

-- pairs of lists of one length, where one grows or both
pub zip_first_more : {X Y : Type 0} (xs : List X) (ys : List Y) (x : X) → length xs ≡ length ys
    → zip (xs ++ x ∷ []) ys ≡ zip xs ys
zip_first_more [] [] x e = refl
zip_first_more [] (y ∷ ys) x e = absurd (omega arith)
zip_first_more (z ∷ xs) [] x e = absurd (omega arith)
zip_first_more (z ∷ xs) (y ∷ ys) x e = ap (λ l. (z, y) ∷ l) (zip_first_more xs ys x (omega arith))

pub zip_both_more : {X Y : Type 0} (xs : List X) (ys : List Y) (x : X) (y : Y) → length xs ≡ length ys
    → zip (xs ++ x ∷ []) (ys ++ y ∷ []) ≡ zip xs ys ++ (x, y) ∷ []
zip_both_more [] [] x y e = refl
zip_both_more [] (z ∷ ys) x y e = absurd (omega arith)
zip_both_more (z ∷ xs) [] x y e = absurd (omega arith)
zip_both_more (z ∷ xs) (w ∷ ys) x y e = ap (λ l. (z, w) ∷ l) (zip_both_more xs ys x y (omega arith))

-- what holds at each index of a list and of one more at its end
pub each_index_push : {X : Type 0} (P : ℕ → X → Type 0) (xs : List X) (x : X)
    → ((i : ℕ) (y : X) → slice_get xs i ≡ Some y → P i y) → P (length xs) x → (i : ℕ) (y : X)
    → slice_get (xs ++ x ∷ []) i ≡ Some y → P i y
each_index_push {X} P xs x each last i y at = by_index (slice_get-push xs x i y at)
  where
    by_index : (slice_get xs i ≡ Some y) ⊎ IsPushed xs x i y → P i y
    by_index (inl before) = each i y before
    by_index (inr pushed) = rw (pushed.index, pushed.is) last

-- within a list, more after it changes no index
pub slice_get_append_within : {X : Type 0} (xs ys : List X) (i : ℕ) → i < length xs
    → slice_get (xs ++ ys) i ≡ slice_get xs i
slice_get_append_within [] ys i within = absurd (omega arith)
slice_get_append_within (x ∷ xs) ys zero within = refl
slice_get_append_within (x ∷ xs) ys (suc i) within = slice_get_append_within xs ys i (omega arith)

-- the projection of a list contains each element's
pub filter_map_has : {X Y : Type 0} (f : X → Option Y) (xs : List X) (i : ℕ) (x : X) (y : Y) → slice_get xs i ≡ Some x
    → f x ≡ Some y → (j : ℕ) × (slice_get (filter_map f xs) j ≡ Some y)
filter_map_has f [] i x y at is = cc
filter_map_has f (z ∷ xs) zero x y at is = let same : z ≡ x = cc in (0, rw (same, is) refl)
filter_map_has {X} {Y} f (z ∷ xs) (suc i) x y at is = onward (f z) (filter_map_has f xs i x y at is)
  where
    onward : (o : Option Y) → (j : ℕ) × (slice_get (filter_map f xs) j ≡ Some y) → (j : ℕ)
        × (slice_get (cons_option o (filter_map f xs)) j ≡ Some y)
    onward None found = found
    onward (Some w) found = (suc found.0, found.1)

-- tests that agree on a list pass the same of it
pub filter_agree_on : {X : Type 0} (p q : X → Bool) (xs : List X)
    → ((i : ℕ) (x : X) → slice_get xs i ≡ Some x → p x ≡ q x) → filter p xs ≡ filter q xs
filter_agree_on p q [] agree = refl
filter_agree_on p q (x ∷ xs) agree = rw (agree 0 x refl, filter_agree_on p q xs (λ i y at. agree (suc i) y at)) refl

-- past a part that isn't all of the list
pub drop_some_within : {X : Type 0} (n : ℕ) (xs : List X) → drop n xs ≢ [] → n < length xs
drop_some_within n xs some = by_length (cases_lt n (length xs))
  where
    by_length : (n < length xs) ⊎ (length xs ≤ n) → n < length xs
    by_length (inl within) = within
    by_length (inr past) = absurd (some (drop_all n xs past))

-- an index that holds something is within the list
pub index_within : {X : Type 0} (xs : List X) (i : ℕ) (x : X) → slice_get xs i ≡ Some x → i < length xs
index_within [] i x at = cc
index_within (y ∷ xs) zero x at = omega arith
index_within (y ∷ xs) (suc i) x at = let rest = index_within xs i x at in omega arith

pub within_some : {X : Type 0} (xs : List X) (i : ℕ) → i < length xs → slice_get xs i ≡ None → ⊥
within_some [] i within none = omega arith
within_some (x ∷ xs) zero within none = cc
within_some (x ∷ xs) (suc i) within none = within_some xs i (omega arith) none
