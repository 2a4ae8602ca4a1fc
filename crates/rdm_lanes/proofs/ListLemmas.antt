-- Lists that are filtered and mapped.
use Rattle.rdm_lanes.proofs.Common.{◌≡◌, ℕ, zero, suc, Bool, true, false, cond, List, [], ◌∷◌, map, Option, Some, None}
use Rattle.rdm_lanes.proofs.Common.{refl, slice_get, filter, filter_map, AllByRecursion}

-- nothing is left
pub filter_map_nothing : {X Y : Type 0} (f : X → Option Y) (xs : List X) → AllByRecursion (λ x. f x ≡ None) xs
    → filter_map f xs ≡ []
filter_map_nothing f [] all = refl
filter_map_nothing f (x ∷ xs) all = rw all.0 (filter_map_nothing f xs all.1)

-- what holds of each element holds of each, if it follows
pub all_follow : {X : Type 0} (P Q : X → Type 0) → ((x : X) → P x → Q x) → (xs : List X) → AllByRecursion P xs
    → AllByRecursion Q xs
all_follow P Q f [] all = tt
all_follow P Q f (x ∷ xs) all = (f x all.0, all_follow P Q f xs all.1)

-- what passes stands in the filtered list
pub filter_keeps : {X : Type 0} (p : X → Bool) (xs : List X) (j : ℕ) (x : X) → slice_get xs j ≡ Some x → p x ≡ true
    → (i : ℕ) × (slice_get (filter p xs) i ≡ Some x)
filter_keeps p [] j x at is = absurd (no at)
  where
    no : None ≡ Some x → ⊥
    no e = cc
filter_keeps p (y ∷ xs) zero x at is =
    let same : y ≡ x = cc in
    (0, rw (same, is) refl)
filter_keeps {X} p (y ∷ xs) (suc j) x at is = later (p y) (filter_keeps p xs j x at is)
  where
    later : (b : Bool) → (i : ℕ) × (slice_get (filter p xs) i ≡ Some x) → (i : ℕ)
        × (slice_get (cond b (y ∷ filter p xs) (filter p xs)) i ≡ Some x)
    later true found = (suc found.0, found.1)
    later false found = found

-- maps that agree on the elements
pub map_agree : {X Y : Type 0} (f g : X → Y) (xs : List X) → ((i : ℕ) (x : X) → slice_get xs i ≡ Some x → f x ≡ g x)
    → map f xs ≡ map g xs
map_agree f g [] agree = refl
map_agree {X} {Y} f g (x ∷ xs) agree = both (agree 0 x refl) (map_agree f g xs (λ i y at. agree (suc i) y at))
  where
    both : {a b : Y} {us vs : List Y} → a ≡ b → us ≡ vs → a ∷ us ≡ b ∷ vs
    both p q = rw (p, q) refl
