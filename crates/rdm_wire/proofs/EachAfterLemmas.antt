-- A fact of each element and those before it, as a list grows.
use Rattle.std.proofs.Common.{◌≡◌, List, [], ◌∷◌, ◌++◌, refl, sym, ap, ◌∙◌, subst, inl, inr, append_assoc}
use Rattle.std.specs.Prelude.{◌⊎◌}
use Rattle.rdm_wire.specs.Lists.{EachAfter}

abbrev head_or : {X : Type 0} → X → List X → X
head_or d [] = d
head_or d (x ∷ xs) = x

abbrev tail_of : {X : Type 0} → List X → List X
tail_of [] = []
tail_of (x ∷ xs) = xs

-- where x stands in xs with e at its end
pub record IsLast {X : Type 0} (xs : List X) (e : X) (front : List X) (x : X) : Type 0 where
  pub front_is : front ≡ xs
  pub is : x ≡ e

pub no_element : {X : Type 0} (front back : List X) (x : X) → [] ≡ front ++ x ∷ back → ⊥
no_element [] back x h = cc
no_element (f ∷ front) back x h = cc

last_or_before : {X : Type 0} (xs front back : List X) (e x : X) → xs ++ e ∷ [] ≡ front ++ x ∷ back
    → IsLast xs e front x
    ⊎ ((rest : List X) × (xs ≡ front ++ x ∷ rest))
last_or_before [] [] back e x w = inl (record { front_is = refl; is = sym (ap (head_or e) w) })
last_or_before [] (f ∷ front) back e x w = absurd (no_element front back x (ap tail_of w))
last_or_before (a ∷ xs) [] back e x w = inr (xs, ap (λ y. y ∷ xs) (ap (head_or a) w))
last_or_before {X} (a ∷ xs) (f ∷ front) back e x w = onward (last_or_before xs front back e x (ap tail_of w))
  where
    first : f ≡ a
    first = sym (ap (head_or a) w)

    onward : IsLast xs e front x ⊎ ((rest : List X) × (xs ≡ front ++ x ∷ rest)) → IsLast (a ∷ xs) e (f ∷ front) x
        ⊎ ((rest : List X) × (a ∷ xs ≡ f ∷ front ++ x ∷ rest))
    onward (inl last) = inl (record {
      front_is = ap (λ y. y ∷ front) first ∙ ap (λ l. a ∷ l) last.front_is;
      is = last.is;
    })
    onward (inr inner) = inr (inner.0, ap (λ y. y ∷ xs) (sym first) ∙ ap (λ l. f ∷ l) inner.1)

-- it holds of a list with one more, where it holds of the list and of the one after it
pub EachAfter-push : {X : Type 0} (P : List X → X → Type 0) (xs : List X) (e : X) → EachAfter P xs → P xs e
    → EachAfter P (xs ++ e ∷ [])
EachAfter-push {X} P xs e all last = λ front back x w. of_either front x (last_or_before xs front back e x w)
  where
    of_either : (front : List X) (x : X) → IsLast xs e front x ⊎ ((rest : List X) × (xs ≡ front ++ x ∷ rest))
        → P front x
    of_either front x (inl l) = subst (λ f. P f x) (sym l.front_is) (subst (λ y. P xs y) (sym l.is) last)
    of_either front x (inr inner) = all front inner.0 x inner.1

-- it holds of a front of the list
pub EachAfter-front : {X : Type 0} (P : List X → X → Type 0) (xs ys : List X) → EachAfter P (xs ++ ys) → EachAfter P xs
EachAfter-front P xs ys all =
    λ front back x w. all front (back ++ ys) x (ap (λ l. l ++ ys) w ∙ append_assoc front (x ∷ back) ys)
