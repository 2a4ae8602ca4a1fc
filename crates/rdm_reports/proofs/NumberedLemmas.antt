-- Texts of numbered elements, one after another.
use Rattle.std.proofs.Common.{◌≡◌, ℕ, suc, ◌+◌, ◌<◌, ◌++◌, ◌∷◌, [], List, length, take, get_or, sym, ap, ◌∙◌, arith}
use Rattle.std.proofs.lemmas.List.{append_assoc, append-nil, length-take-le, take_more}
use Rattle.rdm_reports.specs.SessionReport.{numbered}

-- one more element
pub numbered_more : {A : Type 0} (text : ℕ → A → List ℕ) (n : ℕ) (xs : List A) (x : A)
    → numbered text n (xs ++ x ∷ []) ≡ numbered text n xs ++ text (n + length xs) x
numbered_more text n [] x = ap (λ k. text k x ++ []) (plain n) ∙ append-nil (text (n + 0) x)
  where
    plain : (k : ℕ) → k ≡ k + 0
    plain k = omega arith
numbered_more text n (y ∷ ys) x =
    ap (λ l. text n y ++ l)
    (numbered_more text (n + 1) ys x ∙ ap (λ k. numbered text (n + 1) ys ++ text k x) (later n (length ys)))
    ∙ sym (append_assoc (text n y) (numbered text (n + 1) ys) (text (n + suc (length ys)) x))
  where
    later : (k m : ℕ) → (k + 1) + m ≡ k + suc m
    later k m = omega arith

-- the element at i, after those before it
pub numbered_next : {A : Type 0} (text : ℕ → A → List ℕ) (xs : List A) (i : ℕ) (x : A) (before now later : List ℕ)
    → i < length xs → x ≡ get_or xs i x
    → now ≡ before ++ numbered text 0 (take i xs) → later ≡ now ++ text i x
    → later ≡ before ++ numbered text 0 (take (i + 1) xs)
numbered_next text xs i x before now later lt at is grows =
    let more = take_more xs i x lt ∙ ap (λ w. take i xs ++ w ∷ []) (sym at) in
    let many : 0 + length (take i xs) ≡ i = none_more (length (take i xs)) ∙ length-take-le i xs (omega (arith, lt)) in
    grows ∙ ap (λ l. l ++ text i x) is ∙ append_assoc before (numbered text 0 (take i xs)) (text i x)
    ∙ ap (λ l. before ++ l)
    (sym (ap (λ l. numbered text 0 l) more ∙ numbered_more text 0 (take i xs) x
    ∙ ap (λ k. numbered text 0 (take i xs) ++ text k x) many))
  where
    none_more : (n : ℕ) → 0 + n ≡ n
    none_more n = omega arith
