-- Texts that are written one after another.
use Rattle.std.proofs.Common.{◌≡◌, ℕ, ◌+◌, ◌<◌, List, [], ◌∷◌, ◌++◌, Result, Ok, Err, OnOk, sym, ap, ◌∙◌, arith}
use Rattle.std.proofs.Common.{append_assoc, append-nil, suc, length, get_or, take}
use Rattle.std.proofs.Math.Seq.{take-suc}
use Rattle.std.specs.Prelude.{flat_map}
use Rattle.std.proofs.lemmas.Grind.{flat_map-append}

-- two texts, without an error
pub then_written : (t0 t1 t2 a b : List ℕ) → t1 ≡ t0 ++ a → t2 ≡ t1 ++ b → t2 ≡ t0 ++ (a ++ b)
then_written t0 t1 t2 a b p q = q ∙ ap (λ l. l ++ b) p ∙ append_assoc t0 a b

-- two texts
pub two_written : {A E : Type 0} (r : Result A E) (t0 t1 t2 a b : List ℕ) → t1 ≡ t0 ++ a → OnOk r (t2 ≡ t1 ++ b)
    → OnOk r (t2 ≡ t0 ++ (a ++ b))
two_written (Err e) t0 t1 t2 a b p u = tt
two_written (Ok x) t0 t1 t2 a b p u = u ∙ ap (λ l. l ++ b) p ∙ append_assoc t0 a b

-- five texts
pub five_written : {A E : Type 0} (r : Result A E) (t0 t1 t2 t3 t4 t5 a b c d e : List ℕ) → t1 ≡ t0 ++ a → t2 ≡ t1 ++ b
    → t3 ≡ t2 ++ c → t4 ≡ t3 ++ d → OnOk r (t5 ≡ t4 ++ e) → OnOk r (t5 ≡ t0 ++ ((((a ++ b) ++ c) ++ d) ++ e))
five_written r t0 t1 t2 t3 t4 t5 a b c d e p q s v u =
    two_written r t0 t4 t5 (((a ++ b) ++ c) ++ d) e
    (then_written t0 t3 t4 ((a ++ b) ++ c) d
    (then_written t0 t2 t3 (a ++ b) c (then_written t0 t1 t2 a b p q) s) v) u

-- the line of one more element
pub lines_next : {X : Type 0} (line : X → List ℕ) (xs : List X) (i : ℕ) (x : X) (t0 t1 t2 : List ℕ) → i < length xs
    → x ≡ get_or xs i x → t1 ≡ t0 ++ flat_map line (take i xs) → t2 ≡ t1 ++ line x
    → t2 ≡ t0 ++ flat_map line (take (i + 1) xs)
lines_next line xs i x t0 t1 t2 lt at before more =
    more ∙ ap (λ l. l ++ line x) before ∙ append_assoc t0 (flat_map line (take i xs)) (line x)
    ∙ ap (λ l. t0 ++ l) (sym grows)
  where
    next : (n : ℕ) → n + 1 ≡ suc n
    next n = omega arith

    grows : flat_map line (take (i + 1) xs) ≡ flat_map line (take i xs) ++ line x
    grows = ap (flat_map line)
        (ap (λ k. take k xs) (next i) ∙ take-suc xs i x lt ∙ ap (λ w. take i xs ++ w ∷ []) (sym at))
        ∙ flat_map-append line (take i xs) (x ∷ [])
        ∙ ap (λ l. flat_map line (take i xs) ++ l) (append-nil (line x))
