-- Replies that lie over one another, byte by byte.
use Rattle.std.proofs.Common.{add-one, ◌≡◌, ℕ, zero, suc, ◌+◌, ◌<◌, ◌≤◌, List, [], ◌∷◌, ◌++◌, length, take, get_or}
use Rattle.std.proofs.Common.{refl, sym, ap, ◌∙◌, subst, arith}
use Rattle.std.specs.Prelude.{bit_or}
use Rattle.std.proofs.Math.ListN.{set, length-set}
use Rattle.std.proofs.Math.Seq.{take-suc}
use Rattle.std.proofs.lemmas.List.{length-take-le}
use Rattle.arrayvec.specs.ArrayVec.{ArrayVec, with_items}
use Rattle.arrayvec.proofs.ArrayVecLemmas.{items-with_items}
use Rattle.rdm_line.specs.Overlays.{laid_over}

pub laid_over-nil : (xs : List ℕ) → laid_over xs [] ≡ xs
laid_over-nil [] = refl
laid_over-nil (x ∷ xs) = refl

-- one more byte where there is one already, and where there is none
pub laid_over-joined : (xs ys : List ℕ) (i : ℕ) → i < length ys → i < length (laid_over xs (take i ys))
    → laid_over xs (take (suc i) ys)
    ≡ set (laid_over xs (take i ys)) i (bit_or (get_or (laid_over xs (take i ys)) i 0) (get_or ys i 0))
laid_over-joined [] ys i lt there =
    absurd (let n : length (take i ys) ≡ i = length-take-le i ys (omega arith) in omega arith)
laid_over-joined (x ∷ xs) [] i lt there = absurd (omega arith)
laid_over-joined (x ∷ xs) (y ∷ ys) zero lt there = ap (λ l. bit_or x y ∷ l) (laid_over-nil xs)
laid_over-joined (x ∷ xs) (y ∷ ys) (suc i) lt there =
    ap (λ l. bit_or x y ∷ l) (laid_over-joined xs ys i (omega arith) (omega arith))

pub laid_over-pushed : (xs ys : List ℕ) (i : ℕ) → i < length ys → length (laid_over xs (take i ys)) ≤ i
    → laid_over xs (take (suc i) ys) ≡ laid_over xs (take i ys) ++ get_or ys i 0 ∷ []
laid_over-pushed [] ys i lt there = take-suc ys i 0 lt
laid_over-pushed (x ∷ xs) [] i lt there = absurd (omega arith)
laid_over-pushed (x ∷ xs) (y ∷ ys) zero lt there = absurd (omega arith)
laid_over-pushed (x ∷ xs) (y ∷ ys) (suc i) lt there =
    ap (λ l. bit_or x y ∷ l) (laid_over-pushed xs ys i (omega arith) (omega arith))

-- a byte that is joined in place, and one that is pushed, leave what one more byte leaves
pub one_joined : (xs ys : List ℕ) (i : ℕ) (old new : ArrayVec ℕ) (shown : List ℕ) → i < length ys
    → old.items ≡ laid_over xs (take i ys)
    → i < length old.items → shown ≡ old.items
    → new ≡ with_items old (set shown i (bit_or (get_or shown i 0) (get_or ys i 0)))
    → (new.items ≡ laid_over xs (take (i + 1) ys)) × (length new.items ≡ length old.items)
one_joined xs ys i old new shown lt is there same written =
    let size : length (set shown i (bit_or (get_or shown i 0) (get_or ys i 0)))
    ≡ length old.items = length-set shown i _ ∙ ap length same in
    let items : new.items
    ≡ set shown i (bit_or (get_or shown i 0) (get_or ys i 0)) =
    ap (λ (v : ArrayVec ℕ). v.items) written ∙ items-with_items old _ size in
    (items ∙ moved shown (same ∙ is) ∙ ap (λ n. laid_over xs (take n ys)) (sym (add-one i)), ap length items ∙ size)
  where
    in_range : i < length (laid_over xs (take i ys))
    in_range = subst (λ (l : List ℕ). i < length l) is there

    moved : (l : List ℕ) → l ≡ laid_over xs (take i ys)
        → set l i (bit_or (get_or l i 0) (get_or ys i 0)) ≡ laid_over xs (take (suc i) ys)
    moved l p = rw p (sym (laid_over-joined xs ys i lt in_range))

pub one_pushed : (xs ys : List ℕ) (i : ℕ) (old new : List ℕ) → i < length ys → old ≡ laid_over xs (take i ys)
    → length old ≤ i
    → new ≡ old ++ get_or ys i 0 ∷ [] → new ≡ laid_over xs (take (i + 1) ys)
one_pushed xs ys i old new lt is short pushed =
    pushed ∙ ap (λ l. l ++ get_or ys i 0 ∷ []) is
    ∙ sym (laid_over-pushed xs ys i lt (subst (λ (l : List ℕ). length l ≤ i) is short))
    ∙ ap (λ n. laid_over xs (take n ys)) (sym (add-one i))
