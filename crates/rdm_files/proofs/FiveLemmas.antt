-- Five consecutive numbers among ascending ones.
use Rattle.std.proofs.Common.{◌≡◌, ℕ, zero, suc, ◌+◌, ◌<◌, ◌≤◌, Bool, true, false, List, length, get_or, Option, Some}
use Rattle.std.proofs.Common.{None, Result, Ok, Err, refl, sym, subst, ◌∙◌, arith}
use Rattle.std.specs.Prelude.{◌==◌, ◌&&◌, is_ok, nat_lt, IfSome, IfNone}
use Rattle.std.specs.Cmp.Derive.{both_true}
use Rattle.std.specs.Ordering.{nat_cmp}
use Rattle.std.specs.List.Sorted.{IsBinarySearchResult, IsNonDecreasing, IsPermutation}
use Rattle.std.proofs.lemmas.Bool.{and_parts, eq-eqb, eqb-true, ltb-true, ltb-false}
use Rattle.std.proofs.lemmas.List.Folds.{list_any_at, Any-from_list_any}
use Rattle.std.proofs.lemmas.List.Sorted.{searched, list_any-IsPermutation}
use Rattle.std.proofs.lemmas.Grind.{get_or_default_zero}
use Rattle.rdm_wire.specs.Uid.{has}
use Rattle.rdm_wire.proofs.SetLemmas.{has-at_insertion}
use Rattle.rdm_line.specs.SimSteps.{NoFiveSuccessive}
use Rattle.rdm_files.specs.Losses.{HasFive, IsFirstOfFive}
use Rattle.rdm_files.specs.body.Losses.{has_five}

-- what a search by halves says
pub has-searched : (numbers : List ℕ) (u : ℕ) (r : Result ℕ ℕ) → IsNonDecreasing numbers
    → IsBinarySearchResult (λ v. nat_cmp v u) numbers r → has numbers u ≡ is_ok r
has-searched numbers u (Ok i) ascending found =
    let at : (i < length numbers)
    × (get_or numbers i 0 ≡ u) = searched numbers u (Ok i) found (λ j k. ascending j k 0) in
    list_any_at (λ v. u == v) numbers i 0 at.0 (eq-eqb u (get_or numbers i 0) (sym at.1))
has-searched numbers u (Err i) ascending found =
    let at : (i ≤ length numbers) × ((k : ℕ) → k < i → get_or numbers k 0 < u)
    × ((k : ℕ) → i ≤ k → k < length numbers → u < get_or numbers k 0) =
    searched numbers u (Err i) found (λ j k. ascending j k 0) in
    has-at_insertion u numbers i (record { within = at.0; below = at.1; above = at.2 })

-- the index of a number that is there
record At (xs : List ℕ) (n : ℕ) : Type 0 where
  index : ℕ
  within : index < length xs
  is : get_or xs index 0 ≡ n

at : (xs : List ℕ) (n : ℕ) → has xs n ≡ true → At xs n
at xs n h =
    let any = Any-from_list_any (λ v. n == v) xs h in
    record {
      index = any.0;
      within = any.2;
      is = sym (get_or_default_zero xs any.0 any.1 any.2) ∙ (any.3 ∙ sym (eqb-true n any.1 any.4));
    }

-- what the test says of each of the five
five-from_test : (xs : List ℕ) (first : ℕ) → has_five xs first ≡ true → HasFive xs first
five-from_test xs first h =
    let four = and_parts (has xs first && has xs (first + 1) && has xs (first + 2) && has xs (first + 3))
    (has xs (first + 4)) h in
    let three = and_parts (has xs first && has xs (first + 1) && has xs (first + 2)) (has xs (first + 3)) four.0 in
    let two = and_parts (has xs first && has xs (first + 1)) (has xs (first + 2)) three.0 in
    let one = and_parts (has xs first) (has xs (first + 1)) two.0 in
    each one.0 one.1 two.1 three.1 four.1
  where
    same : first ≡ first + 0
    same = omega arith

    each : has xs first ≡ true → has xs (first + 1) ≡ true → has xs (first + 2) ≡ true → has xs (first + 3) ≡ true
        → has xs (first + 4) ≡ true → HasFive xs first
    each a b c d e zero lt = subst (λ n. has xs n ≡ true) same a
    each a b c d e (suc zero) lt = b
    each a b c d e (suc (suc zero)) lt = c
    each a b c d e (suc (suc (suc zero))) lt = d
    each a b c d e (suc (suc (suc (suc zero)))) lt = e
    each a b c d e (suc (suc (suc (suc (suc j))))) lt = absurd (omega arith)

test-from_five : (xs : List ℕ) (first : ℕ) → HasFive xs first → has_five xs first ≡ true
test-from_five xs first all =
    both_true (both_true
    (both_true (both_true (subst (λ n. has xs n ≡ true) same (all 0 (omega arith))) (all 1 (omega arith)))
    (all 2 (omega arith))) (all 3 (omega arith))) (all 4 (omega arith))
  where
    same : first + 0 ≡ first
    same = omega arith

-- no five end before this index
abbrev pub NoneEnd : List ℕ → ℕ → Type 0
NoneEnd xs i = (k : ℕ) → k < i → (first : ℕ) → first + 4 ≡ get_or xs k 0 → has_five xs first ≡ false

-- so there are none, where none end at all
pub none-at_all : (xs : List ℕ) → NoneEnd xs (length xs) → NoFiveSuccessive xs
none-at_all xs none i all =
    let end = at xs (i + 4) (all 4 (omega arith)) in
    let no : has_five xs i ≡ false = none end.index end.within i (sym end.is) in
    let yes = test-from_five xs i all in cc

-- and those that end first are the least
pub first-least : (xs : List ℕ) (i first : ℕ) → IsNonDecreasing xs → i < length xs → NoneEnd xs i
    → first + 4 ≡ get_or xs i 0 → has_five xs first ≡ true → IsFirstOfFive xs first
first-least xs i first ascending within before ends test = record { all = five-from_test xs first test; least = least }
  where
    least : (other : ℕ) → HasFive xs other → first ≤ other
    least other all = by_index (nat_lt end.index i) refl
      where
        end : At xs (other + 4)
        end = at xs (other + 4) (all 4 (omega arith))

        by_index : (b : Bool) → nat_lt end.index i ≡ b → first ≤ other
        by_index true earlier =
            let no : has_five xs other ≡ false = before end.index (ltb-true end.index i earlier) other (sym end.is) in
            let yes = test-from_five xs other all in cc
        by_index false later =
            let up = ascending i end.index 0 (ltb-false end.index i later) end.within in
            omega (arith, up, ends, end.is)

-- the same of the numbers in another order
first-permuted : (xs ys : List ℕ) (first : ℕ) → IsPermutation xs ys → IsFirstOfFive ys first → IsFirstOfFive xs first
first-permuted xs ys first same h = record {
  all = λ j lt. list_any-IsPermutation (λ v. (first + j) == v) xs ys same ∙ h.all j lt;
  least = λ other all. h.least other
      (λ j lt. sym (list_any-IsPermutation (λ v. (other + j) == v) xs ys same) ∙ all j lt);
}

none-permuted : (xs ys : List ℕ) → IsPermutation xs ys → NoFiveSuccessive ys → NoFiveSuccessive xs
none-permuted xs ys same none i all =
    none i (λ j lt. sym (list_any-IsPermutation (λ v. (i + j) == v) xs ys same) ∙ all j lt)

pub some-permuted : (xs ys : List ℕ) (o : Option ℕ) → IsPermutation xs ys → IfSome o (IsFirstOfFive ys)
    → IfSome o (IsFirstOfFive xs)
some-permuted xs ys None same h = tt
some-permuted xs ys (Some first) same h = first-permuted xs ys first same h

pub none_found-permuted : (xs ys : List ℕ) (o : Option ℕ) → IsPermutation xs ys → IfNone o (NoFiveSuccessive ys)
    → IfNone o (NoFiveSuccessive xs)
none_found-permuted xs ys None same h = none-permuted xs ys same h
none_found-permuted xs ys (Some first) same h = tt
