-- Whether a number is among ascending ones.
use Rattle.std.proofs.Common.{◌≡◌, ℕ, ◌<◌, ◌≤◌, List, length, get_or, Result, Ok, Err, sym}
use Rattle.std.specs.Prelude.{◌==◌, is_ok}
use Rattle.std.specs.Ordering.{nat_cmp}
use Rattle.std.specs.List.Sorted.{IsBinarySearchResult, IsNonDecreasing}
use Rattle.std.proofs.lemmas.Bool.{eq-eqb, lt-ltb}
use Rattle.std.proofs.lemmas.List.Folds.{list_any_at}
use Rattle.std.proofs.lemmas.List.Sorted.{searched}
use Rattle.rdm_wire.specs.Uid.{has}
use Rattle.rdm_wire.proofs.SetLemmas.{has-at_insertion}
use Rattle.rdm_line.specs.Sim.{is_among, last_exchange}

-- what a search by halves says
has-searched : (numbers : List ℕ) (u : ℕ) (r : Result ℕ ℕ) → IsNonDecreasing numbers
    → IsBinarySearchResult (λ v. nat_cmp v u) numbers r → has numbers u ≡ is_ok r
has-searched numbers u (Ok i) ascending found =
    let at : (i < length numbers)
    × (get_or numbers i 0 ≡ u) = searched numbers u (Ok i) found (λ j k. ascending j k 0) in
    list_any_at (λ v. u == v) numbers i 0 at.0 (eq-eqb u (get_or numbers i 0) (sym at.1))
has-searched numbers u (Err i) ascending found =
    let at : (i ≤ length numbers) × ((k : ℕ) → k < i → get_or numbers k 0 < u)
    × ((k : ℕ) → i ≤ k → k < length numbers → u < get_or numbers k 0) =
    searched numbers u (Err i) found (λ j k. ascending j k 0) in
    has-at_insertion u numbers i (record { within = at.0; below = at.1; above = at.2 })

pub among-searched : (numbers : List ℕ) (u : ℕ) (r : Result ℕ ℕ) → IsNonDecreasing numbers
    → IsBinarySearchResult (λ v. nat_cmp v u) numbers r → u < last_exchange → is_ok r ≡ is_among u numbers
among-searched numbers u r ascending found before =
    sym (rw (lt-ltb u last_exchange before) (has-searched numbers u r ascending found))
