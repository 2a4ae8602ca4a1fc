-- The bytes of a file of which no more than a limit are read.
use Rattle.std.proofs.Common.{◌≡◌, ℕ, ◌≤◌, ◌<◌, List, length, take, Option, Some, None, ap, ◌∙◌, min, arith, inl, inr}
use Rattle.std.specs.Prelude.{◌⊎◌, IfSome, option_map}
use Rattle.std.proofs.lemmas.List.{take_all, length-take}
use Rattle.rdm_files.specs.Input.{IsContent}

pub content : (known : Option (List ℕ)) (bytes : List ℕ) → length bytes ≤ 1048576
    → IfSome (option_map (take 1048577) known) (λ xs. bytes ≡ xs) → IsContent known bytes
content None bytes few read = record { all = tt; few = few }
content (Some xs) bytes few read = record { all = by_length (long (length xs)); few = few }
  where
    long : (n : ℕ) → (n ≤ 1048577) ⊎ (1048577 < n)
    long n = grind arith

    by_length : (length xs ≤ 1048577) ⊎ (1048577 < length xs) → bytes ≡ xs
    by_length (inl short) = read ∙ take_all 1048577 xs short
    by_length (inr more) =
        let taken : length bytes ≡ min 1048577 (length xs) = ap length read ∙ length-take 1048577 xs in
        absurd (omega (arith, taken, few, more))
