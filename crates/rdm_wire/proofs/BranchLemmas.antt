-- Facts on replies to a branch.
use Rattle.std.proofs.Common.{◌≡◌, ℕ, zero, suc, ◌+◌, ◌-◌, ◌*◌, ◌<◌, ◌≤◌, ◌^◌, Bool, true, false, ◌&&◌, cond, List, []}
use Rattle.std.proofs.Common.{◌∷◌, ◌++◌, length, drop, get_or, replicate, refl, sym, ap, ◌∙◌, arith, inl, inr, Some}
use Rattle.std.proofs.Common.{None, Option, append_assoc}
use Rattle.std.specs.Prelude.{◌==◌, bit_and, bit_or}
use Rattle.std.specs.List.{prefix_len, flat_map}
use Rattle.std.proofs.lemmas.Bool.{eqb-true, lt-ltb, and_parts, cases_lt}
use Rattle.hex.specs.Hex.{IsBytes}
use Rattle.rdm_wire.specs.Reading.{after_preamble}
use Rattle.rdm_wire.specs.Bytes.{number_of, two_bytes, uid_bytes, checksum}
use Rattle.rdm_wire.specs.BranchText.{BranchText, branch_text, ands, pair_of}
use Rattle.rdm_wire.proofs.BytesLemmas.{number_of-uid_bytes, number_of-two_bytes, IsBytes-uid_bytes, IsBytes-two_bytes}
use Rattle.std.proofs.lemmas.List.{append-nil}

-- whether a byte is of the preamble
abbrev pub is_fe : ℕ → Bool
is_fe byte = byte == 0xfe

-- what stands after a separator
abbrev pub after_separator : List ℕ → Option (List ℕ)
after_separator [] = None
after_separator (x ∷ xs) = cond (x == 0xaa) (Some xs) None

-- a preamble that is too long isn't removed
pub preamble_too_long : (n : ℕ) (b : List ℕ) → n < prefix_len is_fe b → after_preamble n b ≡ None
preamble_too_long n [] h = refl
preamble_too_long n (x ∷ xs) h = of_byte n (is_fe x) refl h (λ m more. preamble_too_long m xs more)
  where
    of_byte : (n : ℕ) (fe : Bool) → is_fe x ≡ fe → n < cond fe (1 + prefix_len is_fe xs) 0
        → ((m : ℕ) → m < prefix_len is_fe xs → after_preamble m xs ≡ None) → after_preamble n (x ∷ xs) ≡ None
    of_byte n false is h rest = absurd (omega arith)
    of_byte zero true is h rest = rw (eqb-true x 0xfe is) refl
    of_byte (suc m) true is h rest =
        let one_less : suc m - 1 ≡ m = omega arith in
        rw (eqb-true x 0xfe is, lt-ltb 0 (suc m) (omega arith), one_less) (rest m (omega arith))

-- a short one is, and then the separator
pub after_preamble-short : (n : ℕ) (b : List ℕ) → prefix_len is_fe b ≤ n
    → after_preamble n b ≡ after_separator (drop (prefix_len is_fe b) b)
after_preamble-short n [] h = refl
after_preamble-short n (x ∷ xs) h = of_byte n (is_fe x) refl h (λ m short. after_preamble-short m xs short)
  where
    of_byte : (n : ℕ) (fe : Bool) → is_fe x ≡ fe → cond fe (1 + prefix_len is_fe xs) 0 ≤ n
        → ((m : ℕ) → prefix_len is_fe xs ≤ m → after_preamble m xs ≡ after_separator (drop (prefix_len is_fe xs) xs))
        → after_preamble n (x ∷ xs) ≡ after_separator (drop (cond fe (1 + prefix_len is_fe xs) 0) (x ∷ xs))
    of_byte n false is h rest = rw is refl
    of_byte zero true is h rest = absurd (omega arith)
    of_byte (suc m) true is h rest =
        let one_less : suc m - 1 ≡ m = omega arith in
        let one_more : 1 + prefix_len is_fe xs ≡ suc (prefix_len is_fe xs) = omega arith in
        rw (one_more, eqb-true x 0xfe is, lt-ltb 0 (suc m) (omega arith), one_less) (rest m (omega arith))

-- the pairs by their indices
pub ands_is : (xs ys : List ℕ) → length xs ≡ 2 * length ys
    → ((i : ℕ) → i < length ys → get_or ys i 0 ≡ bit_and (get_or xs (2 * i) 0) (get_or xs (2 * i + 1) 0))
    → ys ≡ ands xs
ands_is [] [] len each = refl
ands_is [] (y ∷ ys) len each = absurd (omega arith)
ands_is (a ∷ []) ys len each = absurd (omega arith)
ands_is (a ∷ b ∷ xs) [] len each = absurd (omega arith)
ands_is (a ∷ b ∷ xs) (y ∷ ys) len each =
    let first : y ≡ bit_and a b = each 0 (omega arith) in
    let rest : ys ≡ ands xs = ands_is xs ys (omega arith) (λ i lt.
    let at : 2 * suc i ≡ suc (suc (2 * i)) = omega arith in
    let next : 2 * suc i + 1 ≡ suc (suc (2 * i + 1)) = omega arith in
    rw (next, at) at (each (suc i) (omega arith))) in
    cc

-- a byte with the one half of its bits set and with the other half set is itself where both are
abbrev reads_back : ℕ → Bool
reads_back byte = bit_and (bit_or byte 0xaa) (bit_or byte 0x55) == byte

abbrev all_read_back : ℕ → Bool
all_read_back zero = true
all_read_back (suc n) = reads_back n && all_read_back n

all_read_back-at : (n k : ℕ) → all_read_back n ≡ true → k < n → reads_back k ≡ true
all_read_back-at zero k h lt = absurd (omega arith)
all_read_back-at (suc n) k h lt =
    let parts = and_parts (reads_back n) (all_read_back n) h in
    elim (cases_lt k n) [
      | inl below ↦ all_read_back-at n k parts.1 below
      | inr top ↦ let e : k ≡ n = omega arith in rw e parts.0
    ]

-- the pairs of bytes give them back
pub ands-pairs : (xs : List ℕ) → IsBytes xs → ands (flat_map pair_of xs) ≡ xs
ands-pairs [] fits = refl
ands-pairs (x ∷ xs) fits =
    let first : bit_and (bit_or x 0xaa) (bit_or x 0x55) ≡ x = eqb-true _ x (all_read_back-at 256 x refl (fits 0)) in
    let rest = ands-pairs xs (λ i. fits (suc i)) in cc

-- the written reply is a text of the UID
pub branch_text_reads : (u preamble : ℕ) → u < 2 ^ 48 → preamble ≤ 7 → BranchText (branch_text u preamble) u
branch_text_reads u preamble in_range short =
    let coded = flat_map pair_of (uid_bytes u) in
    let total = checksum coded in
    let sum = flat_map pair_of (two_bytes total) in
    let back : ands coded ≡ uid_bytes u = ands-pairs (uid_bytes u) (IsBytes-uid_bytes u) in
    let sum_back : ands sum ≡ two_bytes total = ands-pairs (two_bytes total) (IsBytes-two_bytes total) in
    let fits : total < 2 ^ 16 = omega arith in record {
      preamble = preamble;
      e = coded ++ sum;
      rest = [];
      few = short;
      sixteen = refl;
      bytes = append_assoc (replicate preamble 0xfe) (0xaa ∷ coded) sum
          ∙ sym (append-nil (replicate preamble 0xfe ++ (0xaa ∷ coded ++ sum)));
      uid = ap number_of back ∙ number_of-uid_bytes u in_range;
      sum = ap number_of sum_back ∙ number_of-two_bytes total fits;
    }
