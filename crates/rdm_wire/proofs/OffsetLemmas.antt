-- Bytes at an offset, as the numbers that they spell.
use Rattle.std.proofs.Common.{drop-cons, ◌≡◌, ℕ, zero, suc, ◌+◌, ◌^◌, ◌<◌, ◌≤◌, List, [], ◌∷◌, ◌++◌, length, take, drop}
use Rattle.std.proofs.Common.{ap, ◌∙◌, arith}
use Rattle.std.specs.Prelude.{slice_index}
use Rattle.std.proofs.lemmas.List.{get_or-drop, drop-drop, length-drop}
use Rattle.hex.specs.Hex.{IsBytes}
use Rattle.rdm_wire.specs.Bytes.{number_of, two_bytes, uid_bytes}

pub IsBytes-drop : (n : ℕ) (xs : List ℕ) → IsBytes xs → IsBytes (drop n xs)
IsBytes-drop n xs bytes i = rw get_or-drop (bytes (n + i))

pub IsBytes-take : (n : ℕ) (xs : List ℕ) → IsBytes xs → IsBytes (take n xs)
IsBytes-take zero xs bytes i = omega arith
IsBytes-take (suc n) [] bytes i = omega arith
IsBytes-take (suc n) (x ∷ xs) bytes zero = bytes 0
IsBytes-take (suc n) (x ∷ xs) bytes (suc i) = IsBytes-take n xs (λ j. bytes (suc j)) i

abbrev pub one_byte : ℕ → List ℕ
one_byte n = n ∷ []

-- at an offset of b stands a number of this many bytes
pub record IsWrittenAt (at size : ℕ) (written : ℕ → List ℕ) (b : List ℕ) : Type 0 where
  pub bytes : drop at b ≡ written (number_of (take size (drop at b))) ++ drop (at + size) b
  pub below : number_of (take size (drop at b)) < 256 ^ size

-- so does a list begin
record IsWrittenFirst (size : ℕ) (written : ℕ → List ℕ) (xs : List ℕ) : Type 0 where
  bytes : xs ≡ written (number_of (take size xs)) ++ drop size xs
  below : number_of (take size xs) < 256 ^ size

one_first : (xs : List ℕ) → IsBytes xs → 1 ≤ length xs → IsWrittenFirst 1 one_byte xs
one_first (a ∷ rest) bytes long = record {
  bytes = same _ (omega arith);
  below = let byte : a < 256 = bytes 0 in omega arith;
}
  where
    same : (n : ℕ) → a ≡ n → a ∷ rest ≡ n ∷ rest
    same n p = cc
one_first xs bytes long = absurd (omega arith)

two_of : (a b : ℕ) (rest : List ℕ) → a < 256 → b < 256 → IsWrittenFirst 2 two_bytes (a ∷ b ∷ rest)
two_of a b rest ha hb = record { bytes = same _ _ (omega arith) (omega arith); below = omega arith }
  where
    same : (x y : ℕ) → a ≡ x → b ≡ y → a ∷ b ∷ rest ≡ x ∷ y ∷ rest
    same x y p q = cc

two_first : (xs : List ℕ) → IsBytes xs → 2 ≤ length xs → IsWrittenFirst 2 two_bytes xs
two_first (a ∷ b ∷ rest) bytes long = two_of a b rest (bytes 0) (bytes 1)
two_first xs bytes long = absurd (omega arith)

uid_of : (a b c d e f : ℕ) (rest : List ℕ) → a < 256 → b < 256 → c < 256 → d < 256 → e < 256 → f < 256
    → IsWrittenFirst 6 uid_bytes (a ∷ b ∷ c ∷ d ∷ e ∷ f ∷ rest)
uid_of a b c d e f rest ha hb hc hd he hf = record {
  bytes = same _ _ _ _ _ _ (omega arith) (omega arith) (omega arith) (omega arith) (omega arith) (omega arith);
  below = omega arith;
}
  where
    same : (u v w x y z : ℕ) → a ≡ u → b ≡ v → c ≡ w → d ≡ x → e ≡ y → f ≡ z
        → a ∷ b ∷ c ∷ d ∷ e ∷ f ∷ rest ≡ u ∷ v ∷ w ∷ x ∷ y ∷ z ∷ rest
    same u v w x y z h1 h2 h3 h4 h5 h6 = cc

uid_first : (xs : List ℕ) → IsBytes xs → 6 ≤ length xs → IsWrittenFirst 6 uid_bytes xs
uid_first (a ∷ b ∷ c ∷ d ∷ e ∷ f ∷ rest) bytes long =
    uid_of a b c d e f rest (bytes 0) (bytes 1) (bytes 2) (bytes 3) (bytes 4) (bytes 5)
uid_first xs bytes long = absurd (omega arith)

-- what stands first after an offset stands there
at_offset : (at size : ℕ) (written : ℕ → List ℕ) (b : List ℕ) → IsWrittenFirst size written (drop at b)
    → IsWrittenAt at size written b
at_offset at size written b first = record {
  bytes = first.bytes ∙ ap (λ l. written (number_of (take size (drop at b))) ++ l) (drop-drop size at b);
  below = first.below;
}

pub one_at : (at : ℕ) (b : List ℕ) → IsBytes b → at + 1 ≤ length b → IsWrittenAt at 1 one_byte b
one_at at b bytes long =
    at_offset at 1 one_byte b (one_first (drop at b) (IsBytes-drop at b bytes) (omega (arith, length-drop at b)))

pub two_at : (at : ℕ) (b : List ℕ) → IsBytes b → at + 2 ≤ length b → IsWrittenAt at 2 two_bytes b
two_at at b bytes long =
    at_offset at 2 two_bytes b (two_first (drop at b) (IsBytes-drop at b bytes) (omega (arith, length-drop at b)))

pub uid_at : (at : ℕ) (b : List ℕ) → IsBytes b → at + 6 ≤ length b → IsWrittenAt at 6 uid_bytes b
uid_at at b bytes long =
    at_offset at 6 uid_bytes b (uid_first (drop at b) (IsBytes-drop at b bytes) (omega (arith, length-drop at b)))

-- one byte is its own number
pub number_of-one : (i : ℕ) (b : List ℕ) → i < length b → number_of (take 1 (drop i b)) ≡ slice_index b i
number_of-one i b lt = ap (λ l. number_of (take 1 l)) (drop-cons b i 0 lt) ∙ omega arith
