-- Facts on numbers as bytes.
use Rattle.std.proofs.Common.{◌≡◌, ℕ, zero, suc, ◌/◌, ◌%◌, ◌^◌, ◌<◌, List, [], ◌∷◌, arith}
use Rattle.hex.specs.Hex.{IsBytes}
use Rattle.rdm_wire.specs.Bytes.{number_of, two_bytes, four_bytes, uid_bytes}
use Rattle.rdm_wire.specs.Uid.{manufacturer_of, device_of}

-- two and six bytes spell their number
pub number_of-two_bytes : (n : ℕ) → n < 2 ^ 16 → number_of (two_bytes n) ≡ n
number_of-two_bytes n h = omega arith

pub number_of-uid_bytes : (u : ℕ) → u < 2 ^ 48 → number_of (uid_bytes u) ≡ u
number_of-uid_bytes u h = omega arith

-- bytes, one by one
IsBytes-nil : IsBytes []
IsBytes-nil i = omega arith

IsBytes-cons : (x : ℕ) (xs : List ℕ) → x < 256 → IsBytes xs → IsBytes (x ∷ xs)
IsBytes-cons x xs h hs zero = h
IsBytes-cons x xs h hs (suc i) = hs i

IsBytes-two_after : (n : ℕ) (xs : List ℕ) → IsBytes xs → IsBytes (n / 256 % 256 ∷ n % 256 ∷ xs)
IsBytes-two_after n xs hs =
    IsBytes-cons (n / 256 % 256) (n % 256 ∷ xs) (omega arith) (IsBytes-cons (n % 256) xs (omega arith) hs)

pub IsBytes-two_bytes : (n : ℕ) → IsBytes (two_bytes n)
IsBytes-two_bytes n = IsBytes-two_after n [] IsBytes-nil

pub IsBytes-four_bytes : (n : ℕ) → IsBytes (four_bytes n)
IsBytes-four_bytes n = IsBytes-two_after (n / 65536) (two_bytes n) (IsBytes-two_bytes n)

pub IsBytes-uid_bytes : (u : ℕ) → IsBytes (uid_bytes u)
IsBytes-uid_bytes u =
    IsBytes-two_after (manufacturer_of u) (four_bytes (device_of u)) (IsBytes-four_bytes (device_of u))
