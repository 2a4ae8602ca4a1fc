-- Facts on the bytes and the text of UIDs.
use Rattle.std.proofs.Common.{◌≡◌, ℕ, ◌^◌, ◌<◌, Bool, true, false, ◌&&◌, List, [], ◌∷◌, ◌++◌, length, take, drop}
use Rattle.std.proofs.Common.{get_or}
use Rattle.std.proofs.Common.{refl, sym, ap, ◌∙◌, arith, true≢false}
use Rattle.std.specs.Prelude.{◌↔◌, Result, Ok, Err, nat_lt}
use Rattle.std.proofs.lemmas.Bool.{ltb-true}
use Rattle.std.proofs.lemmas.List.{take-append-drop, take_at, drop_at, drop_more, append_assoc, append-nil}
use Rattle.std.proofs.lemmas.List.{length-append}
use Rattle.hex.specs.Hex.{decode_of, encode_lower, lower_digits}
use Rattle.hex.proofs.HexLemmas.{decode_of-same, length-encode_with, decode_of-encode_lower, IsAscii-encode_with}
use Rattle.std.specs.Str.{IsUtf8, IsAscii}
use Rattle.std.proofs.lemmas.Str.{IsUtf8-from_ascii, IsUtf8-append}
use Rattle.std.proofs.lemmas.Str.Ascii.{IsAscii-nil, IsAscii-cons}
use borrow.Rule.Slice.PartMut.{put_mid}
use Rattle.rdm_wire.specs.Bytes.{number_of, uid_bytes}
use Rattle.rdm_wire.specs.Uid.{manufacturer_of, device_of}
use Rattle.rdm_wire.specs.UidText.{UidText, uid_text, colon}
use Rattle.rdm_wire.proofs.BytesLemmas.{number_of-uid_bytes, IsBytes-two_bytes, IsBytes-four_bytes}

-- a text whose fifth byte is a colon, at its indices
pub text_parts : (text : List ℕ) → length text ≡ 13 → get_or text 4 0 ≡ colon
    → text ≡ take 4 text ++ colon ∷ drop 5 text
text_parts text len is_colon =
    let within : 4 < length text = omega arith in
    sym (take-append-drop 4 text)
    ∙ ap (λ (xs : List ℕ). take 4 text ++ xs) (drop_more text 4 0 within ∙ ap (λ (x : ℕ). x ∷ drop 5 text) is_colon)

-- the indices of a text's parts
text_slices : (text : List ℕ) (u : ℕ) (f : UidText text u) → (take 4 text ≡ f.manufacturer) × (drop 5 text ≡ f.device)
text_slices text u f =
    let front : length (f.manufacturer ++ colon ∷ [])
    ≡ 5 = omega (arith, length-append f.manufacturer (colon ∷ []), f.manufacturer_length) in (
      ap (take 4) f.parts ∙ take_at f.manufacturer _ 4 f.manufacturer_length,
      ap (drop 5) (f.parts ∙ sym (append_assoc f.manufacturer (colon ∷ []) f.device))
          ∙ drop_at (f.manufacturer ++ colon ∷ []) f.device 5 front,
    )

-- the digits of a text
pub text_digits : (text : List ℕ) (u : ℕ) (f : UidText text u)
    → (decode_of (take 4 text) ≡ Ok (take 2 (uid_bytes u))) × (decode_of (drop 5 text) ≡ Ok (drop 2 (uid_bytes u)))
text_digits text u f =
    let slices = text_slices text u f in
    (ap decode_of slices.0 ∙ f.manufacturer_digits, ap decode_of slices.1 ∙ f.device_digits)

-- a text is of one UID
pub text_once : (text : List ℕ) (u v : ℕ) → UidText text u → UidText text v → u ≡ v
text_once text u v f g =
    let mine = text_digits text u f in
    let other = text_digits text v g in
    let front = decode_of-same (take 4 text) (take 2 (uid_bytes u)) (take 2 (uid_bytes v)) mine.0 other.0 in
    let back = decode_of-same (drop 5 text) (drop 2 (uid_bytes u)) (drop 2 (uid_bytes v)) mine.1 other.1 in
    let bytes : uid_bytes u ≡ uid_bytes v = cc in
    sym (number_of-uid_bytes u f.in_range) ∙ ap number_of bytes ∙ number_of-uid_bytes v g.in_range

-- a text of one UID is of no other
pub reads_ok : {E : Type 0} (text : List ℕ) (v : ℕ) → UidText text v → (u : ℕ) → (◌≡◌ {A = Result ℕ E} (Ok v) (Ok u))
    ↔ UidText text u
reads_ok text v f u = (λ e. let same : v ≡ u = cc in rw (← same) f, λ g. ap Ok (text_once text v u f g))

-- a text of no UID
pub reads_err : {E : Type 0} (text : List ℕ) (e : E) → ((u : ℕ) → UidText text u → ⊥) → (u : ℕ)
    → (◌≡◌ {A = Result ℕ E} (Err e) (Ok u)) ↔ UidText text u
reads_err text e unread u = (λ same. absurd (let bad : ⊥ = cc in bad), λ f. absurd (unread u f))

-- the written text is a text of the UID
pub uid_text_reads : (u : ℕ) → u < 2 ^ 48 → UidText (uid_text u) u
uid_text_reads u h = record {
  manufacturer = encode_lower (take 2 (uid_bytes u));
  device = encode_lower (drop 2 (uid_bytes u));
  parts = refl;
  manufacturer_length = length-encode_with lower_digits (take 2 (uid_bytes u));
  device_length = length-encode_with lower_digits (drop 2 (uid_bytes u));
  in_range = h;
  manufacturer_digits = decode_of-encode_lower (take 2 (uid_bytes u)) (IsBytes-two_bytes (manufacturer_of u));
  device_digits = decode_of-encode_lower (drop 2 (uid_bytes u)) (IsBytes-four_bytes (device_of u));
}

-- whether all bytes are below 128
are_ascii : List ℕ → Bool
are_ascii [] = true
are_ascii (x ∷ xs) = nat_lt x 128 && are_ascii xs

ascii_of : (xs : List ℕ) → are_ascii xs ≡ true → IsAscii xs
unfolding are_ascii
ascii_of [] h = IsAscii-nil
ascii_of (x ∷ xs) h =
    let both = parts (nat_lt x 128) (are_ascii xs) h in IsAscii-cons x xs (ltb-true x 128 both.0) (ascii_of xs both.1)
  where
    parts : (a b : Bool) → (a && b) ≡ true → (a ≡ true) × (b ≡ true)
    parts true b h = (refl, h)
    parts false b h = absurd (true≢false (sym h))

-- a UID's text is UTF-8
pub IsUtf8-uid_text : (u : ℕ) → IsUtf8 (uid_text u)
unfolding are_ascii
IsUtf8-uid_text u =
    IsUtf8-append (encode_lower (take 2 (uid_bytes u))) (colon ∷ encode_lower (drop 2 (uid_bytes u)))
    (IsUtf8-from_ascii _ (digits (take 2 (uid_bytes u))))
    (IsUtf8-from_ascii _ (IsAscii-cons colon _ (omega arith) (digits (drop 2 (uid_bytes u)))))
  where
    digits : (xs : List ℕ) → IsAscii (encode_lower xs)
    digits xs = IsAscii-encode_with lower_digits xs (ascii_of lower_digits refl)

-- a list of two and one of four, by their elements
pub two_of : (xs : List ℕ) → length xs ≡ 2 → get_or xs 0 0 ∷ get_or xs 1 0 ∷ [] ≡ xs
two_of (a ∷ b ∷ []) len = refl
two_of [] len = absurd (omega arith)
two_of (a ∷ []) len = absurd (omega arith)
two_of (a ∷ b ∷ c ∷ xs) len = absurd (omega arith)

pub four_of : (xs : List ℕ) → length xs ≡ 4 → get_or xs 0 0 ∷ get_or xs 1 0 ∷ get_or xs 2 0 ∷ get_or xs 3 0 ∷ [] ≡ xs
four_of (a ∷ b ∷ xs) len = let rest = two_of xs (omega arith) in ap (λ (ys : List ℕ). a ∷ b ∷ ys) rest
four_of [] len = absurd (omega arith)
four_of (a ∷ []) len = absurd (omega arith)

-- the digits written into thirteen colons
pub put_digits : (m d : List ℕ) → length m ≡ 4
    → put_mid 5 8 (m ++ (58 ∷ 58 ∷ 58 ∷ 58 ∷ 58 ∷ 58 ∷ 58 ∷ 58 ∷ 58 ∷ [])) d ≡ m ++ 58 ∷ d
put_digits (a ∷ b ∷ c ∷ e ∷ []) d len = ap (λ (xs : List ℕ). a ∷ b ∷ c ∷ e ∷ 58 ∷ xs) (append-nil d)
put_digits [] d len = absurd (omega arith)
put_digits (a ∷ []) d len = absurd (omega arith)
put_digits (a ∷ b ∷ []) d len = absurd (omega arith)
put_digits (a ∷ b ∷ c ∷ []) d len = absurd (omega arith)
put_digits (a ∷ b ∷ c ∷ e ∷ f ∷ xs) d len = absurd (omega arith)
