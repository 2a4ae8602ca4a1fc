-- UIDs as text.
use Rattle.std.specs.Prelude.{◌≡◌, ◌≢◌, ◌↔◌, ℕ, ◌^◌, ◌<◌, List, ◌∷◌, ◌++◌, length, take, drop, slice_index, Ok, Result}
use Rattle.std.specs.Prelude.{IsErrOf}
use Rattle.hex.specs.Hex.{decode_of, encode_lower}
use Rattle.rdm_wire.specs.Bytes.{uid_bytes}
use Rattle.rdm_wire.specs.declared.uid.UidFault.{UidFault}
use Rattle.rdm_wire.specs.declared.uid.UidFault.TheVariants.{Length, Separator}

-- the code of a colon
abbrev pub colon : ℕ
colon = 58

-- text is a text of the UID u: four hexadecimal digits, a colon and eight hexadecimal digits, in either case
pub record UidText (text : List ℕ) (u : ℕ) : Type 0 where
  pub manufacturer : List ℕ
  pub device : List ℕ
  pub parts : text ≡ manufacturer ++ colon ∷ device
  pub manufacturer_length : length manufacturer ≡ 4
  pub device_length : length device ≡ 8
  pub in_range : u < 2 ^ 48
  pub manufacturer_digits : decode_of manufacturer ≡ Ok (take 2 (uid_bytes u))
  pub device_digits : decode_of device ≡ Ok (drop 2 (uid_bytes u))

-- the text of the UID u in lower case
abbrev pub uid_text : ℕ → List ℕ
uid_text u = encode_lower (take 2 (uid_bytes u)) ++ colon ∷ encode_lower (drop 2 (uid_bytes u))

-- what parsing a text gives: the UID that it spells, or the first fault. Any other fault is that of the digits
pub record ParsesUid (text : List ℕ) (result : Result ℕ UidFault) : Type 0 where
  pub ok : (u : ℕ) → (result ≡ Ok u) ↔ UidText text u
  pub length_fault : IsErrOf result Length ↔ (length text ≢ 13)
  pub separator_fault : IsErrOf result Separator ↔ ((length text ≡ 13) × (slice_index text 4 ≢ colon))
