-- What the keys and values of a scene file mean.
use Rattle.std.specs.Prelude.{◌≡◌, ℕ, ◌+◌, ◌*◌, ◌≤◌, Bool, true, false, List, [], ◌∷◌, length, Option, Some, None}
use Rattle.std.specs.Prelude.{Result, Ok, Err, MatchOption, option_and_then, ⊤}
use Rattle.hex.specs.Hex.{decode_of}
use Rattle.serde_json.specs.Data.{Data, Items, no_items, item}
use Rattle.serde_json.specs.Find.{get, as_array, as_number, as_str, as_u64}
use Rattle.rdm_wire.specs.Uid.{is_broadcast}
use Rattle.rdm_wire.specs.UidText.{UidText}
use Rattle.rdm_files.specs.declared.scene.fault.SceneFault.{SceneFault}
use Rattle.rdm_files.specs.declared.scene.fault.SceneFault.TheVariants.{Mismatch, NoMemory}

-- whether a fault is NoMemory
abbrev pub is_memory : SceneFault → Bool
is_memory NoMemory = true
is_memory (Mismatch m) = false

-- what a reader returns: something for which P holds, or a fault. A fault other than NoMemory means that P holds for
-- nothing
abbrev pub Reads : {A : Type 0} → Result A SceneFault → (A → Type 0) → Type 0
Reads (Ok x) P = P x
Reads {A} (Err fault) P = is_memory fault ≡ false → (x : A) → P x → ⊥

-- a whole number in these bounds
pub record IsWhole (least most : ℕ) (d : Data) (n : ℕ) : Type 0 where
  pub number : option_and_then as_u64 (as_number d) ≡ Some n
  pub at_least : least ≤ n
  pub at_most : n ≤ most

-- a text that spells a UID
pub record IsUid (d : Data) (u : ℕ) : Type 0 where
  pub text : List ℕ
  pub is_text : as_str d ≡ Some text
  pub spells : UidText text u

-- a text that spells the UID of one device
pub record IsOwnUid (d : Data) (u : ℕ) : Type 0 where
  pub uid : IsUid d u
  pub own : is_broadcast u ≡ false

-- a text of four hexadecimal digits, the high byte first
pub record IsFourDigits (d : Data) (n : ℕ) : Type 0 where
  pub text : List ℕ
  pub high : ℕ
  pub low : ℕ
  pub is_text : as_str d ≡ Some text
  pub digits : decode_of text ≡ Ok (high ∷ low ∷ [])
  pub value : n ≡ high * 256 + low

-- a text of hexadecimal digits, this many bytes
pub record IsBytesText (least most : ℕ) (d : Data) (bytes : List ℕ) : Type 0 where
  pub text : List ℕ
  pub is_text : as_str d ≡ Some text
  pub digits : decode_of text ≡ Ok bytes
  pub at_least : least ≤ length bytes
  pub at_most : length bytes ≤ most

-- P holds for each item and the element at its index
abbrev pub Each : {A : Type 0} → (Data → A → Type 0) → Items → List A → Type 0
Each P no_items [] = ⊤
Each P no_items (x ∷ xs) = ⊥
Each P (item d ds) [] = ⊥
Each P (item d ds) (x ∷ xs) = P d x × Each P ds xs

-- a list of this many items
pub record IsListOf (A : Type 0) (P : Data → A → Type 0) (least most : ℕ) (d : Data) (xs : List A) : Type 0 where
  pub items : Items
  pub is_list : as_array d ≡ Some items
  pub each : Each P items xs
  pub at_least : least ≤ length xs
  pub at_most : length xs ≤ most

-- a key that an object must have
abbrev pub Has : {A : Type 0} → List ℕ → (Data → A → Type 0) → Data → A → Type 0
Has key P d x = MatchOption (get key d) ⊥ (λ v. P v x)

-- a key that may be absent, with a default
abbrev pub MayHave : {A : Type 0} → List ℕ → (Data → A → Type 0) → A → Data → A → Type 0
MayHave key P default d x = MatchOption (get key d) (x ≡ default) (λ v. P v x)

-- a key that may be absent, without a default
abbrev pub MayGive : {A : Type 0} → List ℕ → (Data → A → Type 0) → Data → Option A → Type 0
MayGive key P d o = MatchOption (get key d) (o ≡ None) (λ v. MatchOption o ⊥ (P v))
