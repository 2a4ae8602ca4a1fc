-- The reply to a branch.
use Rattle.std.specs.Prelude.{◌≡◌, ℕ, ◌≤◌, List, [], ◌∷◌, ◌++◌, length, take, drop, replicate, bit_and, bit_or}
use Rattle.std.specs.List.{flat_map}
use Rattle.rdm_wire.specs.Bytes.{number_of, checksum, two_bytes, uid_bytes}
use Rattle.rdm_wire.specs.declared.branch.BranchReply.{BranchReply}
use Rattle.rdm_wire.specs.declared.branch.BranchReply.TheVariants.{Silent, One, Collision}

-- the ANDs of the pairs, in order
abbrev pub ands : List ℕ → List ℕ
ands [] = []
ands (x ∷ []) = []
ands (x ∷ y ∷ rest) = bit_and x y ∷ ands rest

-- b is the text of the UID u: up to seven fe, one aa, sixteen bytes e and any rest. The ANDs of e's first six pairs
-- spell u. The ANDs of its last two pairs spell the checksum of its first twelve bytes (E1.20, discovery unique branch
-- response)
pub record BranchText (b : List ℕ) (u : ℕ) : Type 0 where
  pub preamble : ℕ
  pub e : List ℕ
  pub rest : List ℕ
  pub few : preamble ≤ 7
  pub sixteen : length e ≡ 16
  pub bytes : b ≡ replicate preamble 0xfe ++ 0xaa ∷ e ++ rest
  pub uid : number_of (ands (take 12 e)) ≡ u
  pub sum : number_of (ands (drop 12 e)) ≡ checksum (take 12 e)

-- how bytes are read as the reply to a branch: no bytes are silence, the text of a UID is that UID, and anything else
-- is a collision (E1.20, discovery unique branch response)
abbrev pub ReadsAs : List ℕ → BranchReply → Type 0
ReadsAs b Silent = b ≡ []
ReadsAs b (One u) = BranchText b u
ReadsAs b Collision = (b ≡ [] → ⊥) × ((u : ℕ) → BranchText b u → ⊥)

-- a byte as its pair: b OR aa, and b OR 55 (E1.20, discovery unique branch response)
abbrev pub pair_of : ℕ → List ℕ
pair_of b = bit_or b 0xaa ∷ bit_or b 0x55 ∷ []

-- the text of u that a device sends, after this many fe (E1.20, discovery unique branch response)
abbrev pub branch_text : ℕ → ℕ → List ℕ
branch_text u preamble =
    replicate preamble 0xfe ++ 0xaa ∷ coded_uid ++ flat_map pair_of (two_bytes (checksum coded_uid))
  where
    coded_uid : List ℕ
    coded_uid = flat_map pair_of (uid_bytes u)
