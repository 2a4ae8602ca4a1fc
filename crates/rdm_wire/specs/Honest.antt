-- The honest line, by what was asked and what was heard. The same definitions serve for frames and bytes, and for the
-- agent's operations and replies.
use Rattle.std.specs.Prelude.{◌≡◌, ◌⊎◌, ℕ, ◌+◌, ◌≤◌, Bool, true, false, ◌&&◌, not, List, [], ◌∷◌, ◌==◌, filter}
use Rattle.std.specs.Prelude.{if◌then◌else◌, MatchBool}
use Rattle.rdm_wire.specs.Uid.{has, is_within, IsDeviceSet}
use Rattle.rdm_wire.specs.declared.mute_ack.MuteAck.{MuteAck}

-- what a frame asks of the devices
pub data Asked : Type 0 where
  Unmute : Asked
  Branch : (lo hi : ℕ) → Asked
  Mute : (u : ℕ) → Asked
  Other : Asked

-- what was heard: the line failed; no bytes; the text of a UID; an acknowledgement of the mute; other bytes
pub data Heard : Type 0 where
  Failed : Heard
  Silent : Heard
  One : (u : ℕ) → Heard
  Acked : (ack : MuteAck) → Heard
  Noise : Heard

-- an exchange: what was asked, and what was heard
pub record Seen : Type 0 where
  pub asked : Asked
  pub heard : Heard

-- whether no bytes came
abbrev pub is_silent : Heard → Bool
is_silent Silent = true
is_silent _ = false

-- whether an acknowledgement of the mute came
abbrev pub is_acked : Heard → Bool
is_acked (Acked ack) = true
is_acked _ = false

-- which devices are muted, and how many branch replies were lost, acknowledgements lost and unmutes made in a row
pub record LineState : Type 0 where
  pub muted : ℕ → Bool
  pub lost_branches : ℕ
  pub lost_mutes : ℕ
  pub unmutes : ℕ

-- the present devices in a range that aren't muted
abbrev pub due_in : List ℕ → (ℕ → Bool) → ℕ → ℕ → List ℕ
due_in present muted lo hi = filter (λ u. is_within lo hi u && not (muted u)) present

-- a device stays muted, or unmuted
abbrev pub KeepsMuted : ℕ → LineState → LineState → Type 0
KeepsMuted u old new = new.muted u ≡ old.muted u

-- new has these counts, and no more than four replies were lost in a row
pub record LineCounts (new : LineState) (b m n : ℕ) : Type 0 where
  pub branches : new.lost_branches ≡ b
  pub mutes : new.lost_mutes ≡ m
  pub unmutes : new.unmutes ≡ n
  pub few_branches : b ≤ 4
  pub few_mutes : m ≤ 4

-- what the devices that are due to answer a branch may put on the line
abbrev pub MayReply : List ℕ → Heard → Type 0
MayReply [] heard = heard ≡ Silent
MayReply (u ∷ []) heard = (heard ≡ One u) ⊎ (heard ≡ Silent)
MayReply (u ∷ v ∷ us) heard = Unit {0}

-- replies lost in a row after a branch that these devices were due to answer
abbrev pub lost_after : List ℕ → Heard → ℕ → ℕ
lost_after [] heard before = 0
lost_after (u ∷ us) heard before = if is_silent heard then before + 1 else 0

-- a mute of u is acknowledged, and u is muted; or it is silent, and u is muted or as before
abbrev pub MuteMoves : ℕ → LineState → Heard → LineState → Type 0
MuteMoves u old heard new =
    ((is_acked heard ≡ true) × (new.muted u ≡ true) × LineCounts new 0 0 0)
    ⊎ ((heard ≡ Silent) × ((new.muted u ≡ true) ⊎ KeepsMuted u old new) × LineCounts new 0 (old.lost_mutes + 1) 0)

-- an unmute doesn't mute u; the third in a row, and each after it, leaves it unmuted
pub record UnmuteMoves (u : ℕ) (old new : LineState) : Type 0 where
  pub fewer : new.muted u ≡ true → old.muted u ≡ true
  pub third : 3 ≤ old.unmutes + 1 → new.muted u ≡ false

-- a line with these devices may answer like this, and then be in the state new
abbrev pub HonestStep : List ℕ → LineState → Asked → Heard → LineState → Type 0
HonestStep present old (Branch lo hi) heard new =
    MayReply (due_in present old.muted lo hi) heard
    × ((u : ℕ) → KeepsMuted u old new)
    × LineCounts new (lost_after (due_in present old.muted lo hi) heard old.lost_branches) 0 0
HonestStep present old (Mute u) heard new =
    ((v : ℕ) → (u == v) ≡ false → KeepsMuted v old new)
    × MatchBool (has present u)
    (MuteMoves u old heard new)
    ((heard ≡ Silent) × KeepsMuted u old new × LineCounts new 0 0 0)
HonestStep present old Unmute heard new = ((u : ℕ) → UnmuteMoves u old new) × LineCounts new 0 0 (old.unmutes + 1)
HonestStep present old Other heard new = ((u : ℕ) → KeepsMuted u old new) × LineCounts new 0 0 0

-- a line on which only this device has to follow the rules, whatever the others do, may answer like this, and then be
-- in the state new
abbrev pub HonestToStep : ℕ → LineState → Asked → Heard → LineState → Type 0
HonestToStep u old (Branch lo hi) heard new =
    KeepsMuted u old new × LineCounts new (lost_after (due_in (u ∷ []) old.muted lo hi) heard old.lost_branches) 0 0
HonestToStep u old (Mute v) heard new =
    MatchBool (u == v) (MuteMoves u old heard new) (KeepsMuted u old new × LineCounts new 0 0 0)
HonestToStep u old Unmute heard new = UnmuteMoves u old new × LineCounts new 0 0 (old.unmutes + 1)
HonestToStep u old Other heard new = KeepsMuted u old new × LineCounts new 0 0 0

-- consecutive steps from a state, up to the first failure, after which nothing is asked
abbrev pub Chain : (LineState → Asked → Heard → LineState → Type 0) → LineState → List Seen → Type 0
Chain Step old [] = Unit {0}
Chain Step old (x ∷ xs) = (x.heard ≡ Failed) ⊎ ((new : LineState) × Step old x.asked x.heard new × Chain Step new xs)

-- the state before a run: any devices muted, the counts 0
abbrev pub before_run : (ℕ → Bool) → LineState
before_run muted = record { muted = muted; lost_branches = 0; lost_mutes = 0; unmutes = 0 }

-- a run's exchanges on an honest line with these devices
abbrev pub HonestTrace : List ℕ → List Seen → Type 0
HonestTrace present x = IsDeviceSet present × (muted : ℕ → Bool) × Chain (HonestStep present) (before_run muted) x

-- a run's exchanges on a line that is honest to u
abbrev pub HonestTo : ℕ → List Seen → Type 0
HonestTo u x = (muted : ℕ → Bool) × Chain (HonestToStep u) (before_run muted) x
