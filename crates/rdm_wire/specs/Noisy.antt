-- The noisy line: an honest one, but noise may damage replies, and make bytes where none were sent.
use Rattle.std.specs.Prelude.{◌≡◌, ◌≢◌, ◌⊎◌, ℕ, ◌+◌, Bool, true, false, ◌&&◌, not, List, [], ◌∷◌, ◌==◌}
use Rattle.std.specs.Prelude.{if◌then◌else◌, MatchBool}
use mathlib.Core.Logic.{inl, inr}
use Rattle.rdm_wire.specs.Uid.{has, IsDeviceSet}
use Rattle.rdm_wire.specs.Honest.{Asked, Heard, Seen, LineState, KeepsMuted, LineCounts, HonestStep, HonestToStep}
use Rattle.rdm_wire.specs.Honest.{due_in, lost_after, is_acked, before_run, Chain}
use Rattle.rdm_wire.specs.Honest.Asked.{Unmute, Branch, Mute, Other}
use Rattle.rdm_wire.specs.Honest.Heard.{Failed, Silent, One}

-- what may be heard after a branch from lo to hi, whoever is due to answer it: any bytes, or none. But the branch of
-- one absent UID alone isn't answered by that UID's text
abbrev pub MayHearInNoise : List ℕ → ℕ → ℕ → Heard → Type 0
MayHearInNoise present lo hi heard = lo ≡ hi → has present lo ≡ false → heard ≢ One lo

-- a mute of u is acknowledged, and u is muted; or it isn't, whatever bytes come, and u is muted or as before
abbrev pub MuteMovesInNoise : ℕ → LineState → Heard → LineState → Type 0
MuteMovesInNoise u old heard new =
    ((is_acked heard ≡ true) × (new.muted u ≡ true) × LineCounts new 0 0 0)
    ⊎ ((is_acked heard ≡ false) × ((new.muted u ≡ true) ⊎ KeepsMuted u old new)
    × LineCounts new 0 (old.lost_mutes + 1) 0)

-- a noisy line with these devices may answer like this, and then be in the state new. A mute of an absent UID may bring
-- any bytes but its acknowledgement. Lost replies are counted as on an honest line; so are mutes of devices that aren't
-- acknowledged, silent or not. An unmute and any other frame do what they do on an honest line
abbrev pub NoisyStep : List ℕ → LineState → Asked → Heard → LineState → Type 0
NoisyStep present old (Branch lo hi) heard new =
    MayHearInNoise present lo hi heard
    × ((u : ℕ) → KeepsMuted u old new)
    × LineCounts new (lost_after (due_in present old.muted lo hi) heard old.lost_branches) 0 0
NoisyStep present old (Mute u) heard new =
    ((v : ℕ) → (u == v) ≡ false → KeepsMuted v old new)
    × MatchBool (has present u)
    (MuteMovesInNoise u old heard new)
    ((is_acked heard ≡ false) × KeepsMuted u old new × LineCounts new 0 0 0)
NoisyStep present old Unmute heard new = HonestStep present old Unmute heard new
NoisyStep present old Other heard new = HonestStep present old Other heard new

-- a line on which only this device has to follow the rules, whatever the others and noise do, may answer like this, and
-- then be in the state new
abbrev pub NoisyToStep : ℕ → LineState → Asked → Heard → LineState → Type 0
NoisyToStep u old (Mute v) heard new =
    MatchBool (u == v) (MuteMovesInNoise u old heard new) (KeepsMuted u old new × LineCounts new 0 0 0)
NoisyToStep u old (Branch lo hi) heard new = HonestToStep u old (Branch lo hi) heard new
NoisyToStep u old Unmute heard new = HonestToStep u old Unmute heard new
NoisyToStep u old Other heard new = HonestToStep u old Other heard new

-- a run's exchanges on a noisy line with these devices
abbrev pub NoisyTrace : List ℕ → List Seen → Type 0
NoisyTrace present x = IsDeviceSet present × (muted : ℕ → Bool) × Chain (NoisyStep present) (before_run muted) x

-- a run's exchanges on a noisy line on which u follows the rules, whatever the others do
abbrev pub NoisyTo : ℕ → List Seen → Type 0
NoisyTo u x = (muted : ℕ → Bool) × Chain (NoisyToStep u) (before_run muted) x

-- whether bytes came
abbrev pub has_bytes : Heard → Bool
has_bytes Failed = false
has_bytes Silent = false
has_bytes _ = true

-- whether the text of u came
abbrev pub is_text_of : ℕ → Heard → Bool
is_text_of u (One v) = u == v
is_text_of u _ = false

-- whether a branch that these devices were due to answer was disturbed: by bytes, if none was due; by bytes that aren't
-- its text, if one was. Where several were due, none are judged
abbrev pub is_disturbed_branch : List ℕ → Heard → Bool
is_disturbed_branch [] heard = has_bytes heard
is_disturbed_branch (u ∷ []) heard = has_bytes heard && not (is_text_of u heard)
is_disturbed_branch (u ∷ v ∷ us) heard = false

-- whether an exchange was disturbed. A mute was if bytes came that aren't its acknowledgement, of a device or not
abbrev pub is_disturbed : List ℕ → LineState → Asked → Heard → Bool
is_disturbed present old (Branch lo hi) heard = is_disturbed_branch (due_in present old.muted lo hi) heard
is_disturbed present old (Mute u) heard = has_bytes heard && not (is_acked heard)
is_disturbed present old Unmute heard = false
is_disturbed present old Other heard = false

-- how many exchanges of a noisy line were disturbed
abbrev pub disturbed_in : (present : List ℕ) (old : LineState) (x : List Seen) → Chain (NoisyStep present) old x → ℕ
disturbed_in present old [] chain = 0
disturbed_in present old (e ∷ x) (inl failed) = 0
disturbed_in present old (e ∷ x) (inr step) =
    (if is_disturbed present old e.asked e.heard then 1 else 0) + disturbed_in present step.0 x step.2

-- a run's exchanges on a noisy line with these devices, w of them disturbed
abbrev pub NoisyTraceWith : List ℕ → ℕ → List Seen → Type 0
NoisyTraceWith present w x =
    (trace : NoisyTrace present x) × (disturbed_in present (before_run trace.1) x trace.2 ≡ w)
