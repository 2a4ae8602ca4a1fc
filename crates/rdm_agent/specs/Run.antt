-- A run's exchanges.
use Rattle.std.specs.Prelude.{◌≡◌, ℕ, Bool, true, false, List, [], ◌∷◌, ◌++◌, length, take, Option, Some, None}
use Rattle.std.specs.Prelude.{filter_map}
use Rattle.std.specs.List.{AllByRecursion}
use Rattle.rdm_wire.specs.Uid.{set_of}
use Rattle.rdm_wire.specs.Devices.{uids_of, device_with}
use Rattle.rdm_wire.specs.declared.device.Device.{Device}
use Rattle.rdm_wire.specs.declared.uid_set.TheConstants.{MOST_DEVICES}
use Rattle.rdm_wire.specs.Lists.{once}
use Rattle.rdm_wire.specs.declared.branch.BranchReply.{BranchReply}
use Rattle.rdm_wire.specs.declared.branch.BranchReply.TheVariants as replies
use Rattle.rdm_wire.specs.declared.mute_ack.MuteAck.{MuteAck}
use Rattle.rdm_wire.specs.Honest.{Asked, Heard, Seen, is_acked}
use Rattle.rdm_wire.specs.Honest.Asked.{Unmute, Branch, Mute, Other}
use Rattle.rdm_wire.specs.Honest.Heard.{Failed, Silent, One, Acked, Noise}
use Rattle.rdm_agent.specs.declared.op.Op.{Op}
use Rattle.rdm_agent.specs.declared.op.Op.TheVariants as ops
use Rattle.rdm_agent.specs.declared.op.OpReply.{OpReply}
use Rattle.rdm_agent.specs.declared.op.OpReply.TheVariants as came

-- what an operation asks
abbrev pub asked_by : Op → Asked
asked_by ops.UnmuteAll = Unmute
asked_by (ops.Mute u) = Mute u
asked_by (ops.Branch r) = Branch r.lo r.hi
asked_by ops.End = Other

-- how the reply to a branch is heard
abbrev pub heard_of_branch : BranchReply → Heard
heard_of_branch replies.Silent = Silent
heard_of_branch (replies.One u) = One u
heard_of_branch replies.Collision = Noise

-- how the reply to a mute is heard: its acknowledgement, or silence
abbrev pub heard_of_mute : Option MuteAck → Heard
heard_of_mute None = Silent
heard_of_mute (Some ack) = Acked ack

-- how a reply is heard
abbrev pub heard_by : OpReply → Heard
heard_by came.Done = Silent
heard_by (came.Mute ack) = heard_of_mute ack
heard_by came.Garbled = Noise
heard_by (came.Branch reply) = heard_of_branch reply
heard_by came.Failed = Failed

-- the reply to a mute after these bytes, which acknowledge it like this
abbrev pub mute_reply : Option MuteAck → List ℕ → OpReply
mute_reply (Some ack) bytes = came.Mute (Some ack)
mute_reply None [] = came.Mute None
mute_reply None (b ∷ bs) = came.Garbled

-- an operation with its reply, as an exchange
abbrev pub seen_op : Op × OpReply → Seen
seen_op e = record { asked = asked_by e.0; heard = heard_by e.1 }

-- the UID that is muted by what was asked
abbrev pub muted_uid : Asked → Option ℕ
muted_uid (Mute u) = Some u
muted_uid _ = None

-- the UID whose mute was acknowledged
abbrev pub acked_uid : Asked → Heard → Option ℕ
acked_uid (Mute u) (Acked ack) = Some u
acked_uid _ _ = None

-- the UID that the reply to a branch spelt
abbrev pub spelt_uid : Asked → Heard → Option ℕ
spelt_uid (Branch lo hi) (One u) = Some u
spelt_uid _ _ = None

-- whether a branch was asked
abbrev pub asks_range : Asked → Bool
asks_range (Branch lo hi) = true
asks_range _ = false

-- the UID that an exchange mutes
abbrev pub muted_by : Seen → Option ℕ
muted_by x = muted_uid x.asked

-- the UID whose mute an exchange finds acknowledged
abbrev pub acked_by : Seen → Option ℕ
acked_by x = acked_uid x.asked x.heard

-- the UID that an exchange reads from the reply to a branch
abbrev pub read_by : Seen → Option ℕ
read_by x = spelt_uid x.asked x.heard

-- whether an exchange is a branch
abbrev pub is_branch : Seen → Bool
is_branch x = asks_range x.asked

-- the UIDs that were muted, in order
abbrev pub muted_in : List Seen → List ℕ
muted_in x = filter_map muted_by x

-- the UIDs whose mute was acknowledged, in order
abbrev pub acked_in : List Seen → List ℕ
acked_in x = filter_map acked_by x

-- the UIDs that were read, in order
abbrev pub read_in : List Seen → List ℕ
read_in x = filter_map read_by x

-- the device u with the data of this acknowledgement of its mute
abbrev pub device_from : ℕ → MuteAck → Device
device_from u ack = record { uid = u; control = ack.control; binding = ack.binding }

-- the device whose mute was acknowledged like this, with the data of the acknowledgement
abbrev pub acked_device : Asked → Heard → Option Device
acked_device (Mute u) (Acked ack) = Some (device_from u ack)
acked_device _ _ = None

-- the device whose mute an exchange finds acknowledged, with the data of the acknowledgement
abbrev pub device_by : Seen → Option Device
device_by x = acked_device x.asked x.heard

-- the devices of all acknowledgements, in order
abbrev pub devices_in : List Seen → List Device
devices_in x = filter_map device_by x

-- the UIDs that are reported: the acknowledged ones; if there are more than fit into a set, the first ones
abbrev pub reported : List Seen → List ℕ
reported x = set_of (take MOST_DEVICES (once (acked_in x)))

-- each device with the data of its first acknowledgement
abbrev pub AsFirstAcked : List Seen → List Device → Type 0
AsFirstAcked x s = AllByRecursion (λ d. device_with (devices_in x) d.uid ≡ Some d) s

-- the devices that are reported
pub record IsReport (x : List Seen) (s : List Device) : Type 0 where
  pub uids : uids_of s ≡ reported x
  pub first : AsFirstAcked x s

-- nothing follows a failure
abbrev pub FailureIsLast : List Seen → Type 0
FailureIsLast x =
    (front back : List Seen) (e : Seen) → x ≡ front ++ e ∷ back → e.heard ≡ Failed → back ≡ []

-- n consecutive exchanges of the list have P
pub record InSuccession (n : ℕ) (P : Seen → Type 0) (x : List Seen) : Type 0 where
  pub front : List Seen
  pub run : List Seen
  pub back : List Seen
  pub whole : x ≡ front ++ run ++ back
  pub many : length run ≡ n
  pub each : AllByRecursion P run

-- a branch of this range without a byte
abbrev pub IsSilentBranch : ℕ → ℕ → Seen → Type 0
IsSilentBranch lo hi x = (x.asked ≡ Branch lo hi) × (x.heard ≡ Silent)

-- a mute of u without an acknowledgement
abbrev pub IsLostMute : ℕ → Seen → Type 0
IsLostMute u x = (x.asked ≡ Mute u) × (is_acked x.heard ≡ false)
