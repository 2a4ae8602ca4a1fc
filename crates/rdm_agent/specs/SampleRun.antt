-- Runs on small lines.
use Rattle.std.specs.Prelude.{ℕ, List, [], ◌∷◌, ◌++◌, replicate, Some, None}
use Rattle.rdm_wire.specs.Honest.{Seen, Asked, Heard}
use Rattle.rdm_wire.specs.Honest.Asked.{Unmute, Branch, Mute}
use Rattle.rdm_wire.specs.Honest.Heard.{Failed, Silent, One, Acked, Noise}
use Rattle.rdm_wire.specs.declared.device.Device.{Device}
use Rattle.rdm_wire.specs.declared.mute_ack.MuteAck.{MuteAck}

-- an exchange that asked this and heard this
abbrev pub exchange : Asked → Heard → Seen
exchange asked heard = record { asked = asked; heard = heard }

-- the UID of the first device
abbrev pub sample_uid : ℕ
sample_uid = 0x123400000001

-- its acknowledgement: control field 0002, binding UID 1234:00000005
abbrev pub sample_ack : MuteAck
sample_ack = record { control = 0x0002; binding = Some 0x123400000005 }

-- the first device, with the data of its acknowledgement
abbrev pub sample_device : Device
sample_device = record { uid = 0x123400000001; control = 0x0002; binding = Some 0x123400000005 }

-- a branch of all UIDs
abbrev pub all_branch : Asked
all_branch = Branch 0 0xffffffffffff

-- a line with one device: ten exchanges
abbrev pub sample_run : List Seen
sample_run =
    exchange Unmute Silent ∷ exchange Unmute Silent ∷ exchange Unmute Silent ∷ exchange all_branch (One sample_uid)
    ∷ exchange (Mute sample_uid) (Acked sample_ack)
    ∷ exchange all_branch Silent ∷ exchange all_branch Silent ∷ exchange all_branch Silent
    ∷ exchange all_branch Silent ∷ exchange all_branch Silent ∷ []

-- the same, but this many branches and then this many mutes are lost
abbrev pub lossy_run : ℕ → ℕ → List Seen
lossy_run branches mutes =
    replicate 3 (exchange Unmute Silent) ++ (replicate branches (exchange all_branch Silent)
    ++ (exchange all_branch (One sample_uid) ∷ (replicate mutes (exchange (Mute sample_uid) Silent)
    ++ (exchange (Mute sample_uid) (Acked sample_ack) ∷ replicate 5 (exchange all_branch Silent)))))

-- the UID of another device
abbrev pub other_uid : ℕ
other_uid = 0x9abc00000002

-- the other device, with the data of its acknowledgement
abbrev pub other_device : Device
other_device = record { uid = other_uid; control = 0; binding = None }

-- a branch of the lower half of all UIDs
abbrev pub lower_branch : Asked
lower_branch = Branch 0 0x7fffffffffff

-- a branch of the upper half of all UIDs
abbrev pub upper_branch : Asked
upper_branch = Branch 0x800000000000 0xffffffffffff

-- a run on a line with both devices, on which the branch of the whole range collides
abbrev pub colliding_run : List Seen
colliding_run =
    replicate 3 (exchange Unmute Silent) ++ (exchange all_branch Noise ∷ exchange lower_branch (One sample_uid)
    ∷ exchange (Mute sample_uid) (Acked sample_ack) ∷ (replicate 5 (exchange lower_branch Silent)
    ++ (exchange upper_branch (One other_uid)
    ∷ exchange (Mute other_uid) (Acked (record { control = 0; binding = None }))
    ∷ replicate 5 (exchange upper_branch Silent))))

-- the same line, swept
abbrev pub swept_run : List Seen
swept_run =
    replicate 3 (exchange Unmute Silent) ++ (exchange all_branch Noise ∷ exchange lower_branch (One sample_uid)
    ∷ exchange (Mute sample_uid) (Acked sample_ack) ∷ exchange upper_branch (One other_uid)
    ∷ exchange (Mute other_uid) (Acked (record { control = 0; binding = None }))
    ∷ replicate 5 (exchange all_branch Silent))

-- the line fails at the first branch
abbrev pub failed_run : List Seen
failed_run = replicate 3 (exchange Unmute Silent) ++ exchange all_branch Failed ∷ []

-- a mute of another UID is answered by bytes that acknowledge nothing
abbrev pub garbled_run : List Seen
garbled_run = exchange (Mute other_uid) Noise ∷ []

-- a UID that isn't there
abbrev pub absent_uid : ℕ
absent_uid = 0x567800000009

-- a run that knows the first device and the absent UID. The first mute's acknowledgement is lost, five mutes of the
-- absent UID are silent, and the other device is found
abbrev pub incremental_run : List Seen
incremental_run =
    replicate 3 (exchange Unmute Silent) ++ (exchange (Mute sample_uid) Silent
    ∷ exchange (Mute sample_uid) (Acked sample_ack) ∷ (replicate 5 (exchange (Mute absent_uid) Silent)
    ++ (exchange all_branch (One other_uid) ∷ exchange (Mute other_uid) (Acked (record { control = 0; binding = None }))
    ∷ replicate 5 (exchange all_branch Silent))))

-- a run on a noisy line with the first device. Noise damages its reply to the branch of all UIDs and its first
-- acknowledgement. In the upper half, where nobody is, it makes bytes, so both halves of that half are branched
abbrev pub noisy_run : List Seen
noisy_run =
    replicate 3 (exchange Unmute Silent) ++ (exchange all_branch Noise ∷ exchange lower_branch (One sample_uid)
    ∷ exchange (Mute sample_uid) Noise ∷ exchange (Mute sample_uid) (Acked sample_ack)
    ∷ (replicate 5 (exchange lower_branch Silent) ++ (exchange upper_branch Noise
    ∷ (replicate 5 (exchange (Branch 0x800000000000 0xbfffffffffff) Silent)
    ++ replicate 5 (exchange (Branch 0xc00000000000 0xffffffffffff) Silent)))))
