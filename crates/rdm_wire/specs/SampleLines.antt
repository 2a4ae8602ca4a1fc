-- Lines of one and of two devices, for the laws on honest and on noisy lines.
use Rattle.std.specs.Prelude.{ℕ, List, [], ◌∷◌, None}
use Rattle.rdm_wire.specs.Honest.{Heard, Seen}
use Rattle.rdm_wire.specs.Honest.Asked.{Branch, Mute}
use Rattle.rdm_wire.specs.Honest.Heard.{One, Acked, Noise}

-- the device 1234:00000001
abbrev pub first_device : ℕ
first_device = 0x123400000001

-- a line with that device alone
abbrev pub one_there : List ℕ
one_there = first_device ∷ []

-- a line with that device and 9abc:00000002
abbrev pub two_there : List ℕ
two_there = first_device ∷ 0x9abc00000002 ∷ []

-- a branch of all UIDs, after which this was heard
abbrev pub asked_all : Heard → Seen
asked_all heard = record { asked = Branch 0 0xffffffffffff; heard = heard }

-- a UID of no device
abbrev pub absent_device : ℕ
absent_device = 0x567800000009

-- a mute of u, after which this was heard
abbrev pub asked_mute : ℕ → Heard → Seen
asked_mute u heard = record { asked = Mute u; heard = heard }

-- a branch of u alone, after which this was heard
abbrev pub asked_alone : ℕ → Heard → Seen
asked_alone u heard = record { asked = Branch u u; heard = heard }

-- noise on the line of the one device. It damages the device's reply, and then makes another UID's text of it. A mute
-- of that UID brings bytes, the device's acknowledgement is damaged before one comes, and bytes come from nobody
abbrev pub noisy_exchanges : List Seen
noisy_exchanges =
    asked_all Noise ∷ asked_all (One absent_device) ∷ asked_mute absent_device Noise ∷ asked_mute first_device Noise
    ∷ asked_mute first_device (Acked (record { control = 0; binding = None })) ∷ asked_all Noise ∷ []
