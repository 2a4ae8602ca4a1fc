-- Sets of devices as lists that ascend by UID.
use Rattle.std.specs.Prelude.{ℕ, List, [], ◌∷◌, map, Option, Some, None, ◌==◌, nat_lt, if◌then◌else◌}
use Rattle.rdm_wire.specs.declared.device.Device.{Device}

-- the UIDs of devices, in their order
abbrev pub uids_of : List Device → List ℕ
uids_of ds = map (λ d. d.uid) ds

-- the first device with the UID u
abbrev pub device_with : List Device → ℕ → Option Device
device_with [] u = None
device_with (d ∷ ds) u = if u == d.uid then Some d else device_with ds u

-- the set with d added, ascending by UID. If the set already has a device with that UID, it is unchanged
abbrev pub with_device : Device → List Device → List Device
with_device d [] = d ∷ []
with_device d (e ∷ es) =
    if nat_lt d.uid e.uid then d ∷ e ∷ es else (if d.uid == e.uid then e ∷ es else e ∷ with_device d es)
