-- The first device of each UID, in a tree.
use Rattle.std.specs.Prelude.{ℕ, Option, Some, None, ◌==◌, if◌then◌else◌}
use Rattle.std.specs.Ordering.{nat_cmp}
use Rattle.std.specs.BTreeMap.{get}
use Rattle.rdm_wire.specs.declared.device.Device.{Device}
use Rattle.rdm_explain.specs.declared.firsts.Firsts.{Firsts}

-- the device with this UID
abbrev pub first_in : Firsts → ℕ → Option Device
first_in t u = get nat_cmp t.tree u

-- the first one, or else the second
abbrev pub or_else : Option Device → Option Device → Option Device
or_else (Some d) o = Some d
or_else None o = o

-- the device if its UID is u
abbrev pub if_uid : Device → ℕ → Option Device
if_uid d u = if u == d.uid then Some d else None
