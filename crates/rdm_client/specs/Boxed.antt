-- The devices that a discovery found, outside of its completion.
use Rattle.std.specs.Prelude.{List, [], Option, Some, None, Box}
use Rattle.std.specs.Arc.{arc_value}
use Rattle.rdm_wire.specs.declared.device.Device.{Device}
use Rattle.rdm_client.specs.declared.found_set.FoundSet.{FoundSet}
use Rattle.rdm_client.specs.declared.found_set.FoundSet.TheVariants.{Empty, Boxed, Shared}

-- the devices in this box; none if there is no box
abbrev pub devices_in : {Z : Type 0} → Option (Box (List Device) Z) → List Device
devices_in None = []
devices_in (Some set) = set.value

-- the devices in this memory
abbrev pub devices_of : FoundSet → List Device
devices_of Empty = []
devices_of (Boxed set) = set.value
devices_of (Shared set) = (arc_value set).value
