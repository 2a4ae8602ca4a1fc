-- The devices that exchanges report.
use Rattle.std.specs.Prelude.{◌||◌, ◌==◌, List, [], length, fold, if◌then◌else◌}
use Rattle.rdm_wire.specs.Uid.{is_broadcast}
use Rattle.rdm_wire.specs.Devices.{with_device}
use Rattle.rdm_wire.specs.declared.device.Device.{Device}
use Rattle.rdm_wire.specs.declared.uid_set.TheConstants.{MOST_DEVICES}
use Rattle.rdm_wire.specs.Honest.{Seen}
use Rattle.rdm_agent.specs.Run.{devices_in}

-- the set with d added, unless its UID is no device's or the set is full
abbrev pub with_reported : List Device → Device → List Device
with_reported ds d = if is_broadcast d.uid || (length ds == MOST_DEVICES) then ds else with_device d ds

-- the set of the devices whose mutes were acknowledged, one after another
abbrev pub reported_in : List Seen → List Device
reported_in x = fold with_reported [] (devices_in x)
