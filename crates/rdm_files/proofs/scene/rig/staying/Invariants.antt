use Rattle.std.proofs.Common.{◌≡◌, take}
use Rattle.std.specs.Prelude.{filter}
use Rattle.rdm_line.specs.Scenes.{uids_of_scene}
use Rattle.rdm_files.specs.RigFiles.{stays}
use Rattle.rdm_files.proofs.scene.rig.staying.Given as goal

abbrev pub invariant-devices : goal.invariant-devices
invariant-devices l = l.uids.items ≡ uids_of_scene (filter stays (take l.device-index l.devices))
