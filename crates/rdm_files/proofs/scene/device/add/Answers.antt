use Rattle.std.proofs.Common.{◌≡◌, true, sym, ap, ◌∙◌, Err, true≢false}
use Rattle.serde_json.specs.View.{view}
use Rattle.rdm_wire.specs.Uid.{has}
use Rattle.rdm_line.specs.Scenes.{uids_of_scene}
use Rattle.rdm_files.proofs.DeviceForms.{one_device}
use Rattle.rdm_files.proofs.scene.device.add.Goals as goal

pub returns-in-Err-Repeated-clause-refused : goal.returns-in-Err-Repeated-clause-refused
returns-in-Err-Repeated-clause-refused c other d says new =
    let there : has (uids_of_scene c.args.devices.now) c.in_ok-device.device.device.uid
    ≡ true = c.in-Err-Repeated.ensures.repeated.0 (ap Err c.in-Err-Repeated.field-0-is) in
    absurd (true≢false
    (sym there ∙ ap (has (uids_of_scene c.args.devices.now))
    (one_device (view c.args.value.now) c.in_ok-device.device d c.in_ok-device.ensures says) ∙ new))
