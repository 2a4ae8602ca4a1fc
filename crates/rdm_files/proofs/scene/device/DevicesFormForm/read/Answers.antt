use Rattle.std.proofs.Common.{sym, ◌∙◌, arith}
use Rattle.serde_json.specs.View.{view}
use Rattle.rdm_files.proofs.DeviceForms.{none_ordered, one_ordered, all_ordered, none_listed, too_many}
use Rattle.rdm_files.proofs.scene.device.DevicesFormForm.read.Goals as goal

pub returns-then-len-gt-MOST_DEVICES : goal.returns-then-len-gt-MOST_DEVICES
returns-then-len-gt-MOST_DEVICES c other =
    too_many (view c.args.value.now) c.in-Some.values.now.items c.in-Some.ensures (omega arith)

pub devices-init : goal.devices-init
devices-init c = none_ordered c.in-Some.values.now.items c.new-devices.result c.new-devices.ensures

pub returns-in-Err : goal.returns-in-Err
returns-in-Err c other = none_listed (view c.args.value.now) c.in-Some.values.now.items c.devices.i c.index.result.now
    c.devices.devices c.in-Some.ensures (omega arith) (omega arith) c.index.ensures c.devices.invariant
    (c.in-Err.ensures.refused (sym c.in_item.ensures ∙ other))

pub devices-preserved : goal.devices-preserved
devices-preserved c =
    one_ordered c.in-Some.values.now.items c.devices.i c.index.result.now c.devices.devices c.add.new.devices
    (omega arith) c.index.ensures c.devices.invariant c.in-Ok.ensures.added

pub returns : goal.returns
returns c = all_ordered (view c.args.value.now) c.in-Some.values.now.items c.devices.i c.devices.devices
    c.in-Some.ensures (omega arith) (omega arith) c.devices.invariant
