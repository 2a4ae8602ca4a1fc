use Rattle.std.proofs.Common.{◌≡◌, ap, subst, sym, ◌∙◌, refl}
use Rattle.rdm_wire.specs.Uid.{IsDevice, IsDeviceSet}
use Rattle.rdm_wire.specs.Devices.{uids_of, with_device}
use Rattle.rdm_wire.proofs.SetLemmas.{with_uid-present, devices-with_uid}
use Rattle.rdm_wire.proofs.DeviceLemmas.{with_device-present, uids_of-with_device}
use Rattle.rdm_wire.proofs.device_set.DeviceSet.insert.Goals as goal

pub returns-in_default-clause-inserted : goal.returns-in_default-clause-inserted
returns-in_default-clause-inserted c =
    sym (with_device-present _ _ c.index_for.ensures.devices.ascending c.in_default.ensures.there)

pub returns-in_default-clause-uids : goal.returns-in_default-clause-uids
returns-in_default-clause-uids c =
    sym (with_uid-present _ _ c.index_for.ensures.devices.ascending c.in_default.ensures.there)

-- the set is the old one with the device
inserted : (c : goal.After-insert) → c.insert.new.self.items ≡ with_device c.args.device c.args.self.now
inserted c = c.insert.ensures.items ∙ rw c.self.view_is (sym (c.in-Some.ensures.index.1 c.args.device refl))

pub returns-clause-uids : goal.returns-clause-uids
returns-clause-uids c = ap uids_of (inserted c) ∙ uids_of-with_device c.args.device c.args.self.now

pub invariant_of-self : goal.invariant_of-self
invariant_of-self c =
    let device : IsDevice c.args.device.uid = record {
      in_range = c.index_for.ensures.uid_in_range;
      own = c.requires;
    } in
    subst IsDeviceSet (sym (returns-clause-uids c))
    (devices-with_uid c.args.device.uid (uids_of c.args.self.now) device c.index_for.ensures.devices)

pub returns-clause-devices : goal.returns-clause-devices
returns-clause-devices c = (c.index_for.ensures.devices, invariant_of-self c)
