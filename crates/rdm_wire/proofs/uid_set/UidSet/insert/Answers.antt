use Rattle.std.proofs.Common.{◌≡◌, sym, ◌∙◌}
use Rattle.rdm_wire.specs.Uid.{with_uid, IsDevice}
use Rattle.rdm_wire.proofs.SetLemmas.{with_uid-present, devices-with_uid}
use Rattle.rdm_wire.proofs.uid_set.UidSet.insert.Goals as goal

pub returns-in_default-clause-inserted : goal.returns-in_default-clause-inserted
returns-in_default-clause-inserted c =
    sym (with_uid-present _ _ c.index_for.ensures.devices.ascending c.in_default.ensures.there)

pub invariant_of-self : goal.invariant_of-self
invariant_of-self c =
    let device : IsDevice c.args.uid = record { in_range = c.index_for.ensures.in_range; own = c.requires } in
    let new : c.insert.new.self.items ≡ with_uid c.args.uid c.args.self.now = c.insert.ensures.items
    ∙ rw c.self.view_is (sym c.in-Some.ensures.index.1) in
    rw new (devices-with_uid c.args.uid c.args.self.now device c.index_for.ensures.devices)

pub returns-clause-devices : goal.returns-clause-devices
returns-clause-devices c = (c.index_for.ensures.devices, invariant_of-self c)
