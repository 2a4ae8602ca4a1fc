use Rattle.rdm_wire.proofs.SetLemmas.{IsInsertionIndex, search-there, search-absent, has-at_insertion, with_uid-insert}
use Rattle.rdm_wire.proofs.uid_set.UidSet.index_for.Goals as goal

pub returns-in-Ok-clause-there : goal.returns-in-Ok-clause-there
returns-in-Ok-clause-there c =
    search-there c.args.self.now c.args.uid c.in-Ok.field-0 (rw c.as_slice.ensures.value at c.in-Ok.ensures.position)
    c.as_slice.ensures.devices.ascending

position : (c : goal.In-Err) → IsInsertionIndex c.args.self.now c.args.uid c.in-Err.index
position c =
    search-absent c.args.self.now c.args.uid c.in-Err.index (rw c.as_slice.ensures.value at c.in-Err.ensures.position)
    c.as_slice.ensures.devices.ascending

pub returns-in-Err-clause-absent : goal.returns-in-Err-clause-absent
returns-in-Err-clause-absent c = has-at_insertion c.args.uid c.args.self.now c.in-Err.index (position c)

pub returns-in-Err-clause-index : goal.returns-in-Err-clause-index
returns-in-Err-clause-index c =
    ((position c).within, with_uid-insert c.args.uid c.args.self.now c.in-Err.index (position c))
