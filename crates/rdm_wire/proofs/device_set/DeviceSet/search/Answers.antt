use Rattle.std.proofs.Common.{rules}
use Rattle.std.proofs.lemmas.List.Sorted.{answers_always}
use Rattle.rdm_wire.proofs.DeviceLemmas.{Searched, searched-device}
use Rattle.rdm_wire.proofs.device_set.DeviceSet.search.Goals as goal

-- the closure gives a device's UID, and the slice is the set's devices
searched : (c : goal.After-binary_search_by_key) → Searched c.args.self.now c.args.uid c.binary_search_by_key.result
searched c =
    let facts = c.binary_search_by_key.ensures in
    let by_uid = facts.position (λ d. d.uid) (answers_always _ _ _ (λ f a r g called. search rules)) in
    rw (← c.as_slice.ensures.value)
    (searched-device _ c.args.uid _ facts.bound by_uid
    (rw c.as_slice.ensures.value c.as_slice.ensures.devices.ascending))

pub returns-clause-there : goal.returns-clause-there
returns-clause-there c = (searched c).there

pub returns-clause-found : goal.returns-clause-found
returns-clause-found c = (searched c).found

pub returns-clause-absent : goal.returns-clause-absent
returns-clause-absent c = (searched c).absent

pub returns-clause-index : goal.returns-clause-index
returns-clause-index c = (searched c).index

pub returns-clause-none : goal.returns-clause-none
returns-clause-none c = (searched c).none
