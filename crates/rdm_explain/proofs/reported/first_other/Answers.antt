use Rattle.std.proofs.Common.{◌≡◌, ◌∙◌, sym, subst, true}
use Rattle.std.specs.List.{AllByRecursion}
use Rattle.std.proofs.lemmas.List.{take_all}
use Rattle.rdm_wire.specs.declared.device.Device.{Device}
use Rattle.rdm_explain.specs.body.Trees.{in_tree}
use Rattle.rdm_explain.proofs.ElementLemmas.{least_other, no_other}
use Rattle.rdm_explain.proofs.reported.first_other.Goals as goal

pub returns-then-not-contains : goal.returns-then-not-contains
returns-then-not-contains c =
    least_other (in_tree c.args.uids.now) c.args.devices.now c.loop-device.device-index c.device-item.result
    c.loop-device-test.true c.device-item.is c.requires c.loop-device.invariant
    (sym c.contains.ensures ∙ c.if-not-contains.true)

pub returns : goal.returns
returns c =
    no_other (in_tree c.args.uids.now) c.args.devices.now
    (subst (λ l. AllByRecursion (λ (d : Device). in_tree c.args.uids.now d.uid ≡ true) l)
    (take_all _ _ c.loop-device-test.false) c.loop-device.invariant)
