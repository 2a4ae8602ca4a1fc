use Rattle.std.proofs.Common.{◌<◌, ap, subst, rules, length}
use Rattle.std.specs.Prelude.{is_ok}
use Rattle.rdm_wire.specs.Uid.{IsDevice}
use Rattle.rdm_line.specs.body.SceneIndices.{IsFreeAt}
use Rattle.rdm_line.proofs.SceneLemmas.{inserted_ok, scene-inserted}
use Rattle.rdm_line.proofs.scene_devices.SceneDevices.add.Goals as goal
use Rattle.rdm_line.proofs.scene_devices.SceneDevices.add.Goals.{in-Ok, in-Err}

free : (c : goal.Joined-insert-2) → IsFreeAt c.in-Some.index c.args.device.device.uid c.args.self.now
free c = subst (λ u. IsFreeAt c.in-Some.index u c.args.self.now) c.uid.ensures c.in-Some.ensures.index.1

pub invariant_of-self : goal.invariant_of-self
invariant_of-self c =
    let own : IsDevice c.args.device.device.uid = record {
      in_range = rw (← c.uid.ensures) c.free_index.ensures.in_range;
      own = c.requires.own;
    } in
    let few : length c.args.self.now < 1024 = search rules in
    scene-inserted (is_ok c.insert.result) c.args.device c.args.self.now c.insert.new.self.items c.in-Some.index
    (rw c.self.view_is at c.insert.ensures.items)
    (rw c.self.view_is at c.self.invariant) own (record { preamble = c.requires.preamble; from = c.requires.from })
    (free c) few

pub returns-clause-added : goal.returns-clause-added
returns-clause-added c = elim c.match-insert.branch [
  | in-Ok w ↦ rw w.result-is (inserted_ok (is_ok c.insert.result) c.args.device c.args.self.now c.insert.new.self.items
      c.in-Some.index (ap is_ok w.in-Ok.is) (rw c.self.view_is at c.insert.ensures.items) (free c))
  | in-Err w ↦ rw w.result-is tt
]
