use Rattle.std.proofs.Common.{rules}
use Rattle.rdm_line.proofs.SceneLemmas.{is_there, not_there_at}
use Rattle.rdm_line.proofs.scene_devices.SceneDevices.free_index.Goals as goal

pub returns-then-has_at-clause-there : goal.returns-then-has_at-clause-there
returns-then-has_at-clause-there c =
    is_there c.args.self.now c.args.uid c.count_below-index.result c.count_below-index.ensures.value (search rules)

pub returns-else-has_at-clause-absent : goal.returns-else-has_at-clause-absent
returns-else-has_at-clause-absent c =
    not_there_at c.args.self.now c.args.uid c.count_below-index.result c.count_below-index.ensures.scene
    c.count_below-index.ensures.value (search rules)
