use Rattle.std.proofs.Common.{rules}
use Rattle.rdm_line.proofs.SceneLemmas.{found_at, none_at}
use Rattle.rdm_line.proofs.scene_devices.SceneDevices.index_of.Goals as goal

pub returns-then-has_at-clause-some : goal.returns-then-has_at-clause-some
returns-then-has_at-clause-some c =
    found_at c.args.self.now c.args.uid c.count_below-index.result c.count_below-index.ensures.value (search rules)

pub returns-else-has_at-clause-none : goal.returns-else-has_at-clause-none
returns-else-has_at-clause-none c =
    none_at c.args.self.now c.args.uid c.count_below-index.result c.count_below-index.ensures.scene
    c.count_below-index.ensures.value (search rules)
