use Rattle.std.proofs.Common.{◌≤◌, arith}
use Rattle.rdm_explain.proofs.sighting.noted.Goals as goal

pub overflow_add-result : goal.overflow_add-result
overflow_add-result c =
    let few : c.in-Some.first.more ≤ c.args.at = rw c.in-Some.is at c.requires.counted in
    omega (arith, few, c.requires.few)
