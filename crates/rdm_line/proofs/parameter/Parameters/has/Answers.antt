use Rattle.std.proofs.Common.{rules}
use Rattle.rdm_line.proofs.ParameterLemmas.{has_is}
use Rattle.rdm_line.proofs.parameter.Parameters.has.Goals as goal

pub returns : goal.returns
returns c = has_is c.args.pid c.args.self.now c.count_before.result c.len.result c.count_before.ensures.value
    (search rules)
