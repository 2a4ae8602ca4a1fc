use Rattle.rdm_line.proofs.AmongLemmas.{among-searched}
use Rattle.std.proofs.Common.{◌∙◌}
use Rattle.rdm_line.proofs.sim.is_among.Goals as goal

pub returns-then-exchange-lt18446744073709551615 : goal.returns-then-exchange-lt18446744073709551615
returns-then-exchange-lt18446744073709551615 c =
    c.is_ok.ensures.value
    ∙ among-searched c.args.numbers.now c.args.exchange c.binary_search.result c.requires
    c.binary_search.ensures.position c.if-exchange-lt18446744073709551615.true
