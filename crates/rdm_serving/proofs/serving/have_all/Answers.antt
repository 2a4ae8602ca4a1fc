use Rattle.std.proofs.Common.{arith}
use Rattle.rdm_serving.proofs.TurnLemmas.{none_lacks}
use Rattle.rdm_serving.proofs.serving.have_all.Goals as goal

pub returns-then-len : goal.returns-then-len
returns-then-len c settled =
    let enough = none_lacks c.args.clients.now c.args.outcomes.now c.loop-i.i c.index-clients-i.result
    c.index-outcomes-i.result (omega arith) (omega arith) c.index-clients-i.is c.index-outcomes-i.is settled in
    absurd (grind (arith, enough, c.if-len.true))
