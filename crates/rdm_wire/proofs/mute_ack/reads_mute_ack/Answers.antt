use Rattle.std.proofs.Common.{arith, rules}
use Rattle.rdm_wire.proofs.Acknowledged.{acks_exactly}
use Rattle.rdm_wire.proofs.mute_ack.reads_mute_ack.Goals as goal

pub returns-then-not-acknowledges-clause-acknowledged : goal.returns-then-not-acknowledges-clause-acknowledged
returns-then-not-acknowledges-clause-acknowledged c =
    acks_exactly c.args.uid c.args.source c.args.tn c.args.bytes.now _ (λ i. omega (arith, c.type_inv.bytes i))
    (search rules)

pub returns-clause-acknowledged : goal.returns-clause-acknowledged
returns-clause-acknowledged c =
    acks_exactly c.args.uid c.args.source c.args.tn c.args.bytes.now _ (λ i. omega (arith, c.type_inv.bytes i))
    (search rules)
