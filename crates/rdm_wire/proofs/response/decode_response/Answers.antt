use Rattle.std.proofs.Common.{arith, rules}
use Rattle.rdm_wire.proofs.ReadBack.{reads_exactly}
use Rattle.rdm_wire.proofs.response.decode_response.Goals as goal

pub returns-in_err-length-clause-reads : goal.returns-in_err-length-clause-reads
returns-in_err-length-clause-reads c =
    reads_exactly c.args.bytes.now _ (λ i. omega (arith, c.type_inv.bytes i)) (search rules)

pub returns-clause-reads : goal.returns-clause-reads
returns-clause-reads c = reads_exactly c.args.bytes.now _ (λ i. omega (arith, c.type_inv.bytes i)) (search rules)
