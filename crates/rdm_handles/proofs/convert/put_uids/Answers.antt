use Rattle.std.proofs.Common.{arith}
use Rattle.rdm_handles.proofs.FormLemmas.{numbers_written}
use Rattle.rdm_handles.proofs.convert.put_uids.Goals as goal

pub returns-clause-front : goal.returns-clause-front
returns-clause-front c fits =
    numbers_written _ c.args.uids.now (omega (arith, fits)) (λ k lt. c.copying.invariant k (omega (arith, lt, fits)))
