use Rattle.std.proofs.Common.{arith}
use Rattle.rdm_handles.proofs.FormLemmas.{all_written}
use Rattle.rdm_handles.proofs.convert.put_devices.Goals as goal

pub returns-clause-front : goal.returns-clause-front
returns-clause-front c fits =
    all_written _ c.args.devices.now (omega (arith, fits)) (λ k lt. c.copying.invariant k (omega (arith, lt, fits)))
