use Rattle.std.proofs.Common.{subst}
use Rattle.std.specs.Prelude.{is_some}
use Rattle.rdm_port.specs.Fault.{IsSessionFault, ReadsFile, sessions}
use Rattle.rdm_port.proofs.RunLemmas.{served_fault}
use Rattle.rdm_port.proofs.run.serve_file.Goals as goal

pub returns-in-Err-clause-fault : goal.returns-in-Err-clause-fault
returns-in-Err-clause-fault g c =
    subst (λ own_line. IsSessionFault own_line (g.R.Read.remaining c.args.reader.now) c.in-Err.refused.0)
    c.is_some-own_line.ensures c.in-Err.ensures.fault

pub returns-in-Err-serve_on-clause-fault : goal.returns-in-Err-serve_on-clause-fault
returns-in-Err-serve_on-clause-fault g c =
    let known = g.R.Read.remaining c.args.reader.now in
    served_fault (is_some c.args.job.streams) known c.in-Ok.file
    (subst (λ own_line. ReadsFile (sessions own_line) known c.in-Ok.file) c.is_some-own_line.ensures c.in-Ok.ensures.ok)
    c.in-Err-serve_on.fault c.refused.result.0 c.refused.ensures

pub returns-in-Ok-serve_on-clause-served : goal.returns-in-Ok-serve_on-clause-served
returns-in-Ok-serve_on-clause-served g c = (
  c.in-Ok.file,
  subst (λ own_line. ReadsFile (sessions own_line) (g.R.Read.remaining c.args.reader.now) c.in-Ok.file)
      c.is_some-own_line.ensures c.in-Ok.ensures.ok,
  c.in-Ok-serve_on.ensures.served,
  c.in-Ok-serve_on.ensures.set_up,
)
