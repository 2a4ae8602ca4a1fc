use Rattle.std.proofs.Common.{inl, inr, ap, refl}
use Rattle.rdm_port.specs.Fault.{fault_line, fault_status}
use Rattle.rdm_reports.specs.Report.{line_of}
use Rattle.rdm_port.proofs.CommandLemmas.{refused_printed}
use Rattle.rdm_port.proofs.performing.print_explained.Goals as goal

pub returns-in-Ok : goal.returns-in-Ok
returns-in-Ok g c =
    let done = c.in-Ok.ensures.ok in (done.0, done.1, inl done.2, done.3)

pub returns-in-Err : goal.returns-in-Err
returns-in-Err g c =
    let fault = c.in-Err.refused.0 in (
      line_of (fault_line fault),
      fault_status fault,
      inr (fault, c.in-Err.ensures.fault, refl, refl),
      refused_printed fault c.to_print.result _ _ _ _ (ap g.W.Write.contents c.in-Err.ensures.unprinted)
          c.to_print.ensures.fault c.write_answer.ensures,
    )
