use Rattle.std.proofs.Common.{take}
use Rattle.rdm_reports.specs.SessionReport.{AllSettled}
use Rattle.rdm_serving.proofs.serving.all_settled.Given as goal

abbrev pub invariant-clients : goal.invariant-clients
invariant-clients l = AllSettled (take l.i l.clients) (take l.i l.outcomes)
