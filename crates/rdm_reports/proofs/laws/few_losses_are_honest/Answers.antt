use Rattle.rdm_reports.proofs.SceneRuns.{honest_report}
use Rattle.rdm_reports.proofs.laws.few_losses_are_honest.Goals as goal

pub returns : goal.returns
returns c = honest_report
