use Rattle.rdm_log.proofs.PromiseLemmas.OwnOutcomes.{reports_a_noisy_line}
use Rattle.rdm_log.proofs.laws.discoveries.outcomes_report_a_noisy_line.Goals as goal

pub returns : goal.returns
returns c = reports_a_noisy_line
