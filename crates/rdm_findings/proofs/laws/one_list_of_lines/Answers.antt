use Rattle.rdm_findings.proofs.LineLemmas.{own_lines, one_list_of_runs}
use Rattle.rdm_findings.proofs.laws.one_list_of_lines.Goals as goal

pub returns : goal.returns
returns c = record { lines = own_lines; runs = one_list_of_runs }
