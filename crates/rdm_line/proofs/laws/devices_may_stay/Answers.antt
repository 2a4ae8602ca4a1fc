use Rattle.rdm_line.proofs.PresenceLemmas.{all_present}
use Rattle.rdm_line.proofs.laws.devices_may_stay.Goals as goal

pub returns : goal.returns
returns c = all_present
