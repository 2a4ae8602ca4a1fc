use Rattle.rdm_wire.proofs.SampleLineLemmas.{comes, leaves, comes_back}
use Rattle.rdm_wire.proofs.laws.devices_come_and_leave.Goals as goal

pub returns : goal.returns
returns c = record { comes = comes; leaves = leaves; comes_back = comes_back }
