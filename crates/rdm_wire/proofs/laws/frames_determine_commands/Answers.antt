use Rattle.rdm_wire.proofs.CommandLemmas.{one_command}
use Rattle.rdm_wire.proofs.laws.frames_determine_commands.Goals as goal

pub returns : goal.returns
returns c = one_command
