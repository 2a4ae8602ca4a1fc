use Rattle.std.proofs.Common.{rules}
use Rattle.rdm_wire.proofs.CommandReads.{reads_exactly}
use Rattle.rdm_wire.proofs.command.read_command.Goals as goal

pub returns-in_err-length-clause-written : goal.returns-in_err-length-clause-written
returns-in_err-length-clause-written c = reads_exactly c.args.bytes.now _ c.data_length.ensures.bytes (search rules)

pub returns-in_err-command-clause-written : goal.returns-in_err-command-clause-written
returns-in_err-command-clause-written c = reads_exactly c.args.bytes.now _ c.data_length.ensures.bytes (search rules)

pub returns-then-eq-clause-written : goal.returns-then-eq-clause-written
returns-then-eq-clause-written c = reads_exactly c.args.bytes.now _ c.data_length.ensures.bytes (search rules)

pub returns-else-eq-clause-written : goal.returns-else-eq-clause-written
returns-else-eq-clause-written c = reads_exactly c.args.bytes.now _ c.data_length.ensures.bytes (search rules)
