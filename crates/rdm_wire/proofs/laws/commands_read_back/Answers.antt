use Rattle.rdm_wire.proofs.CommandReads.{read_of-writes, writes-of_read}
use Rattle.rdm_wire.proofs.CommandAsks.{asks_so}
use Rattle.rdm_wire.proofs.laws.commands_read_back.Goals as goal

pub returns : goal.returns
returns c = record { read = read_of-writes; writes = λ k s tn b. writes-of_read b k s tn; asks = asks_so }
