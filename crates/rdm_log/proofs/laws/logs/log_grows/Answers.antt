use Rattle.rdm_log.proofs.LogLemmas.Grows.{pushed, front, empty}
use Rattle.rdm_log.proofs.laws.logs.log_grows.Goals as goal

pub returns : goal.returns
returns c = record { pushed = pushed; front = front; empty = empty }
