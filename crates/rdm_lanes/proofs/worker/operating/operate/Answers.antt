use Rattle.rdm_lanes.proofs.OperatorLemmas.{leave_step}
use Rattle.rdm_lanes.proofs.worker.operating.operate.Goals as goal

pub returns-in-Leave : goal.returns-in-Leave
returns-in-Leave c = rw c.in-Leave.is (leave_step c.args.session.now)
