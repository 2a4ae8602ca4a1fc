use Rattle.rdm_lanes.proofs.OperatorLemmas.{close_step}
use Rattle.rdm_lanes.proofs.worker.operating.close.Goals as goal

pub returns : goal.returns
returns c = close_step c.args.session.now c.close.new.self c.close.ensures.adds c.close.ensures.legal
