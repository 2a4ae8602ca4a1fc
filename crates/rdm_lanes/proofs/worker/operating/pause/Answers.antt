use Rattle.rdm_lanes.proofs.OperatorLemmas.{pause_step}
use Rattle.rdm_lanes.proofs.worker.operating.pause.Goals as goal

pub returns : goal.returns
returns c = pause_step c.args.session.now c.pause.new.self c.pause.result c.requires.free c.pause.ensures.adds
    c.pause.ensures.legal
