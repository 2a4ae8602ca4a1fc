use Rattle.rdm_lanes.proofs.OperatorLemmas.{resume_step}
use Rattle.rdm_lanes.proofs.worker.operating.resume.Goals as goal

pub returns : goal.returns
returns c = resume_step c.args.session.now c.resume.new.self c.resume.result c.requires.free c.resume.ensures.adds
    c.resume.ensures.legal
