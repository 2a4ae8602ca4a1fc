use Rattle.rdm_lanes.proofs.Common.{number_or_fault}
use Rattle.rdm_lanes.proofs.FitLemmas.{fits_answer, fits_work}
use Rattle.rdm_lanes.proofs.RefusalLemmas.{works_rightly}
use Rattle.rdm_lanes.proofs.StepLemmas.{works}
use Rattle.rdm_lanes.proofs.worker.serve.make_work.Goals as goal

pub apply_answer-requires : goal.apply_answer-requires
apply_answer-requires c =
    rw c.kind_of-kind.ensures
    (fits_answer c.args.session.now c.accept-answer.new.self c.args.client c.args.work c.args.lane.now
    c.accept-answer.result c.accept-answer.ensures.adds c.requires.free c.requires.may)

pub returns-clause-step : goal.returns-clause-step
returns-clause-step c =
    let old = c.args.session.now in
    let new = c.accept-answer.new.self in
    let lane = c.args.lane.now in
    let ready = c.requires in
    let answer = number_or_fault c.accept-answer.result in
    let adds = c.accept-answer.ensures.adds in
    let legal = c.accept-answer.ensures.legal in
    let rightly = works_rightly old new c.args.client c.args.work lane answer adds ready.free ready.known ready.may
    ready.fits in
    let step = works old new c.args.client c.args.work answer adds legal rightly in
    record {
      fits = fits_work old new c.args.client c.args.work lane c.apply_answer.new.lane c.accept-answer.result adds
          ready.free legal ready.may ready.fits (rw c.kind_of-kind.ensures at c.apply_answer.ensures.after);
      served = step.quiet.served ready.served;
      others = step.quiet.wait;
      line = step.quiet.line;
      switches = step.switches;
      rings = c.apply_answer.ensures.lane;
    }
