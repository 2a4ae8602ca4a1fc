use Rattle.rdm_lanes.proofs.Common.{refl, Some}
use Rattle.rdm_log.specs.declared.outcome.Outcome.TheVariants as outcomes
use Rattle.rdm_lanes.specs.declared.ring_outcome.RingOutcome.TheVariants.{Request}
use Rattle.rdm_lanes.proofs.CollectedLemmas.{has_request, fits_completion}
use Rattle.rdm_lanes.proofs.MovingLemmas.{moves_one}
use Rattle.rdm_lanes.proofs.worker.moving.move_completion.Goals as goal

pub overflow_sub-lane : goal.overflow_sub-lane
overflow_sub-lane c =
    has_request c.args.session.now c.next_completion.new.self c.args.client c.in-Some.number c.in-Some.done
    c.args.lane.now c.in-Some.ensures.adds c.in-Some.ensures.legal c.requires.fits

pub returns : goal.returns
returns c =
    let old = c.args.session.now in
    let new = c.next_completion.new.self in
    let number = c.in-Some.number in
    let done = c.in-Some.done in
    let adds = c.in-Some.ensures.adds in
    let legal = c.in-Some.ensures.legal in
    moves_one old new c.args.client (outcomes.Request (Some number) done) c.args.lane.now _ adds legal
    c.requires.served
    (fits_completion old new c.args.client number done (Request (Some number) done) c.args.lane.now _ adds legal refl
    c.requires.fits (record { calls_are = refl; requests_are = refl; asks_are = refl; left_is = refl })
    c.push_reserved.ensures.sent.0)
    (((refl, refl, refl, refl), refl), c.push_reserved.ensures.ring, refl) c.push_reserved.ensures.sent.1
