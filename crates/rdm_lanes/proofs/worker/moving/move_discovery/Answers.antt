use Rattle.rdm_lanes.proofs.Common.{refl, ap, Some, AskCompletion, outcome_value}
use Rattle.rdm_log.specs.declared.outcome.Outcome.TheVariants as outcomes
use Rattle.rdm_log.specs.promises.Outcomes.{discovery_outcome}
use Rattle.rdm_lanes.proofs.CollectedLemmas.{has_ask, fits_discovery}
use Rattle.rdm_lanes.proofs.MovingLemmas.{moves_one}
use Rattle.rdm_lanes.proofs.worker.moving.move_discovery.Goals as goal

pub overflow_sub-lane : goal.overflow_sub-lane
overflow_sub-lane c =
    has_ask c.args.session.now c.next_discovery.new.self c.args.client c.in-Some.end.number
    (record { run = c.in-Some.end.run; fault = c.in-Some.end.fault; set = c.next_discovery.new.set.value })
    c.args.lane.now c.in-Some.ensures.adds c.in-Some.ensures.legal c.requires.may.fits

pub returns : goal.returns
returns c =
    let old = c.args.session.now in
    let new = c.next_discovery.new.self in
    let end = c.in-Some.end in
    let set = c.next_discovery.new.set.value in
    let adds = c.in-Some.ensures.adds in
    let legal = c.in-Some.ensures.legal in
    moves_one old new c.args.client (discovery_outcome end set) c.args.lane.now _ adds legal c.requires.may.served
    (fits_discovery old new c.args.client end.number (record { run = end.run; fault = end.fault; set = set }) _
    c.args.lane.now _ adds legal
    (ap (λ (done : AskCompletion). outcome_value (outcomes.Discovery (Some end.number) done)) c.new-done.ensures)
    c.requires.may.fits (record { calls_are = refl; requests_are = refl; asks_are = refl; left_is = refl })
    c.push_reserved.ensures.sent.0)
    (((refl, refl, refl, refl), refl), c.push_reserved.ensures.ring, refl) c.push_reserved.ensures.sent.1
