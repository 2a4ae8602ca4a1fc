use Rattle.rdm_lanes.proofs.Common.{refl, inr, rules}
use Rattle.rdm_lanes.proofs.MovingLemmas.{moves_none, moves_more}
use Rattle.rdm_lanes.proofs.ServeLemmas.{fits_looked}
use Rattle.rdm_lanes.proofs.worker.moving.move_outcomes.Goals as goal

pub loop-alloc-preserved : goal.loop-alloc-preserved
loop-alloc-preserved c =
    moves_more c.args.client.0 c.args.session.now c.loop-alloc.session c.move_outcome.new.session c.args.lane.now
    c.loop-alloc.lane c.move_outcome.new.lane c.loop-alloc.invariant c.move_outcome.ensures.moves

pub loop-alloc-init : goal.loop-alloc-init
loop-alloc-init c =
    moves_none c.args.client.0 c.args.session.now c.args.lane.now _
    (fits_looked c.args.client.0 c.args.session.now c.args.lane.now _ c.requires.fits refl (record {
      moved_are = c.slots.ensures.looked.1;
      requests_are = refl;
      asks_are = refl;
    }) refl)
    c.requires.served (((refl, refl, refl, refl), refl), c.slots.ensures.looked.0, refl)

pub returns-then-not-move_outcome : goal.returns-then-not-move_outcome
returns-then-not-move_outcome c =
    let moves = moves_more c.args.client.0 c.args.session.now c.loop-alloc.session c.move_outcome.new.session
    c.args.lane.now c.loop-alloc.lane c.move_outcome.new.lane c.loop-alloc.invariant c.move_outcome.ensures.moves in
    record {
      step = moves.step;
      grows = moves.collects;
      done = inr (c.move_outcome.ensures.none (search rules));
    }
