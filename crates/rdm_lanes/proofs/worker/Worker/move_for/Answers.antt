use Rattle.std.proofs.Common.{refl}
use Rattle.rdm_lanes.proofs.LaneLemmas.{all_set, lane_here}
use Rattle.rdm_lanes.proofs.worker.Worker.move_for.Goals as goal

pub move_outcomes-requires-clause-fits : goal.move_outcomes-requires-clause-fits
move_outcomes-requires-clause-fits c =
    let me = c.args.self.now in
    let lane = c.index_mut.result.now in
    me.fits.each c.args.at lane (lane_here me c.args.at lane c.requires c.index_mut.ensures.value)

pub invariant_of-self-clause-fits : goal.invariant_of-self-clause-fits
invariant_of-self-clause-fits c =
    let me = c.args.self.now in
    let lane = c.index_mut.result.now in
    all_set c.args.at me.session c.move_outcomes.new.session me.lanes.items lane c.move_outcomes.new.lane me.fits
    (lane_here me c.args.at lane c.requires c.index_mut.ensures.value) c.move_outcomes.ensures.step

pub returns : goal.returns
returns c =
    let lane = c.index_mut.result.now in
    record {
      lane = lane;
      next = c.move_outcomes.new.lane;
      was = lane_here c.args.self.now c.args.at lane c.requires c.index_mut.ensures.value;
      set = refl;
      does = c.move_outcomes.ensures;
      operator = (refl, refl);
    }
