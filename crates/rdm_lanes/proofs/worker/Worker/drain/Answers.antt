use Rattle.rtrb.specs.Ring.{received as popped}
use Rattle.rdm_lanes.proofs.DrainLemmas.{SameHistory, served_on, all_fit_on, operated_on}
use Rattle.rdm_lanes.proofs.worker.Worker.drain.Goals as goal

pub invariant_of-self : goal.invariant_of-self
invariant_of-self c =
    let me = c.args.self.now in
    let old = me.session in
    let new = c.drain.new.self in
    let same : SameHistory old new = record {
      opening = c.drain.ensures.history.0;
      entries = c.drain.ensures.history.1;
    } in
    record {
      few = me.few;
      served = served_on old new same me.served;
      fits = all_fit_on old new same me.lanes.items me.fits;
      operated = operated_on old new same (popped me.operator) me.operated;
    }
