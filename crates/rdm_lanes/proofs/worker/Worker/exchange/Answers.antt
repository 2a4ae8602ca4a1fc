use Rattle.rtrb.specs.Ring.{received as popped}
use Rattle.rdm_lanes.proofs.LaneLemmas.{all_wait, grown_places}
use Rattle.rdm_lanes.proofs.OperatorLemmas.{operated_stays}
use Rattle.rdm_lanes.proofs.worker.Worker.exchange.Goals as goal

pub invariant_of-self : goal.invariant_of-self
invariant_of-self g c =
    let me = c.args.self.now in
    let next = c.make_exchange.new.session in
    let made = c.make_exchange.ensures in
    let grew = made.exchanged in
    record {
      few = me.few;
      served = made.served;
      fits = all_wait me.session next me.lanes.items me.fits
          (grown_places me.session next grew.block grew.grows grew.nobody_joined) made.wait;
      operated = operated_stays me.session next grew.block (popped me.operator) grew.grows made.switches me.operated;
    }
