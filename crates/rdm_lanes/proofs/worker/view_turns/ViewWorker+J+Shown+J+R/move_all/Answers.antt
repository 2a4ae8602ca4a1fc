use Rattle.std.proofs.Common.{refl}
use Rattle.rdm_lanes.proofs.CollectLemmas.{collects_line}
use Rattle.rdm_lanes.proofs.FirstLemmas.{still_shown}
use Rattle.rdm_lanes.proofs.worker.view_turns.ViewWorker+J+Shown+J+R.move_all.Goals as goal

pub invariant_of-self : goal.invariant_of-self
invariant_of-self g c =
    let me = c.args.self.now in
    let moved = c.move_all.new.self in
    let still = still_shown me.server moved me.views
    (collects_line me.server.session moved.session c.move_all.ensures.grows) c.requires me.publishes in
    record { publishes = still.publishes; shown_first = still.shown_first }

pub returns : goal.returns
returns g c =
    let me = c.args.self.now in
    let moved = c.move_all.new.self in
    record {
      moved = c.move_all.ensures;
      published = (still_shown me.server moved me.views
          (collects_line me.server.session moved.session c.move_all.ensures.grows) c.requires me.publishes).published;
      views = (refl, refl);
    }
