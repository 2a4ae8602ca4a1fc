use Rattle.std.proofs.Common.{◌∙◌, refl, sym}
use Rattle.rtrb.specs.Ring.{sent as pushed, received as popped}
use Rattle.rdm_lanes.proofs.Counting.{own_nothing}
use Rattle.rdm_lanes.proofs.OpenLemmas.{counted_new}
use Rattle.rdm_lanes.proofs.ReadLemmas.{nothing_found}
use Rattle.rdm_lanes.proofs.client.RingClient.new.Goals as goal

pub invariant_of-result : goal.invariant_of-result
invariant_of-result g c = record {
  counted = counted_new c.args.calls c.args.replies c.requires.unused.0 c.requires.unused.1;
  held = rw (c.requires.idle.0, c.requires.idle.1) refl;
  own = own_nothing (pushed c.args.calls) (popped c.args.replies) c.args.desk.requests c.args.desk.asks
      c.requires.unused.0 c.requires.unused.1 c.requires.idle.0 c.requires.idle.1;
  last = rw c.requires.unused.1 (c.requires.found_is ∙ sym nothing_found);
}
