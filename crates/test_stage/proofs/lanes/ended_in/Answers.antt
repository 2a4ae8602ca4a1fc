use Rattle.std.proofs.Common.{arith}
use Rattle.rdm_lanes.proofs.SeatLemmas.{remove_first}
use Rattle.rdm_lanes.proofs.HandLemmas.{end_none, end_more}
use Rattle.test_stage.proofs.lanes.ended_in.Goals as goal

pub loop-clients-init : goal.loop-clients-init
loop-clients-init g c = end_none c.args.clients.items c.args.room c.requires.empty c.requires.fits

pub loop-clients-preserved : goal.loop-clients-preserved
loop-clients-preserved g c =
    let here = remove_first c.loop-clients.clients.items c.remove-client.result c.remove-client.new.self.items
    (omega (arith, c.remove-client.ensures.len, c.loop-clients.clients.ok.0)) c.remove-client.ensures.value
    c.remove-client.ensures.items in
    end_more c.args.clients.items c.loop-clients.clients.items c.remove-client.new.self.items c.loop-clients.ends
    c.push_reserved.new.self c.remove-client.result c.end.result
    c.loop-clients.invariant here c.push_reserved.ensures.items c.push_reserved.ensures.capacity c.end.ensures.rings.0
    c.end.ensures.rings.1
