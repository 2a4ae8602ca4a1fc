use Rattle.std.proofs.Common.{arith}
use Rattle.rdm_lanes.proofs.SeatLemmas.{seat_none, seat_more, remove_first}
use Rattle.rdm_lanes.proofs.opening.rooms.seated.Goals as goal

pub loop-bodies-init : goal.loop-bodies-init
loop-bodies-init g c =
    seat_none c.args.clients.items c.args.bodies.items c.args.room c.requires.empty c.requires.one_each c.requires.fits

pub loop-bodies-preserved : goal.loop-bodies-preserved
loop-bodies-preserved g c =
    let here = remove_first c.loop-bodies.clients.items c.remove-client.result c.remove-client.new.self.items
    (omega (arith, c.remove-client.ensures.len, c.loop-bodies.clients.ok.0)) c.remove-client.ensures.value
    c.remove-client.ensures.items in
    let body = remove_first c.loop-bodies.bodies.items c.remove-body.result c.remove-body.new.self.items
    (omega (arith, c.remove-body.ensures.len, c.loop-bodies.bodies.ok.0)) c.remove-body.ensures.value
    c.remove-body.ensures.items in
    seat_more c.args.clients.items c.loop-bodies.bodies.items c.remove-body.new.self.items c.loop-bodies.clients.items
    c.remove-client.new.self.items c.loop-bodies.seats c.push_reserved.new.self c.remove-body.result
    c.remove-client.result
    c.loop-bodies.invariant body here c.push_reserved.ensures.items c.push_reserved.ensures.capacity
