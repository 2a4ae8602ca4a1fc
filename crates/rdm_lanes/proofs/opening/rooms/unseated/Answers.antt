use Rattle.std.proofs.Common.{arith}
use Rattle.rdm_lanes.proofs.SeatLemmas.{unseat_none, unseat_more, remove_first}
use Rattle.rdm_lanes.proofs.opening.rooms.unseated.Goals as goal

pub loop-seats-init : goal.loop-seats-init
loop-seats-init g c =
    unseat_none c.args.seats.items c.args.bodies c.args.ends c.requires.empty.0 c.requires.empty.1 c.requires.fit.0
    c.requires.fit.1

pub loop-seats-preserved : goal.loop-seats-preserved
loop-seats-preserved g c =
    let here = remove_first c.loop-seats.seats.items c.remove-seat.result c.remove-seat.new.self.items
    (omega (arith, c.remove-seat.ensures.len, c.loop-seats.seats.ok.0)) c.remove-seat.ensures.value
    c.remove-seat.ensures.items in
    unseat_more c.args.seats.items c.loop-seats.seats.items c.remove-seat.new.self.items c.loop-seats.bodies
    c.push_reserved.new.self c.loop-seats.ends c.push_reserved-in-loop-seats.new.self c.remove-seat.result
    c.end.result
    c.loop-seats.invariant here c.push_reserved.ensures.items c.push_reserved.ensures.capacity
    c.push_reserved-in-loop-seats.ensures.items c.push_reserved-in-loop-seats.ensures.capacity c.end.ensures.rings.0
    c.end.ensures.rings.1
