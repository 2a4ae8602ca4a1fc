use Rattle.std.proofs.Common.{rules}
use Rattle.rdm_lanes.proofs.SeatLemmas.{same_seats_in}
use Rattle.rdm_lanes.proofs.session.threads.all_in_threads.Goals as goal

pub returns-clause-seats : goal.returns-clause-seats
returns-clause-seats g c = same_seats_in c.args.seats.items _ c.args.seats.len c.args.seats.ok.0 (search rules)
