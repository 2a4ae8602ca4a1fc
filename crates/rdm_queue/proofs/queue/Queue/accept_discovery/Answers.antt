use Rattle.rdm_queue.proofs.Common.{◌≡◌, ◌<◌, None, length, arith, length-map, state_of, asked_is, QueueState}
use Rattle.rdm_queue.proofs.Common.{first_ask_fault}
use Rattle.rdm_queue.proofs.BodyLemmas.InvariantLemmas.{room_to_ask}
use Rattle.rdm_queue.proofs.queue.Queue.accept_discovery.Goals as goal

pub push-requires : goal.push-requires
push-requires c =
    let s : QueueState = state_of c.self.inside in
    let passes : first_ask_fault s c.args.client.0 ≡ None =
    rw (← c.self.view_is) at c.requires in
    let room : length s.asked < 64 = room_to_ask s c.args.client.0 c.self.invariant.0.state passes in
    let same = length-map c.self.inside.asked.items asked_is in
    omega arith
