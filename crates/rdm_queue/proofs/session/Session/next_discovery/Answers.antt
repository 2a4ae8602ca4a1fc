use Rattle.rdm_queue.proofs.Common.{◌∷◌, [], arith, Collect, grown, SessionInvariant}
use Rattle.rdm_queue.proofs.BodyLemmas.SessionLemmas.{session_grown, room_for}
use Rattle.rdm_queue.proofs.session.Session.next_discovery.Given.{Over}
use Rattle.rdm_queue.proofs.session.Session.next_discovery.Goals.{In_ok-end}
use Rattle.rdm_queue.proofs.session.Session.next_discovery.Goals as goal

-- the invariant holds with the Collect
kept : (g : Over) (c : In_ok-end g)
    → SessionInvariant c.next_discovery.new.self (grown c.self.inside.log (Collect c.args.client ∷ []))
kept g c =
    let k = c.self.inside.log in
    let stands = c.in_ok-end.ensures.adds k c.self.invariant.after in
    session_grown c.self.inside.controller c.next_discovery.new.self k (Collect c.args.client ∷ []) c.self.invariant
    (rw stands.adds.1 at stands.after) (tt, tt) (omega arith)

pub append-requires : goal.append-requires
append-requires g c =
    let room = (kept g (goal.at.append-requires g c).In_ok-end).room in
    omega (arith, room_for c.self.inside.log (Collect c.args.client) room)

pub invariant_of-self-2 : goal.invariant_of-self-2
invariant_of-self-2 g c = rw c.append.ensures (kept g (goal.at.invariant_of-self-2 g c).In_ok-end)
