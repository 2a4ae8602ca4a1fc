use Rattle.rdm_queue.proofs.Common.{◌∷◌, [], arith, Collect, grown, SessionInvariant}
use Rattle.rdm_queue.proofs.BodyLemmas.SessionLemmas.{session_grown, room_for}
use Rattle.rdm_queue.proofs.session.Session.next_completion.Goals.{In_ok-number}
use Rattle.rdm_queue.proofs.session.Session.next_completion.Goals as goal

-- the invariant holds with the Collect
kept : (c : In_ok-number)
    → SessionInvariant c.next_completion.new.self (grown c.self.inside.log (Collect c.args.client ∷ []))
kept c =
    let k = c.self.inside.log in
    let stands = c.in_ok-number.ensures.adds k c.self.invariant.after in
    session_grown c.self.inside.controller c.next_completion.new.self k (Collect c.args.client ∷ []) c.self.invariant
    (rw stands.adds.1 at stands.after) (tt, tt) (omega arith)

pub append-requires : goal.append-requires
append-requires c =
    let room = (kept (goal.at.append-requires c).In_ok-number).room in
    omega (arith, room_for c.self.inside.log (Collect c.args.client) room)

pub invariant_of-self-2 : goal.invariant_of-self-2
invariant_of-self-2 c = rw c.append.ensures (kept (goal.at.invariant_of-self-2 c).In_ok-number)
