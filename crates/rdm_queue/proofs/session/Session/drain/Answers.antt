use Rattle.std.proofs.Common.{vec_capacity}
use Rattle.rdm_queue.proofs.BodyLemmas.SessionLemmas.{session_drained}
use Rattle.rdm_queue.proofs.session.Session.drain.Goals as goal

pub invariant_of-self : goal.invariant_of-self
invariant_of-self c =
    let may = (rw (← c.self.view_is, c.capacity.ensures) at (c.can_go_on.ensures.may c.if-not-can_go_on.false)) in
    rw c.drain.ensures.log
    (session_drained c.self.inside.controller c.self.inside.log (vec_capacity c.args.next) c.self.invariant may.1.0)
