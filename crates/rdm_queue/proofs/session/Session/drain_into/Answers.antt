use Rattle.std.specs.Prelude.{◌-◌}
use Rattle.std.proofs.Common.{arith}
use Rattle.rdm_queue.proofs.BodyLemmas.SessionLemmas.{session_drained}
use Rattle.rdm_queue.proofs.session.Session.drain_into.Goals as goal

pub invariant_of-self : goal.invariant_of-self
invariant_of-self c =
    let page = c.args.page.now in
    let may = (rw (← c.self.view_is) at (c.can_go_on.ensures.may c.if-not-can_go_on.false)) in
    rw c.drain_into.ensures.log
    (session_drained c.self.inside.controller c.self.inside.log (page.room - page.gone) c.self.invariant
    (omega (arith, may.1.0, c.room.ensures.room)))
