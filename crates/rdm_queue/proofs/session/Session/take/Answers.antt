use Rattle.rdm_queue.proofs.Common.{◌∷◌, [], sym, ◌∙◌, arith, Send}
use Rattle.rdm_queue.proofs.BodyLemmas.SessionLemmas.{free_of, session_grown}
use Rattle.rdm_queue.proofs.session.Session.take.Goals as goal

pub invariant_of-self-2 : goal.invariant_of-self-2
invariant_of-self-2 c =
    let k = c.self.inside.log in
    let free = (rw (← c.self.view_is) at (free_of c.args.self.now (sym c.is_full.ensures ∙ c.if-is_full.false))) in
    let gives = c.in-Some.ensures.frame k c.self.invariant.after in
    rw (c.append.ensures, c.copy_of_frame.ensures)
    (session_grown c.self.inside.controller c.give.new.self k (Send c.in-Some.owner c.in-Some.frame ∷ [])
    c.self.invariant (rw gives.adds.1 at gives.after) (tt, tt) (omega arith))
