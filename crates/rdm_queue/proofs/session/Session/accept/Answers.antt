use Rattle.rdm_queue.proofs.Common.{◌∷◌, [], sym, ◌∙◌, arith, work_accepted}
use Rattle.rdm_queue.proofs.BodyLemmas.SessionLemmas.{free_of, session_grown, work_in_bound, work_added}
use Rattle.rdm_queue.proofs.session.Session.accept.Goals as goal

pub invariant_of-self-2 : goal.invariant_of-self-2
invariant_of-self-2 c =
    let k = c.self.inside.log in
    let free = (rw (← c.self.view_is) at (free_of c.args.self.now (sym c.is_full.ensures ∙ c.if-is_full.false))) in
    let stands = c.add-number.ensures k c.self.invariant.after in
    rw (c.append-2.ensures, c.accepted.ensures, c.copied-copy.ensures)
    (session_grown c.self.inside.controller c.add-number.new.self k
    (work_accepted c.args.client c.add-number.result c.args.work ∷ []) c.self.invariant
    (rw stands.adds.2 at stands.after) (work_in_bound k c.args.client c.add-number.result c.args.work)
    (omega (arith, work_added c.args.client c.add-number.result c.args.work)))

pub invariant_of-self : goal.invariant_of-self
invariant_of-self c =
    let k = c.self.inside.log in
    let free = (rw (← c.self.view_is) at (free_of c.args.self.now (sym c.is_full.ensures ∙ c.if-is_full.false))) in
    let stands = c.in-Some.ensures.adds k c.self.invariant.after in
    rw (c.append.ensures, c.refused.ensures, c.copied.ensures)
    (session_grown c.self.inside.controller c.self.inside.controller k _ c.self.invariant
    (rw stands.adds.1 at stands.after) (tt, tt) (omega arith))
