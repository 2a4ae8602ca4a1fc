use Rattle.rdm_queue.proofs.Common.{◌∷◌, [], sym, ◌∙◌, arith, Resume}
use Rattle.rdm_queue.proofs.BodyLemmas.SessionLemmas.{free_of, session_grown}
use Rattle.rdm_queue.proofs.session.Session.resume.Goals as goal

pub invariant_of-self : goal.invariant_of-self
invariant_of-self c =
    let k = c.self.inside.log in
    let free = (rw (← c.self.view_is) at (free_of c.args.self.now (sym c.is_full.ensures ∙ c.if-is_full.false))) in
    let after = c.self.invariant.after in
    let can = sym (c.can_resume.ensures k.opening k.entries after) ∙ c.if-not-can_resume.false in
    let stands = c.resume.ensures.adds k after in
    rw c.append.ensures
    (session_grown c.self.inside.controller c.resume.new.self k (Resume ∷ []) c.self.invariant
    (rw (stands.adds, can) at stands.after) (tt, tt) (omega arith))
