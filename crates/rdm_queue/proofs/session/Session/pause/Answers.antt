use Rattle.rdm_queue.proofs.Common.{◌∷◌, [], sym, ◌∙◌, arith, Pause}
use Rattle.rdm_queue.proofs.BodyLemmas.SessionLemmas.{free_of, session_grown}
use Rattle.rdm_queue.proofs.session.Session.pause.Goals as goal

pub invariant_of-self : goal.invariant_of-self
invariant_of-self c =
    let k = c.self.inside.log in
    let free = (rw (← c.self.view_is) at (free_of c.args.self.now (sym c.is_full.ensures ∙ c.if-is_full.false))) in
    let after = c.self.invariant.after in
    let can = sym (c.can_pause.ensures k.opening k.entries after) ∙ c.if-not-can_pause.false in
    let stands = c.pause.ensures.adds k after in
    rw c.append.ensures
    (session_grown c.self.inside.controller c.pause.new.self k (Pause ∷ []) c.self.invariant
    (rw (stands.adds, can) at stands.after) (tt, tt) (omega arith))
