use Rattle.rdm_queue.proofs.Common.{◌≡◌, false, sym, ◌∙◌, refl, Close, is_closed}
use Rattle.rdm_queue.proofs.BodyLemmas.SessionLemmas.{amid_begun, then_due, close_adds}
use Rattle.rdm_queue.proofs.session.Session.close.Goals as goal

pub finish_due-requires : goal.finish_due-requires
finish_due-requires c =
    let k = c.self.inside.log in
    let after = c.self.invariant.after in
    rw c.append.ensures
    (amid_begun c.self.inside.controller c.shut.new.self k Close c.self.invariant
    (c.shut.ensures k.opening k.entries after
    (sym (c.is_closed.ensures k.opening k.entries after) ∙ c.if-is_closed.false)) tt refl)

pub returns-clause-adds : goal.returns-clause-adds
returns-clause-adds c =
    let k = c.self.inside.log in
    let open_ : is_closed k.opening k.entries ≡ false =
    sym (c.is_closed.ensures k.opening k.entries c.self.invariant.after) ∙ c.if-is_closed.false in
    rw (← c.self.view_is)
    (close_adds k c.finish_due.new.log open_
    (then_due k c.append.new.self c.finish_due.new.log Close c.finish_due.new.controller tt c.append.ensures
    c.finish_due.ensures))
