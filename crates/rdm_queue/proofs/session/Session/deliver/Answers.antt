use Rattle.rdm_queue.proofs.Common.{◌≡◌, true, sym, ◌∙◌, refl, Came, awaited}
use Rattle.rdm_queue.proofs.BodyLemmas.SessionLemmas.{amid_begun, then_due, deliver_adds}
use Rattle.rdm_queue.proofs.session.Session.deliver.Goals as goal

pub finish_due-requires : goal.finish_due-requires
finish_due-requires c =
    let k = c.self.inside.log in
    let after = c.self.invariant.after in
    rw c.append.ensures
    (amid_begun c.self.inside.controller c.hear.new.self k (Came c.args.event) c.self.invariant
    (c.hear.ensures k.opening k.entries after
    (sym (c.awaits.ensures k.opening k.entries after) ∙ c.if-not-awaits.false)) tt refl)

pub returns-clause-adds : goal.returns-clause-adds
returns-clause-adds c =
    let k = c.self.inside.log in
    let waits : awaited k.entries ≡ true =
    sym (c.awaits.ensures k.opening k.entries c.self.invariant.after) ∙ c.if-not-awaits.false in
    rw (← c.self.view_is)
    (deliver_adds k c.finish_due.new.log c.args.event waits
    (then_due k c.append.new.self c.finish_due.new.log (Came c.args.event) c.finish_due.new.controller tt
    c.append.ensures c.finish_due.ensures))
