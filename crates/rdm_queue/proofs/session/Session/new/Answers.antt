use Rattle.rdm_queue.proofs.BodyLemmas.SessionLemmas.{session_first}
use Rattle.rdm_queue.proofs.session.Session.new.Goals as goal

pub invariant_of-result : goal.invariant_of-result
invariant_of-result g c =
    rw (c.after.ensures.log, c.requires.empty, c.opening_of-opening.ensures)
    (session_first c.in-Ok.controller c.into_setup-setup.result c.args.log.room c.args.log.gone c.args.log.keeps
    c.after.ensures.some
    c.in-Ok.ensures)
