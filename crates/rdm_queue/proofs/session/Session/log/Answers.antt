use Rattle.rdm_log.proofs.PromiseLemmas.LogInBoundLemmas.{promised_in_bound}
use Rattle.rdm_queue.proofs.session.Session.log.Goals as goal

pub returns-clause-promised : goal.returns-clause-promised
returns-clause-promised c =
    rw (← c.self.view_is) (promised_in_bound c.self.inside.log c.self.invariant.after.legal c.self.invariant.in_bound)
