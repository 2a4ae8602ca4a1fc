use Rattle.rdm_queue.proofs.Common.{state_of}
use Rattle.rdm_queue.proofs.BodyLemmas.OutstandingLemmas.{reserved_le}
use Rattle.rdm_queue.proofs.queue.Queue.most_reserved.Goals as goal

pub returns-clause-most : goal.returns-clause-most
returns-clause-most c =
    rw (← c.self.view_is, c.from.ensures) (reserved_le (state_of c.self.inside) c.self.invariant.0.state)
