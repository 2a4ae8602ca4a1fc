use Rattle.rdm_queue.proofs.Common.{rules, tests, state_of}
use Rattle.rdm_queue.proofs.BodyLemmas.InvariantLemmas.{kept-goes_on}
use Rattle.rdm_queue.proofs.queue.Queue.hear_run.Goals as goal

pub invariant_of-self : goal.invariant_of-self
invariant_of-self c = (
  kept-goes_on (state_of c.self.inside) c.self.inside.clients.items _ c.self.invariant.0
      (λ end. search (rules, tests)),
  c.self.invariant.1,
)
