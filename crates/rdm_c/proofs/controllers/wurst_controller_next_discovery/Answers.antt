use Rattle.rdm_handles.proofs.Common.{arith}
use Rattle.std.proofs.Common.{rules}
use Rattle.rdm_log.specs.declared.outcome.OutcomeKind.TheVariants as kinds
use Rattle.rdm_log.specs.promises.Outcomes.{discovery_outcome}
use Rattle.rdm_c.proofs.AnswerLemmas.{collects_shown}
use Rattle.rdm_c.proofs.controllers.wurst_controller_next_discovery.Goals as goal

pub returns-after-from-client_count-clause-collected : goal.returns-after-from-client_count-clause-collected
returns-after-from-client_count-clause-collected c done = elim c.if-from-client_count.branch [
  | goal.then-from-client_count w ↦ absurd (omega (arith, done, w.status-is))
  | goal.else-from-client_count+in-None-oldest w ↦ absurd (omega (arith, done, w.status-is))
  | goal.else-from-client_count+in-Some-Request w ↦ absurd (omega (arith, done, w.status-is))
  | goal.else-from-client_count+in-Some-Discovery+then-len-devices w ↦ absurd (omega (arith, done, w.status-is))
  | goal.else-from-client_count+in-Some-Discovery+else-len-devices w ↦ (
    w.in-Some-Discovery.end,
    w.in-Some-Discovery.set.now,
    search rules,
    rw (← c.in-Some.ensures.some.1, ← c.deref_mut-controller.ensures.value, c.put.ensures.value, w.boxed-is)
        (collects_shown (λ end. discovery_outcome end w.next_discovery.new.set) kinds.Discovery _ _ _ _ _
        w.next_discovery.ensures.adds w.next_discovery.ensures.none (λ o h stands. search rules)
        (λ o h stands. search rules)),
    search rules,
  )
]
