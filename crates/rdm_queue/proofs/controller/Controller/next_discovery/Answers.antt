use Rattle.std.proofs.Common.{◌∙◌}
use Rattle.rdm_log.specs.declared.outcome.OutcomeKind.TheVariants.{Discovery}
use Rattle.rdm_queue.proofs.BodyLemmas.CallLemmas.{discovery_adds, not_kind}
use Rattle.rdm_queue.proofs.controller.Controller.next_discovery.Goals as goal

pub returns-clause-adds : goal.returns-clause-adds
returns-clause-adds g c =
    rw (← (c.deref_mut.ensures.value ∙ c.self.view_is))
    (discovery_adds c.next_discovery.result (g.T.TakesDevices.devices c.next_discovery.new.set) c.deref_mut.result.now
    c.next_discovery.new.self c.args.client c.next_discovery.ensures.removed)

pub returns-clause-none : goal.returns-clause-none
returns-clause-none g c =
    rw (← (c.deref_mut.ensures.value ∙ c.self.view_is))
    (not_kind c.next_discovery.result c.deref_mut.result.now c.args.client.0 Discovery
    c.next_discovery.ensures.none)
