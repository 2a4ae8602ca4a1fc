use Rattle.rdm_c.proofs.agents.wurst_agent_devices.Goals as goal

pub returns-in-Some-clause-report : goal.returns-in-Some-clause-report
returns-in-Some-clause-report c is_open =
    rw (← c.in-Some.ensures.some.1, ← c.deref_mut-discovery.ensures.value)
    (λ run ran. rw (← c.found.ensures.value) (c.found.ensures.report run ran))
