use Rattle.rdm_c.proofs.agents.wurst_agent_bad_uids.Goals as goal

pub returns-in-Some-clause-answered : goal.returns-in-Some-clause-answered
returns-in-Some-clause-answered c is_open =
    rw (← c.in-Some.ensures.some.1, ← c.deref_mut-discovery.ensures.value)
    (λ run ran. rw (← c.bad_uids.ensures.value) (c.bad_uids.ensures.answered run ran))
