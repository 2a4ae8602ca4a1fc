use Rattle.rdm_lanes.proofs.session.run_session.Goals as goal

pub returns-clause-over : goal.returns-clause-over
returns-clause-over g c = rw c.steady.ensures at c.run_session_with.ensures.over

pub returns-clause-fault : goal.returns-clause-fault
returns-clause-fault g c = rw c.steady.ensures at c.run_session_with.ensures.fault
