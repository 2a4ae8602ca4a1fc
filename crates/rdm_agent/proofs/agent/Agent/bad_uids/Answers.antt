use Rattle.rdm_agent.proofs.Common.{◌≡◌, ap, AgentState}
use Rattle.rdm_agent.proofs.CallLemmas.{apart-answered}
use Rattle.rdm_agent.proofs.agent.Agent.bad_uids.Goals as goal

pub returns-clause-answered : goal.returns-clause-answered
returns-clause-answered c = λ run stands.
    let own : c.self.inside.run_state.apart ≡ c.args.self.now.apart = ap (λ (a : AgentState). a.apart) c.self.view_is in
    rw (c.as_slice.ensures.value, own)
    (apart-answered c.args.self.now run.kind run.known run.budget run.aborted run.exchanges stands)
