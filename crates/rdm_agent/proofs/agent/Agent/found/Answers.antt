use Rattle.rdm_agent.proofs.Common.{◌≡◌, ap, AgentState}
use Rattle.rdm_agent.proofs.CallLemmas.{found-report}
use Rattle.rdm_agent.proofs.agent.Agent.found.Goals as goal

pub returns-clause-report : goal.returns-clause-report
returns-clause-report c = λ run stands.
    let own : c.self.inside.run_state.found ≡ c.args.self.now.found = ap (λ (a : AgentState). a.found) c.self.view_is in
    rw own (found-report c.args.self.now run.kind run.known run.budget run.aborted run.exchanges stands)
