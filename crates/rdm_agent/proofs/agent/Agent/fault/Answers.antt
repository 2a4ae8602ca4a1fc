use Rattle.rdm_agent.proofs.Common.{ap, ◌∙◌, AgentState, fault_of}
use Rattle.rdm_agent.proofs.CallLemmas.{fault-certified, fault-caused}
use Rattle.rdm_agent.proofs.agent.Agent.fault.Goals as goal

pub returns-clause-certified : goal.returns-clause-certified
returns-clause-certified c = λ run stands.
    fault-certified c.args.self.now c.requires c.fault.result
    (c.fault.ensures _ _ ∙ ap (λ (a : AgentState). fault_of a.phase) c.self.view_is) run.kind run.known run.budget
    run.aborted run.exchanges stands

pub returns-clause-caused : goal.returns-clause-caused
returns-clause-caused c = λ run stands.
    fault-caused c.args.self.now c.requires c.fault.result
    (c.fault.ensures _ _ ∙ ap (λ (a : AgentState). fault_of a.phase) c.self.view_is) run.kind run.known run.budget
    run.aborted run.exchanges stands
