use Rattle.rdm_agent.proofs.Common.{ap, ◌∙◌, AgentState, fed, heard_by, seen_op, next_op}
use Rattle.rdm_agent.specs.Bound.{with_exchange}
use Rattle.rdm_agent.proofs.CallLemmas.{feed-stands}
use Rattle.rdm_agent.proofs.BoundCalls.{stays_in_bound}
use Rattle.rdm_agent.proofs.agent.Agent.hear.Goals as goal

pub returns-clause-state : goal.returns-clause-state
returns-clause-state c =
    c.heard-self-inside.ensures.state c.self.inside.budget c.self.inside.frames
    ∙ ap (λ (a : AgentState). fed a (heard_by c.args.reply)) c.self.view_is

pub returns-clause-has_run : goal.returns-clause-has_run
returns-clause-has_run c = λ run stands.
    feed-stands c.args.self.now _ c.args.reply c.requires (returns-clause-state c) run.kind run.known run.budget
    run.aborted run.exchanges stands

pub returns-clause-in_bound : goal.returns-clause-in_bound
returns-clause-in_bound c = λ run stands.
    stays_in_bound _ (with_exchange run (seen_op (next_op c.args.self.now, c.args.reply)))
    (returns-clause-has_run c run stands)
