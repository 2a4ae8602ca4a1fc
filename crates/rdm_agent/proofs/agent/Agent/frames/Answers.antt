use Rattle.rdm_agent.proofs.Common.{◌≡◌, ap, sym, ◌∙◌, AgentState}
use Rattle.rdm_agent.proofs.CallLemmas.{frames-counted}
use Rattle.rdm_agent.proofs.BoundCalls.{frames-in_bound, frames-ended}
use Rattle.rdm_agent.proofs.agent.Agent.frames.Goals as goal

pub returns-clause-counted : goal.returns-clause-counted
returns-clause-counted c = λ run stands.
    let own : c.self.inside.frames ≡ c.args.self.now.frames = ap (λ (a : AgentState). a.frames) c.self.view_is in
    rw own (frames-counted c.args.self.now run.kind run.known run.budget run.aborted run.exchanges stands)

pub returns-clause-in_bound : goal.returns-clause-in_bound
returns-clause-in_bound c = λ run stands present calm.
    let own : c.self.inside.frames ≡ c.args.self.now.frames = ap (λ (a : AgentState). a.frames) c.self.view_is in
    rw own (frames-in_bound c.args.self.now run stands present calm)

pub returns-clause-ended : goal.returns-clause-ended
returns-clause-ended c = λ run stands present calm all.
    let own : c.self.inside.frames ≡ c.args.self.now.frames = ap (λ (a : AgentState). a.frames) c.self.view_is in
    frames-ended c.args.self.now run stands present calm (sym own ∙ all)
