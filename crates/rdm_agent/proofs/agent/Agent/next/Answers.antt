use Rattle.rdm_agent.proofs.Common.{◌≡◌, ◌∙◌, rules, next_op}
use Rattle.rdm_agent.proofs.CallLemmas.{next-in_order, next-in_budget, next-failed}
use Rattle.rdm_agent.proofs.BoundCalls.{next-in_bound}
use Rattle.rdm_agent.proofs.agent.Agent.next.Goals as goal

is_next : (c : goal.After-op) → c.op.result ≡ next_op c.args.self.now
is_next c = search rules

pub returns-then-self-clause-in_order : goal.returns-then-self-clause-in_order
returns-then-self-clause-in_order c = λ run stands.
    rw (is_next c) (next-in_order c.args.self.now run.kind run.known run.budget run.aborted run.exchanges stands)

pub returns-then-self-clause-in_budget : goal.returns-then-self-clause-in_budget
returns-then-self-clause-in_budget c = λ run stands full.
    is_next c ∙ next-in_budget c.args.self.now run.kind run.known run.budget run.aborted run.exchanges stands full

pub returns-then-self-clause-failed : goal.returns-then-self-clause-failed
returns-then-self-clause-failed c = λ run stands failed.
    is_next c ∙ next-failed c.args.self.now run.kind run.known run.budget run.aborted run.exchanges stands failed

pub returns-then-self-clause-in_bound : goal.returns-then-self-clause-in_bound
returns-then-self-clause-in_bound c = λ run stands present calm all.
    is_next c ∙ next-in_bound c.args.self.now run stands present calm all
