use Rattle.std.proofs.Common.{rules, arith}
use Rattle.rdm_agent.proofs.Stacks.{IsStack-whole}
use Rattle.rdm_agent.proofs.run_state.searching_all.Goals as goal

pub returns : goal.returns
returns c = record {
  phase = search rules;
  sound = λ known. (
    c.requires,
    omega arith,
    (let few = c.requires in omega (arith, few)),
    rw c.whole.ensures IsStack-whole,
  );
}
