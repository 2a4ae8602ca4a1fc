use Rattle.std.proofs.Common.{refl, arith, rules}
use Rattle.rdm_agent.proofs.Stacks.{IsStack-pop}
use Rattle.rdm_agent.proofs.run_state.RunState.next_range.Goals as goal

pub returns-in-Some : goal.returns-in-Some
returns-in-Some c = record {
  phase = search rules;
  search = refl;
  found = refl;
  apart = refl;
  more = refl;
  consistent = rw c.fresh_search.ensures (
    (omega arith, omega arith, omega arith, IsStack-pop c.requires.0 _ _ (rw c.in-Some.ensures at c.requires.1)),
    tt,
  );
}
