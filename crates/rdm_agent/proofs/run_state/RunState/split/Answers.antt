use Rattle.std.proofs.Common.{refl, arith, rules}
use Rattle.rdm_agent.proofs.Stacks.{IsStack-halves}
use Rattle.rdm_agent.proofs.run_state.RunState.split.Goals as goal

pub push-requires : goal.push-requires
push-requires c = (IsStack-halves c.args.top c.args.self.now.below _ c.in-Some.ensures.value c.requires).1

pub returns-in-Some : goal.returns-in-Some
returns-in-Some c =
    let halves = IsStack-halves c.args.top c.args.self.now.below _ c.in-Some.ensures.value c.requires in
    record {
      phase = search rules;
      search = refl;
      found = refl;
      apart = refl;
      more = refl;
      consistent = rw c.fresh_search.ensures
          ((omega arith, omega arith, omega arith, rw c.push.ensures halves.0), tt);
    }
