use Rattle.std.proofs.Common.{◌≡◌, ◌≤◌, ◌^◌, take}
use Rattle.rdm_agent.specs.Apart.{past}
use Rattle.rdm_agent.proofs.apart.UidsApart.past.Given as goal

abbrev pub invariant-loop-uid : goal.invariant-loop-uid
invariant-loop-uid l = (l.next ≡ past l.from (take l.uid-index l.uid-items)) × (l.next ≤ 2 ^ 48)
