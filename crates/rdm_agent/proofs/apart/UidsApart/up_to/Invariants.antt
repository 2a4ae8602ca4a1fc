use Rattle.std.proofs.Common.{◌≡◌, ◌<◌, ◌^◌, take}
use Rattle.rdm_agent.specs.Apart.{up_to}
use Rattle.rdm_agent.proofs.apart.UidsApart.up_to.Given as goal

abbrev pub invariant-loop-uid : goal.invariant-loop-uid
invariant-loop-uid l = (l.top ≡ up_to l.lo (take l.uid-index l.uid-items)) × (l.top < 2 ^ 48)
