use Rattle.std.proofs.Common.{◌≡◌, ◌++◌, take}
use Rattle.rdm_port.specs.Explanation.{without}
use Rattle.rdm_port.proofs.explaining.push_others.Given as goal

abbrev pub invariant-others : goal.invariant-others
invariant-others l = l.uids.items ≡ l.initial.uids.items ++ without l.given (take l.uid-index l.others)
