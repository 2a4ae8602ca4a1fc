use Rattle.std.proofs.Common.{take}
use Rattle.std.specs.List.{AllByRecursion}
use Rattle.rdm_explain.specs.Exchanges.{seen_all}
use Rattle.rdm_explain.specs.Certificates.{IsMutedFirst}
use Rattle.rdm_explain.proofs.known.first_not_muted_first.Given as goal

abbrev pub invariant-loop-uid : goal.invariant-loop-uid
invariant-loop-uid l = AllByRecursion (IsMutedFirst (seen_all l.exchanges)) (take l.uid-index l.known)
