use Rattle.std.proofs.Common.{take}
use Rattle.std.specs.List.{AllByRecursion}
use Rattle.rdm_explain.specs.Exchanges.{seen_all}
use Rattle.rdm_explain.specs.Certificates.{IsAsFirstAcked}
use Rattle.rdm_explain.proofs.reported.first_other_data.Given as goal

abbrev pub invariant-loop-device : goal.invariant-loop-device
invariant-loop-device l = AllByRecursion (IsAsFirstAcked (seen_all l.exchanges)) (take l.device-index l.set)
