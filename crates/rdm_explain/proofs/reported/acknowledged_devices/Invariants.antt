use Rattle.std.proofs.Common.{◌≡◌, take}
use Rattle.rdm_explain.specs.Exchanges.{seen_all}
use Rattle.rdm_explain.specs.Reported.{reported_in}
use Rattle.rdm_explain.proofs.reported.acknowledged_devices.Given as goal

abbrev pub invariant-loop-exchange : goal.invariant-loop-exchange
invariant-loop-exchange l = l.devices ≡ reported_in (seen_all (take l.exchange-index l.exchanges))
