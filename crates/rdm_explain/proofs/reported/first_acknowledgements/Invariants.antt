use Rattle.std.proofs.Common.{◌≡◌, ℕ, true, take}
use Rattle.rdm_wire.specs.Uid.{has}
use Rattle.rdm_wire.specs.Devices.{uids_of, device_with}
use Rattle.rdm_agent.specs.Run.{devices_in}
use Rattle.rdm_explain.specs.Exchanges.{seen_all}
use Rattle.rdm_explain.specs.body.Firsts.{first_in}
use Rattle.rdm_explain.proofs.reported.first_acknowledgements.Given as goal

abbrev pub invariant-loop-exchange : goal.invariant-loop-exchange
invariant-loop-exchange l = (u : ℕ) → has (uids_of l.set) u ≡ true
    → first_in l.first u ≡ device_with (devices_in (seen_all (take l.exchange-index l.exchanges))) u
