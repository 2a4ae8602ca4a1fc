use Rattle.std.proofs.Common.{◌&&◌, not, take}
use Rattle.rdm_wire.specs.Uid.{has}
use Rattle.rdm_wire.specs.Devices.{uids_of}
use Rattle.rdm_agent.specs.Run.{acked_in}
use Rattle.rdm_explain.specs.Exchanges.{seen_all}
use Rattle.rdm_explain.specs.body.Leasts.{Least}
use Rattle.rdm_explain.proofs.reported.least_missing.Given as goal

abbrev pub invariant-loop-exchange : goal.invariant-loop-exchange
invariant-loop-exchange l =
    Least (λ u. has (acked_in (seen_all (take l.exchange-index l.exchanges))) u && not (has (uids_of l.set) u)) l.least
