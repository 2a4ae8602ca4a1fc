use Rattle.std.proofs.Common.{◌≡◌, ℕ, take}
use Rattle.rdm_wire.specs.Uid.{has}
use Rattle.rdm_explain.specs.Exchanges.{seen_all}
use Rattle.rdm_agent.specs.Run.{acked_in}
use Rattle.rdm_findings.specs.HeardUids.{in_uids}
use Rattle.rdm_findings.proofs.heard.acknowledged_uids.Given as goal

abbrev pub invariant-loop-exchange : goal.invariant-loop-exchange
invariant-loop-exchange l =
    (u : ℕ) → in_uids l.acked u ≡ has (acked_in (seen_all (take l.exchange-index l.exchanges))) u
