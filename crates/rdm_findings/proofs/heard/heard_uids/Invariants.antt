use Rattle.std.proofs.Common.{◌≡◌, ℕ, take}
use Rattle.rdm_wire.specs.Uid.{has}
use Rattle.rdm_explain.specs.Exchanges.{seen_all}
use Rattle.rdm_findings.specs.HeardUids.{heard_in, in_uids}
use Rattle.rdm_findings.proofs.heard.heard_uids.Given as goal

abbrev pub invariant-loop-exchange : goal.invariant-loop-exchange
invariant-loop-exchange l =
    (u : ℕ) → in_uids l.heard u ≡ has (heard_in (seen_all (take l.exchange-index l.exchanges))) u
