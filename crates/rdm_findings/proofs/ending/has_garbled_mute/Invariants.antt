use Rattle.std.proofs.Common.{◌≡◌, drop}
use Rattle.std.specs.List.{list_any}
use Rattle.rdm_findings.specs.Ends.{is_garbled_mute}
use Rattle.rdm_findings.proofs.ending.has_garbled_mute.Given as goal

abbrev pub invariant-loop-exchange : goal.invariant-loop-exchange
invariant-loop-exchange l =
    list_any (is_garbled_mute l.uid) l.exchanges
    ≡ list_any (is_garbled_mute l.uid) (drop l.exchange-index l.exchanges)
