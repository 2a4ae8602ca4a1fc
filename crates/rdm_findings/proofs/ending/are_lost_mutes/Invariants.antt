use Rattle.std.proofs.Common.{◌≡◌, drop}
use Rattle.std.specs.List.{list_all}
use Rattle.rdm_findings.specs.Ends.{is_lost_mute}
use Rattle.rdm_findings.proofs.ending.are_lost_mutes.Given as goal

abbrev pub invariant-loop-exchange : goal.invariant-loop-exchange
invariant-loop-exchange l =
    list_all (is_lost_mute l.uid) l.exchanges
    ≡ list_all (is_lost_mute l.uid) (drop l.exchange-index l.exchanges)
