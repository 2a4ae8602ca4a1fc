use Rattle.std.proofs.Common.{◌≡◌, [], drop}
use Rattle.rdm_wire.specs.Devices.{uids_of}
use Rattle.rdm_findings.specs.Explained.{unmuted_after}
use Rattle.rdm_findings.proofs.listing.unmuted.Given as goal

abbrev pub invariant-loop-at : goal.invariant-loop-at
invariant-loop-at l =
    unmuted_after l.uids (uids_of l.reported) [] l.exchanges
    ≡ unmuted_after l.uids (uids_of l.reported) l.suspects.items (drop l.at l.exchanges)
