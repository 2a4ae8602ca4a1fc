use Rattle.std.proofs.Common.{◌≡◌, [], drop}
use Rattle.rdm_findings.specs.Explained.{misread_after}
use Rattle.rdm_findings.proofs.listing.misread_uids.Given as goal

abbrev pub invariant-loop-exchange : goal.invariant-loop-exchange
invariant-loop-exchange l =
    misread_after l.uids [] l.exchanges
    ≡ misread_after l.uids l.suspects.items (drop l.exchange-index l.exchanges)
