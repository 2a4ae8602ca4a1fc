use Rattle.std.proofs.Common.{◌≡◌, take}
use Rattle.rdm_findings.specs.Explained.{staying}
use Rattle.rdm_findings.proofs.listing.staying.Given as goal

abbrev pub invariant-uids : goal.invariant-uids
invariant-uids l = l.stay.items ≡ staying l.passing (take l.uid-index l.uids)
