use Rattle.std.proofs.Common.{◌≡◌, drop}
use Rattle.rdm_wire.specs.Uid.{has}
use Rattle.rdm_findings.proofs.listing.has.Given as goal

abbrev pub invariant-loop-one : goal.invariant-loop-one
invariant-loop-one l = has l.uids l.uid ≡ has (drop l.one-index l.uids) l.uid
