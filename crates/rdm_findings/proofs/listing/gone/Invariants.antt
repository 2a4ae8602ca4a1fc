use Rattle.std.proofs.Common.{◌≡◌, ◌||◌, not, take}
use Rattle.std.specs.Prelude.{filter}
use Rattle.rdm_wire.specs.Uid.{has}
use Rattle.rdm_findings.specs.HeardUids.{in_uids}
use Rattle.rdm_findings.proofs.listing.gone.Given as goal

abbrev pub invariant-known : goal.invariant-known
invariant-known l =
    l.gone.items
    ≡ filter (λ u. not (in_uids l.acked u || has l.due u)) (take l.uid-index l.known)
