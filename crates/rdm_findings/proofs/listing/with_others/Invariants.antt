use Rattle.std.proofs.Common.{◌≡◌, ◌++◌, not, take}
use Rattle.std.specs.Prelude.{filter}
use Rattle.rdm_wire.specs.Uid.{has}
use Rattle.rdm_wire.specs.Devices.{uids_of}
use Rattle.rdm_findings.proofs.listing.with_others.Given as goal

abbrev pub invariant-present : goal.invariant-present
invariant-present l =
    l.uids.items ≡ uids_of l.reported ++ filter (λ u. not (has (uids_of l.reported) u)) (take l.uid-index l.present)
