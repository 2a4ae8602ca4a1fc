use Rattle.std.proofs.Common.{◌≡◌, ◌+◌, ◌≤◌, drop}
use Rattle.rdm_findings.specs.Explained.{missing_of}
use Rattle.rdm_findings.proofs.blame.missing_of.Given as goal

abbrev pub invariant-loop-device : goal.invariant-loop-device
invariant-loop-device l =
    (missing_of l.acked l.devices ≡ l.missing + missing_of l.acked (drop l.device-index l.devices))
    × (l.missing ≤ l.device-index)
