use Rattle.std.proofs.Common.{◌≡◌, ◌++◌, take}
use Rattle.std.specs.Prelude.{flat_map}
use Rattle.rdm_findings.specs.DeviceText.{culprit_finding}
use Rattle.rdm_findings.proofs.gone_text.write_culprits.Given as goal

abbrev pub invariant-culprits : goal.invariant-culprits
invariant-culprits l =
    l.text.items
    ≡ l.initial.text.items
    ++ flat_map (culprit_finding l.form l.facts l.exchanges) (take l.uid-index l.culprits)
