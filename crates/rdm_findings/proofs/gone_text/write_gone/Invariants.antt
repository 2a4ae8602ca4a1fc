use Rattle.std.proofs.Common.{◌≡◌, ◌++◌, take}
use Rattle.std.specs.Prelude.{flat_map}
use Rattle.rdm_findings.specs.DeviceText.{gone_finding}
use Rattle.rdm_findings.proofs.gone_text.write_gone.Given as goal

abbrev pub invariant-gone : goal.invariant-gone
invariant-gone l =
    l.text.items ≡ l.initial.text.items ++ flat_map (gone_finding l.form l.facts) (take l.device-index l.gone)
