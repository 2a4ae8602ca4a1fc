use Rattle.std.proofs.Common.{◌≡◌, ◌++◌, take}
use Rattle.std.specs.Prelude.{flat_map}
use Rattle.rdm_findings.specs.DeviceText.{suspect_finding}
use Rattle.rdm_findings.proofs.gone_text.write_suspects.Given as goal

abbrev pub invariant-suspects : goal.invariant-suspects
invariant-suspects l =
    l.text.items
    ≡ l.initial.text.items
    ++ flat_map (suspect_finding l.form l.facts l.misreads l.exchanges) (take l.uid-index l.suspects)
