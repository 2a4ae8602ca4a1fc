use Rattle.std.proofs.Common.{◌≡◌, ◌++◌, take}
use Rattle.std.specs.Prelude.{flat_map}
use Rattle.rdm_findings.specs.Logs.{unjudged_finding}
use Rattle.rdm_findings.proofs.log.write_unjudged.Given as goal

abbrev pub invariant-present : goal.invariant-present
invariant-present l =
    l.text.items ≡ l.initial.text.items ++ flat_map (unjudged_finding l.form) (take l.uid-index l.present)
