use Rattle.std.proofs.Common.{◌≡◌, take}
use Rattle.std.specs.Prelude.{flat_map}
use Rattle.rdm_findings.specs.Document.{passing_finding}
use Rattle.rdm_findings.proofs.document.passing_text.Given as goal

abbrev pub invariant-passing : goal.invariant-passing
invariant-passing l = l.text.items ≡ flat_map (passing_finding l.form) (take l.uid-index l.passing)
