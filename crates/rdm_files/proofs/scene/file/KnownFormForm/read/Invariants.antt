use Rattle.rdm_files.proofs.KnownForms.{KnownSoFar}
use Rattle.rdm_files.proofs.scene.file.KnownFormForm.read.Given as goal

abbrev pub invariant-known : goal.invariant-known
invariant-known l = KnownSoFar l.values.items l.i l.known
