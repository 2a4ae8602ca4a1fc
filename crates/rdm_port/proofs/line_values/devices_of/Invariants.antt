use Rattle.rdm_port.proofs.LineLemmas.{SpelledSoFar}
use Rattle.rdm_port.proofs.line_values.devices_of.Given as goal

abbrev pub invariant-texts : goal.invariant-texts
invariant-texts l = SpelledSoFar l.texts l.i l.known
