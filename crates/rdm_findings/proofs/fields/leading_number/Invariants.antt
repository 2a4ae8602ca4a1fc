use Rattle.rdm_findings.specs.SameLines.{Has64Bits}
use Rattle.rdm_findings.proofs.fields.leading_number.Given as goal

abbrev pub invariant-loop-byte : goal.invariant-loop-byte
invariant-loop-byte l =
    (goal.iterator-loop-byte).can_next l.byte-iterator × (goal.iterator-loop-byte).is_finite l.byte-iterator
    × Has64Bits l.value
