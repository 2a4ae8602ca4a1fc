-- its last step was More
use Rattle.rdm_join.specs.JoinerStanding.{IsOpen}
use Rattle.test_memory.proofs.tests.replies.with_parts.Given as goal

abbrev pub invariant-loop-part : goal.invariant-loop-part
invariant-loop-part g l = IsOpen l.joiner
