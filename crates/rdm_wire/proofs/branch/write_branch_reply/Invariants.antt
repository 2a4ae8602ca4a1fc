use Rattle.std.proofs.Common.{◌≡◌, replicate}
use Rattle.rdm_wire.proofs.branch.write_branch_reply.Given as goal

abbrev pub invariant-filling : goal.invariant-filling
invariant-filling l = l.reply.items ≡ replicate l.counter 0xfe
