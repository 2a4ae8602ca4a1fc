use Rattle.std.proofs.Common.{◌≡◌}
use Rattle.rdm_arguments.proofs.complaint.complaint_after.Given as goal

-- the command stays
abbrev pub invariant-words : goal.invariant-words
invariant-words l = l.reader.command.now ≡ l.command
