use Rattle.std.proofs.Common.{arith}
use Rattle.std.proofs.lemmas.List.Elements.{Contains-get_or}
use Rattle.rdm_arguments.proofs.ComplaintLemmas.{among}
use Rattle.rdm_arguments.proofs.complaint.complaint_after.Goals as goal

pub returns-in-Some : goal.returns-in-Some
returns-in-Some c =
    among c.args.command.now.name.now _ c.args.words.now c.in-Some.complaint
    (Contains-get_or c.args.words.now c.words.i _ (omega arith))
    (rw c.words.invariant at c.in-Some.ensures.true_after)
