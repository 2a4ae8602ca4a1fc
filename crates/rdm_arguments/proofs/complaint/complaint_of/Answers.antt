use Rattle.std.proofs.Common.{subst}
use Rattle.rdm_arguments.specs.Complaints.{IsTrueAfter}
use Rattle.rdm_arguments.proofs.ComplaintLemmas.{true_of}
use Rattle.rdm_arguments.proofs.complaint.complaint_of.Goals as goal

pub returns-in-Some-command_named : goal.returns-in-Some-command_named
returns-in-Some-command_named c =
    true_of c.args.words.now c.in-Some-split_first.name.now c.in-Some-split_first.rest.now c.complaint_after.result
    c.in-Some-split_first.ensures.cases.0 c.in-Some-command_named.ensures.known
    (subst (λ name. IsTrueAfter name c.in-Some-split_first.rest.now c.complaint_after.result)
    c.in-Some-command_named.ensures.some c.complaint_after.ensures)
