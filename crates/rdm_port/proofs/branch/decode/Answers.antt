use Rattle.std.proofs.Common.{◌∙◌, ap, sym, Ok}
use Rattle.rdm_port.proofs.branch.decode.Goals as goal

pub returns-in-Ok-clause-ok : goal.returns-in-Ok-clause-ok
returns-in-Ok-clause-ok c = (
  c.deref.result.now,
  c.read_branch_reply.result,
  c.in-Ok.ensures.ok ∙ ap Ok (sym c.deref.ensures.value),
  c.read_branch_reply.ensures.reads,
  c.to_print.ensures.text,
)
