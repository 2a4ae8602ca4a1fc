use Rattle.std.proofs.Common.{length, ap, ◌∙◌}
use Rattle.rdm_wire.specs.BranchText.{branch_text}
use Rattle.rdm_c.proofs.packets.wurst_branch_reply_write.Goals as goal

pub returns-clause-written : goal.returns-clause-written
returns-clause-written c done =
    c.put_reply.ensures.front
    ∙ (c.write_branch_reply.ensures.text ∙ ap (λ u. branch_text u c.args.preamble) c.in-Ok.ensures.ok.0)

pub returns-clause-len : goal.returns-clause-len
returns-clause-len c done =
    c.put_reply.ensures.len
    ∙ ap (λ bytes. length bytes)
    (c.write_branch_reply.ensures.text ∙ ap (λ u. branch_text u c.args.preamble) c.in-Ok.ensures.ok.0)
