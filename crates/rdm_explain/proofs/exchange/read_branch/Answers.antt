use Rattle.std.proofs.Common.{sym, ap}
use Rattle.rdm_wire.specs.Frames.{one_or_noise}
use Rattle.rdm_wire.proofs.Text.{text_read-of}
use Rattle.rdm_explain.proofs.FrameLemmas.{no_text}
use Rattle.rdm_explain.proofs.exchange.read_branch.Goals as goal

pub returns-in-One : goal.returns-in-One
returns-in-One c =
    sym (ap one_or_noise (text_read-of c.args.bytes.now _ ((c.read_branch_reply.ensures.one _).0 c.in-One.is)))

pub returns-in_default : goal.returns-in_default
returns-in_default c =
    no_text c.args.bytes.now (λ u text. c.in_default.not-One u ((c.read_branch_reply.ensures.one u).1 text))
