use Rattle.std.proofs.Common.{rules}
use Rattle.rdm_line.proofs.StreamLemmas.{unanswered}
use Rattle.rdm_line.proofs.stream.StreamLine.ask.Goals as goal

pub returns-clause-none : goal.returns-clause-none
returns-clause-none g c =
    unanswered c.parse_reply.result _ _ _ _ _ c.in_ok-line.line.items c.as_slice.result.now c.as_slice.ensures.value
    (search rules) c.in_ok-line.ensures.one (search rules) c.parse_reply.ensures.none
