use Rattle.std.proofs.Common.{rules}
use Rattle.rdm_line.proofs.StreamLemmas.{reads_more}
use Rattle.rdm_line.proofs.stream.skip_line.Goals as goal

pub rest-preserved : goal.rest-preserved
rest-preserved g c =
    let before = c.rest.invariant in
    let more = reads_more _ _ _ before.0 c.in-Some.field-0 before.1 (search rules) before.2 (search rules) in
    (_, more.0, more.1)
