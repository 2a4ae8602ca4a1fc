use Rattle.std.proofs.Common.{rules}
use Rattle.rdm_line.proofs.StreamLemmas.{reads_long}
use Rattle.rdm_line.proofs.stream.read_line.Goals as goal

pub returns-then-is_full-clause-none : goal.returns-then-is_full-clause-none
returns-then-is_full-clause-none g c =
    let before = c.bytes.invariant in
    reads_long _ _ _ _ c.bytes.line.items c.in_ok-byte.byte (search rules) before.1 (search rules) before.0
    (search rules)
    c.skip_line.ensures
