use Rattle.std.proofs.Common.{rules, ◌≤◌, ◌/◌, length, arith}
use Rattle.rdm_line.proofs.StreamLemmas.{reads_none}
use Rattle.rdm_line.proofs.stream.parse_reply.Goals as goal

pub returns-in_err-ok-clause-none : goal.returns-in_err-ok-clause-none
returns-in_err-ok-clause-none c =
    let fits : length c.text_of-text.result.now / 2 ≤ 257 = omega (arith, c.text_of-text.ensures.fits, c.requires) in
    let none = reads_none c.args.line.now c.text_of-text.result.now _ c.decode_to_slice.result _
    c.text_of-text.ensures.text
    (search rules) c.decode_to_slice.ensures.value (search rules) in
    search rules
