use Rattle.std.proofs.Common.{arith}
use Rattle.rdm_files.proofs.FileLemmas.{content}
use Rattle.rdm_files.proofs.input.read_file.Goals as goal

pub returns-in-Ok-clause-content : goal.returns-in-Ok-clause-content
returns-in-Ok-clause-content g c =
    content (g.R.Read.remaining c.args.reader.now) c.read_to_end.new.buf.items (omega arith)
    (rw (c.take-limited.ensures.limit, c.take-limited.ensures.inner, c.new-bytes.ensures.items) at
    c.in-Ok.ensures.bytes)
