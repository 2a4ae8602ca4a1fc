use Rattle.std.proofs.Common.{sym, subst}
use Rattle.rdm_line.specs.body.LineReading.{IsTextOf}
use Rattle.rdm_line.proofs.StreamLemmas.{text_is}
use Rattle.rdm_line.proofs.stream.text_of.Goals as goal

pub returns-clause-text : goal.returns-clause-text
returns-clause-text c =
    subst (λ text. IsTextOf c.args.line.now text.now) (sym c.unwrap_or.ensures)
    (text_is c.args.line c.strip_suffix.result c.strip_suffix.ensures.cases)
