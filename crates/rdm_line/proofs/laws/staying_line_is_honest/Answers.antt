use Rattle.rdm_line.proofs.KeepsLemmas.{staying_honest}
use Rattle.rdm_line.proofs.laws.staying_line_is_honest.Goals as goal

pub returns : goal.returns
returns c = staying_honest
