use Rattle.std.proofs.Common.{◌∙◌, sym}
use Rattle.rdm_files.proofs.FiveLemmas.{has-searched}
use Rattle.rdm_files.proofs.losses.has.Goals as goal

pub returns : goal.returns
returns c = c.is_ok.ensures.value
    ∙ sym (has-searched c.args.sorted.now c.args.number c.binary_search.result c.requires
    c.binary_search.ensures.position)
