use Rattle.std.proofs.Common.{◌∙◌}
use Rattle.rdm_serving.proofs.serving.logged.all_entries.Goals as goal

pub returns : goal.returns
returns c = c.entries.ensures.stored ∙ c.requires
