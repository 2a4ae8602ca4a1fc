use Rattle.rdm_line.proofs.KeepsLemmas.{run_keeps, each_keeps}
use Rattle.rdm_line.proofs.laws.scene_is_kept.Goals as goal

pub returns : goal.returns
returns c = record { after = run_keeps; amid = each_keeps }
