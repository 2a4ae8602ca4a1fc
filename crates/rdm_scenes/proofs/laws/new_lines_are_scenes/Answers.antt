use Rattle.rdm_scenes.proofs.NewLines.{new_lossy, new_staying, new_calm}
use Rattle.rdm_scenes.proofs.laws.new_lines_are_scenes.Goals as goal

pub returns : goal.returns
returns c = record { lossy = new_lossy; staying = new_staying; calm = new_calm }
