use Rattle.rdm_scenes.proofs.SceneLemmas.{honest_of, trace_of}
use Rattle.rdm_scenes.proofs.CalmLemmas.{calm_of}
use Rattle.rdm_scenes.proofs.laws.runs_are_honest.Goals as goal

pub returns : goal.returns
returns c = record {
  changing = λ s t k r over is. honest_of s t k over is r;
  staying = λ s t k r over is. trace_of s t k over is r;
  calm = λ s t k r over is. calm_of s t k over is r;
}
