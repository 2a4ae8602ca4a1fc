use Rattle.rdm_files.proofs.FormLemmas.{passed}
use Rattle.rdm_files.proofs.scene.parameter.ParameterFormForm.read.Goals as goal

pub returns-in_err-parts : goal.returns-in_err-parts
returns-in_err-parts c =
    passed _ _ _ c.from_residual-in_err-parts.ensures.1 (λ other p h. c.in_err-parts.ensures other p.parts h.parts)
