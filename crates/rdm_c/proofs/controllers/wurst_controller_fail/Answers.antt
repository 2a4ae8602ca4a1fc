use Rattle.rdm_handles.proofs.Common.{arith}
use Rattle.rdm_c.proofs.AnswerLemmas.{not_awaited}
use Rattle.rdm_c.proofs.controllers.wurst_controller_fail.Goals as goal

pub returns-after-deliver-clause-not_asked : goal.returns-after-deliver-clause-not_asked
returns-after-deliver-clause-not_asked c refused = elim c.match-deliver.branch [
  | goal.in-Ok w ↦ absurd (omega (arith, refused, w.status-is))
  | goal.in-Err w ↦ rw (← c.in-Some.ensures.some.1, ← c.deref_mut-controller.ensures.value)
      (not_awaited _ _ _ _ w.in-Err.ensures.adds)
]
