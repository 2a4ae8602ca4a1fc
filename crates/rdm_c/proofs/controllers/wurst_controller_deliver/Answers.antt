use Rattle.rdm_handles.proofs.Common.{arith}
use Rattle.rdm_c.proofs.AnswerLemmas.{not_awaited}
use Rattle.rdm_c.proofs.controllers.wurst_controller_deliver.Goals as goal

pub returns-after-reply-gt-MOST_FRAME_BYTES-clause-not_asked :
    goal.returns-after-reply-gt-MOST_FRAME_BYTES-clause-not_asked
returns-after-reply-gt-MOST_FRAME_BYTES-clause-not_asked c refused = elim c.if-reply-gt-MOST_FRAME_BYTES.branch [
  | goal.then-reply-gt-MOST_FRAME_BYTES w ↦ absurd (omega (arith, refused, w.status-is))
  | goal.else-reply-gt-MOST_FRAME_BYTES+in-Ok w ↦ absurd (omega (arith, refused, w.status-is))
  | goal.else-reply-gt-MOST_FRAME_BYTES+in-Err w ↦ rw (
    ← c.in-Some.ensures.some.1,
    ← c.deref_mut-controller.ensures.value,
  )
      (not_awaited _ _ _ _ w.in-Err.ensures.adds)
]
