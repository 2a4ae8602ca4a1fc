use Rattle.rdm_handles.proofs.Common.{arith}
use Rattle.std.proofs.Common.{rules}
use Rattle.rdm_c.proofs.AnswerLemmas.{own_flag}
use Rattle.rdm_c.proofs.sessions.wurst_session_next_completion.Goals as goal

pub returns-after-from-client_count-clause-collected : goal.returns-after-from-client_count-clause-collected
returns-after-from-client_count-clause-collected c done = elim c.if-from-client_count.branch [
  | goal.then-from-client_count w ↦ absurd (omega (arith, done, w.status-is))
  | goal.else-from-client_count+in-None-oldest w ↦ absurd (omega (arith, done, w.status-is))
  | goal.else-from-client_count+in-Some-Discovery w ↦ absurd (omega (arith, done, w.status-is))
  | goal.else-from-client_count+in-Some-Request+then-len-buffer w ↦ absurd (omega (arith, done, w.status-is))
  | goal.else-from-client_count+in-Some-Request+else-len-buffer w ↦ (
    w.in-Some-Request.number,
    w.in-Some-Request.done.now,
    rw w.completion-is
        (own_flag w.in-Some-Request.number w.in-Some-Request.done.now _ _ w.completion_for_c.ensures),
    search rules,
    search rules,
  )
]
