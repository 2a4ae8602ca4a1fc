use Rattle.rdm_queue.proofs.Common.{LogState, unended, StandsAmid}
use Rattle.rdm_queue.proofs.BodyLemmas.CallLemmas.{EndedSoFar}
use Rattle.rdm_queue.proofs.controller.Controller.finish_due.Given as goal

-- the entries so far are Finishes, and Answers in bound
abbrev pub invariant-loop : goal.invariant-loop
invariant-loop l = (k : LogState) → StandsAmid k.opening k.entries l.fn.self → EndedSoFar k l.self

abbrev pub decreases-loop : goal.decreases-loop
decreases-loop l = unended l.self
