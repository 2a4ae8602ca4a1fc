use Rattle.rdm_lanes.proofs.WorkLemmas.{Worked}
use Rattle.rdm_lanes.proofs.worker.view_turns.ViewWorker+J+Shown+J+R.work_or_sleep.Given as goal

abbrev pub invariant-loop-turn : goal.invariant-loop-turn
invariant-loop-turn g l = Worked g.X.Line.step l._turn l.fn.line l.fn.self l.line l.self
