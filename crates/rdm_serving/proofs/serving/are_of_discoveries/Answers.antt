use Rattle.std.proofs.Common.{map, take, ap, ◌∙◌, arith}
use Rattle.rdm_reports.specs.declared.outcomes.Discovered.{Discovered}
use Rattle.rdm_reports.specs.SessionReport.{is_ask}
use Rattle.rdm_serving.proofs.IndexLemmas.{next_call, other_call}
use Rattle.rdm_serving.proofs.serving.are_of_discoveries.Goals as goal
use Rattle.rdm_serving.proofs.serving.are_of_discoveries.Goals.{in-Submit}
use Rattle.rdm_serving.proofs.serving.are_of_discoveries.Goals.{in-Discover+else-count-outcomes+else-outcomes-count}

pub calls-preserved : goal.calls-preserved
calls-preserved c = elim c.match-calls-call_index.branch [
  | in-Submit w ↦ rw w.count-is (
    c.calls.invariant.0,
    other_call is_ask c.args.calls.now (map (λ (t : Discovered). t.tag) (take c.calls.count c.args.outcomes.now))
        c.calls.call_index c.index-calls-call_index.result c.calls-test.true
        c.index-calls-call_index.is (ap is_ask w.in-Submit.is) c.calls.invariant.1,
  )
  | in-Discover+else-count-outcomes+else-outcomes-count w ↦ rw w.count-is (
    omega (arith, c.calls.invariant.0, w.if-count-outcomes.false),
    next_call is_ask (λ (t : Discovered). t.tag) c.args.calls.now c.args.outcomes.now c.calls.call_index c.calls.count
        c.index-calls-call_index.result w.index-outcomes-count.result c.calls-test.true
        (omega (arith, c.calls.invariant.0, w.if-count-outcomes.false)) c.index-calls-call_index.is
        w.index-outcomes-count.is
        (ap is_ask w.in-Discover.is)
        (ap (λ (t : Discovered). t.tag) w.index-outcomes-count.is ∙ w.if-outcomes-count.false) c.calls.invariant.1,
  )
]
