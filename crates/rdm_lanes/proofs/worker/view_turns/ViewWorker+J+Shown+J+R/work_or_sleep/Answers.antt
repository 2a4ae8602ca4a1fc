use Rattle.rdm_lanes.proofs.Common.{ℕ, refl, subst, arith, AreTurns}
use Rattle.rdm_lanes.proofs.LineLemmas.{line_same}
use Rattle.rdm_lanes.proofs.ExchangeLemmas.{exchanged_none, exchanged_join}
use Rattle.rdm_lanes.proofs.TurnLemmas.{turns_more}
use Rattle.rdm_lanes.proofs.Fronts.{prefix_self}
use Rattle.rdm_lanes.proofs.WorkLemmas.{goes_on, steps_none, view_steps_join}
use Rattle.rdm_lanes.proofs.worker.view_turns.ViewWorker+J+Shown+J+R.work_or_sleep.Goals as goal

pub loop-turn-init : goal.loop-turn-init
loop-turn-init g c =
    let me = c.args.self.now in
    record {
      exchanged = exchanged_none g.X.Line.step c.args.line.now me.server.session me.server.session
          (line_same me.server.session);
      turns_are = (refl, refl);
      few = omega arith;
      count = refl;
      steps = record { server = steps_none me.server; shown = prefix_self me.views.shown };
    }

pub loop-turn-preserved : goal.loop-turn-preserved
loop-turn-preserved g c =
    let me = c.args.self.now in
    let old = c.loop-turn.self in
    let new = c.turn.new.self in
    let before = c.loop-turn.invariant in
    let turn = c.turn.ensures in
    record {
      exchanged = exchanged_join g.X.Line.step c.args.line.now c.loop-turn.line c.turn.new.line me.server.session
          old.server.session new.server.session before.exchanged turn.exchanged;
      turns_are = turns_more c.loop-turn._turn me.server.session old.server.session new.server.session me.views.shown
          old.views.shown new.views.shown before.turns_are
          (goes_on c.turn.result c.in_default.not-Some turn.went_on) turn.steps.shown;
      few = omega (arith, before.few, turn.one);
      count = omega (arith, before.count, turn.counted);
      steps = view_steps_join me old new before.steps turn.steps;
    }

pub returns-clause-worked : goal.returns-clause-worked
returns-clause-worked g c is =
    subst (λ (n : ℕ). AreTurns n c.args.self.now.server.session c.args.self.now.views.shown
    c.loop-turn.self.server.session c.loop-turn.self.views.shown)
    (omega (arith, c.loop-turn-test.false, c.loop-turn.invariant.count, c.loop-turn.invariant.few))
    c.loop-turn.invariant.turns_are

pub returns-in-Some-clause-lanes : goal.returns-in-Some-clause-lanes
returns-in-Some-clause-lanes g c =
    (view_steps_join c.args.self.now c.loop-turn.self c.turn.new.self c.loop-turn.invariant.steps
    c.turn.ensures.steps).server.lanes
