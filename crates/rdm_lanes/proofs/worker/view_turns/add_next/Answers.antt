use Rattle.std.proofs.Common.{arith}
use Rattle.rdm_lanes.proofs.ShowingLemmas.{added_all, added_next, lacks_view}
use Rattle.rdm_lanes.proofs.worker.view_turns.add_next.Goals as goal

pub returns-then-run-clause-added : goal.returns-then-run-clause-added
returns-then-run-clause-added g c done =
    added_all c.args.session.now c.args.views.now c.devices_run-run.result c.requires.publishes
    c.devices_run-run.ensures (λ less. omega (arith, less, c.if-run.true, c.run.ensures))

pub returns-clause-added : goal.returns-clause-added
returns-clause-added g c done =
    added_next c.args.session.now c.args.views.now c.add.new.self c.devices_run-run.result c.devices.result.now
    c.requires.publishes c.devices_run-run.ensures c.devices.ensures
    (omega (arith, c.if-run.false, c.run.ensures)) c.if-not-add.ensures.added

pub returns-then-not-add-clause-lacks : goal.returns-then-not-add-clause-lacks
returns-then-not-add-clause-lacks g c refused =
    lacks_view c.args.session.now c.args.views.now c.add.new.self c.devices_run-run.result c.requires.publishes
    c.devices_run-run.ensures (omega (arith, c.if-run.false, c.run.ensures)) c.add.ensures.shown
