-- each pass so far was a turn, and each accepted call and each outcome took one
use Rattle.std.proofs.Common.{◌≡◌, ◌+◌, ◌≤◌}
use Rattle.rdm_serving.specs.body.Scripts.{done_by}
use Rattle.rdm_serving.proofs.serving.playing.play_script.Given as goal

abbrev pub invariant-turns : goal.invariant-turns
invariant-turns g l =
    (l.script.outcomes.turns ≡ l._turn)
    × (done_by l.script ≤ done_by l.fn.script + l._turn) × (l.script.calls ≡ l.fn.script.calls)
    × g.C.Client.same l.fn.client l.client
