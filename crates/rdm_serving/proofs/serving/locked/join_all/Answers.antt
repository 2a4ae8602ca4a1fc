use Rattle.std.proofs.Common.{◌≡◌}
use Rattle.std.proofs.lemmas.List.Elements.{All-push, All-same}
use Rattle.rdm_serving.proofs.serving.locked.join_all.Goals as goal

pub loop-client-preserved : goal.loop-client-preserved
loop-client-preserved g c =
    All-same (λ d. d.turns ≡ c.args.turns) c.push.new.self.items _ c.in_default.ensures.items
    (All-push (λ d. d.turns ≡ c.args.turns) c.loop-client.callers.items c.new-caller.result
    c.loop-client.invariant c.new-caller.ensures)
