use Rattle.std.proofs.Common.{◌≡◌, sym, ap, ◌∙◌, subst, rules, List}
use Rattle.std.proofs.Math.ListN.{set}
use Rattle.rdm_line.specs.Scenes.{IsScene, sent_by}
use Rattle.rdm_line.specs.declared.scene.SceneDevice.{SceneDevice}
use Rattle.rdm_line.proofs.SceneLemmas.{with_params, sent_at, sent_to_nobody, scene-sent, answers_found}
use Rattle.rdm_line.proofs.scene_devices.SceneDevices.send.Goals as goal

pub returns-in_err-index-clause-sent : goal.returns-in_err-index-clause-sent
returns-in_err-index-clause-sent c = sym (sent_to_nobody c.args.self.now c.args.uid c.args.pid (search rules))

-- the devices afterwards
sent : (c : goal.After-self-1)
    → set c.self.inside.devices.items c.in_ok-index.index (with_params c.index_mut.result.now c.send.new.self)
    ≡ sent_by c.args.uid c.args.pid c.args.self.now
sent c =
    ap (λ (ds : List SceneDevice). set ds c.in_ok-index.index (with_params c.index_mut.result.now c.send.new.self))
    c.self.view_is
    ∙ sent_at c.args.self.now c.args.uid c.args.pid c.in_ok-index.index c.index_mut.result.now c.send.new.self
    c.in_ok-index.ensures.some.1 (search rules) c.send.ensures.sent

pub invariant_of-self : goal.invariant_of-self
invariant_of-self c =
    subst IsScene (sym (sent c)) (scene-sent c.args.uid c.args.pid c.args.self.now c.index_of.ensures.scene)

pub returns-clause-value : goal.returns-clause-value
returns-clause-value c =
    answers_found c.args.self.now c.args.uid c.args.pid c.in_ok-index.index c.index_mut.result.now c.send.result
    c.in_ok-index.ensures.some.0 c.in_ok-index.ensures.some.1 (search rules) c.send.ensures.value

pub returns-clause-sent : goal.returns-clause-sent
returns-clause-sent c = sent c
