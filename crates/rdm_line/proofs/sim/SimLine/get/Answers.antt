use Rattle.std.proofs.Common.{ap, ◌∙◌, subst}
use Rattle.rdm_line.specs.Scenes.{sent_by}
use Rattle.rdm_line.specs.body.Parts.{parameter_at, AnswersPart}
use Rattle.rdm_line.specs.Sim.{SimState}
use Rattle.rdm_line.specs.contracts.sim.SimLine.{the_view}
use Rattle.rdm_line.proofs.SoundLemmas.{sound-sent}
use Rattle.rdm_line.proofs.StepLemmas.{answered, nothing_sent}
use Rattle.rdm_line.proofs.sim.SimLine.get.Goals as goal

pub invariant_of-self : goal.invariant_of-self
invariant_of-self c = rw c.send-sent.ensures.sent (sound-sent _ _ _ _ _ _ _ _ c.self.invariant)

pub returns : goal.returns
returns c =
    answered (parameter_at c.args.request.now.target c.args.request.now.pid c.args.self.now.devices) c.send-sent.result
    c.args.self.now _ c.args.request.now c.args.source c.args.tn c.answer_get.result.items
    (subst (λ (s : SimState). AnswersPart (parameter_at c.args.request.now.target c.args.request.now.pid s.devices)
    c.send-sent.result) c.self.view_is c.send-sent.ensures.value)
    c.answer_get.ensures
    (ap (λ ds. record (the_view c.self.inside) { devices = ds }) c.send-sent.ensures.sent
    ∙ ap (λ (s : SimState). record s {
      devices = sent_by c.args.request.now.target c.args.request.now.pid s.devices;
    }) c.self.view_is)
    (nothing_sent c.args.request.now.target c.args.request.now.pid c.args.self.now.devices)
