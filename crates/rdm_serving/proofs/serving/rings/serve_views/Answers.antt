use Rattle.std.proofs.Common.{◌≡◌, ◌∙◌, length, ap, subst, IfOk}
use Rattle.std.specs.Prelude.{IfSome}
use Rattle.std.proofs.lemmas.Result.{IfOk-weaker}
use Rattle.rdm_serving.specs.body.Scripts.{ran_out_by}
use Rattle.rdm_serving.proofs.RingLemmas.{first_slots, made_all}
use Rattle.rdm_serving.proofs.serving.rings.serve_views.Goals as goal

pub returns-in-Ok-clause-slots : goal.returns-in-Ok-clause-slots
returns-in-Ok-clause-slots g c =
    subst (λ slots. IfOk c.served.result (λ s. s.slots ≡ slots))
    (first_slots c.args.ring c.in-Ok.end.ends.items c.args.clients.now c.in-Ok.ensures.over.slots_are
    (c.in-Ok.ensures.over.ended.one_each.0 ∙ ap length c.deref.ensures.value ∙ c.in-Some.ensures.places))
    c.served.ensures.slots

pub returns-in-Ok-clause-ran_out : goal.returns-in-Ok-clause-ran_out
returns-in-Ok-clause-ran_out g c =
    let end = c.in-Ok.end in
    IfOk-weaker c.served.result (λ s. s.ran_out ≡ ran_out_by end.worker end.turns)
    (λ s. IfSome s.ran_out (λ made. made ≡ c.args.start.turns))
    (λ s is. made_all end.worker end.turns c.args.start.turns s.ran_out c.in-Ok.ensures.over.all_turns is)
    c.served.ensures.ran_out
