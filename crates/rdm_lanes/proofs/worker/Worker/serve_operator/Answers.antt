use Rattle.rdm_lanes.proofs.Common.{◌∙◌, List, ◌++◌, ◌∷◌, [], sym, ap, subst, OperatorCall, IsOperated}
use Rattle.rtrb.specs.Ring.{received as popped}
use Rattle.rdm_lanes.proofs.LaneLemmas.{all_wait, places_stay}
use Rattle.rdm_lanes.proofs.worker.Worker.serve_operator.Goals as goal

pub invariant_of-self-2 : goal.invariant_of-self-2
invariant_of-self-2 c =
    let me = c.args.self.now in
    let step = c.operate.ensures in
    let next = c.operate.new.session in
    record {
      few = me.few;
      served = step.served me.served;
      fits = all_wait me.session next me.lanes.items me.fits (places_stay me.session next step.line) step.wait;
      operated = subst (λ (calls : List OperatorCall). IsOperated next calls)
          (ap (λ (calls : List OperatorCall). calls ++ c.pop_known-call.result ∷ []) (sym c.slots.ensures.looked.1)
          ∙ sym c.pop_known-call.ensures.received.0) (step.operated (popped me.operator) me.operated);
    }
