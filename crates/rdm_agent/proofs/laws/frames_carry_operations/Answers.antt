use Rattle.rdm_agent.proofs.Common.{Some, refl, sym, ap, ◌∙◌, next_op}
use Rattle.rdm_agent.proofs.Carried.{op_asks}
use Rattle.rdm_agent.proofs.CallLemmas.{hears-has_run, next_asked}
use Rattle.rdm_agent.proofs.laws.frames_carry_operations.Goals as goal

pub returns : goal.returns
returns c = record {
  asked = λ op s tn goes can. op_asks op s tn can goes;
  goes_on = λ a s tn answer goes can run stands.
      hears-has_run a _ _ (next_asked a goes ∙ ap Some (sym (op_asks (next_op a) s tn can goes))) refl run.kind
      run.known run.budget run.aborted run.exchanges stands;
}
