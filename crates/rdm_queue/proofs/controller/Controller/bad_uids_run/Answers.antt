use Rattle.rdm_queue.proofs.Common.{ℕ, ◌-◌, ap, ◌∙◌}
use Rattle.rdm_queue.proofs.controller.Controller.bad_uids_run.Goals as goal

pub returns : goal.returns
returns c = rw (← (c.deref.ensures ∙ c.self.view_is), c.bad_uids_run.ensures)
    (λ o h after. ap (λ (n : ℕ). n - 1) after.stands.next_run_is)
