use Rattle.rdm_queue.proofs.Common.{refl, ◌∙◌, rules, tests, run_is}
use Rattle.rdm_queue.proofs.queue.Queue.take_run.Goals as goal

pub returns-clause-frame : goal.returns-clause-frame
returns-clause-frame c = record {
  run = run_is c.in_ok-run.run';
  run_is = rw (← c.self.view_is, c.in_ok-run.was) refl;
  goes_on = rw (← c.self.view_is) (λ end. search (rules, tests));
  owner_is = refl;
  frame_is = rw (← c.self.view_is) (c.frame-frame.ensures.frame ∙ rw c.next-op.ensures.value refl);
  asks = rw (← c.self.view_is) (c.frame-frame.ensures.asks ∙ rw c.next-op.ensures.value refl);
  new_is = rw (← c.self.view_is) refl;
}
