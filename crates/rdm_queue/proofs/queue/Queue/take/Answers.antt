use Rattle.rdm_queue.proofs.Common.{◌∙◌, sym, ap, not, rules, tests, length-map, asked_is, Opened, Began}
use Rattle.rdm_queue.proofs.BodyLemmas.RingSteps.{if_some, no_run_is}
use Rattle.rdm_queue.proofs.queue.Queue.take.Goals.{then-is_none+else-self-2+else-self-3+else-is_empty, else-is_none}
use Rattle.rdm_queue.proofs.queue.Queue.take.Goals as goal

pub returns-clause-frame : goal.returns-clause-frame
returns-clause-frame c = elim c.if-is_none.branch [
  | then-is_none+else-self-2+else-self-3+else-is_empty w ↦
      if_some c.take_run.result (λ given gives. record {
        free = search (rules, tests);
        not_closed = search (rules, tests);
        which = Began (record {
          no_run = rw (← c.self.view_is) (no_run_is c.self.inside.run (c.is_none.ensures ∙ ap not w.if-is_none.true));
          not_paused = search (rules, tests);
          turn = rw (← c.self.view_is)
              (rw (w.if-self-3.false, length-map c.self.inside.asked.items asked_is)
              (sym w.is_empty.ensures ∙ w.if-is_empty.false));
          starts = w.begin_run.ensures.starts;
          gives = rw (sym w.begin_run.ensures.begun, ← w.self-is) gives;
        });
      }) c.take_run.ensures.frame
  | else-is_none w ↦
      if_some c.take_run.result (λ given gives. record {
        free = search (rules, tests);
        not_closed = search (rules, tests);
        which = Opened (record { gives = rw w.self-is at gives });
      }) c.take_run.ensures.frame
]
