use Rattle.rdm_queue.proofs.Common.{sym, completion_value}
use Rattle.rdm_queue.proofs.BodyLemmas.HeardLemmas.{finished_so}
use Rattle.rdm_queue.proofs.queue.Queue.finish_oldest.Goals as goal

pub returns-clause-finished : goal.returns-clause-finished
returns-clause-finished c =
    finished_so c.args.self.now c.end_of_oldest.new.self c.finish.new.self (completion_value c.in_ok-done.done)
    c.finish.result (rw c.in_ok-done.was at (sym c.end_of_oldest.ensures.end))
    (rw c.in_ok-done.was at c.end_of_oldest.ensures.removed) c.finish.ensures.finished
