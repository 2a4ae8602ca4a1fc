use Rattle.rdm_queue.proofs.Common.{◌++◌, ◌∷◌, [], refl, completion_value}
use Rattle.rdm_queue.proofs.BodyLemmas.HeardLemmas.{heard_done}
use Rattle.rdm_queue.proofs.queue.Queue.hear_request.Goals as goal

pub returns-in-Done-clause-heard : goal.returns-in-Done-clause-heard
returns-in-Done-clause-heard c = λ vs none stands.
    let at = rw (← c.self.view_is) at stands in
    rw (← c.judge.ensures)
    (record {
      standing = rw c.reset.ensures.stands
          (heard_done (vs ++ c.judge.result ∷ []) c.in-Done.status c.add.new.self
          (completion_value c.completion_of-done.result) (c.in-Done.ensures.step vs at) (c.in-Done.ensures.stands vs at)
          c.completion_of-done.ensures);
      new_is = rw (← c.self.view_is) (rw (rw (← c.self.view_is) at c.requires) refl);
    })
