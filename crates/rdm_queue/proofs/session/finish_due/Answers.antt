use Rattle.rdm_queue.proofs.Common.{◌++◌, ◌∷◌, [], ap, ◌∙◌, grown, FaultNeedsClose, block_more}
use Rattle.rdm_queue.proofs.BodyLemmas.SessionLemmas.{amid_grown, result_added, all_results_more}
use Rattle.rdm_queue.proofs.session.finish_due.Goals as goal
use Rattle.rdm_log.proofs.PromiseLemmas.ExplainsLemmas.{grown_twice}

pub loop-entry-preserved : goal.loop-entry-preserved
loop-entry-preserved c =
    let amid = c.loop-entry.invariant.amid in
    let so_far = c.loop-entry.invariant.grows in
    let old = c.args.log.now in
    let e = c.in-Some.entry in
    let ends = c.in-Some.ensures.ended in
    let here = ends.each c.loop-entry.log amid.amid in
    let bound : FaultNeedsClose (grown old so_far.0) e = rw so_far.3 at here.0 in
    record {
      amid = rw c.append.ensures
          (amid_grown c.loop-entry.controller c.finish_next.new.self c.loop-entry.log e amid here.1 here.0
          (result_added e ends.is));
      grows = (
        so_far.0 ++ e ∷ [],
        all_results_more so_far.0 e so_far.1 ends.is,
        block_more old so_far.0 e so_far.2 bound,
        c.append.ensures ∙ ap (λ k. grown k (e ∷ [])) so_far.3
            ∙ grown_twice old so_far.0 (e ∷ []),
      );
    }
