use Rattle.rdm_queue.proofs.Common.{◌≡◌, true, [], ◌∷◌, sym, ◌∙◌, Came, awaited, grown}
use Rattle.rdm_queue.proofs.BodyLemmas.CallLemmas.{with_results}
use Rattle.rdm_queue.proofs.controller.Controller.deliver.Goals as goal

pub returns-clause-adds : goal.returns-clause-adds
returns-clause-adds c =
    λ k after.
    let waits : awaited k.entries ≡ true =
    sym (c.awaits.ensures k.opening k.entries after) ∙ c.if-not-awaits.false in
    let with = with_results k (Came c.args.event) _ tt
    (c.finish_due.ensures (grown k (Came c.args.event ∷ [])) (c.hear.ensures k.opening k.entries after waits)) in
    record { block = with.block; adds = (waits, with.adds.0, with.adds.1); after = with.after }
