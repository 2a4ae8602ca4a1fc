use Rattle.rdm_serving.proofs.LoggedLemmas.{logged_both}
use Rattle.rdm_serving.proofs.serving.logged.is_logged.Goals as goal

pub returns-then-are_requests_logged : goal.returns-then-are_requests_logged
returns-then-are_requests_logged c =
    logged_both c.args.log.now.opening c.opening-opening.result.now c.args.log.now.entries
    c.all_entries-entries.result.now c.args.client c.args.told.now c.deref-2.result.now
    c.deref-then-are_requests_logged-2.result.now c.are_discoveries_logged.result
    c.opening-opening.ensures c.all_entries-entries.ensures c.deref-2.ensures.value
    c.deref-then-are_requests_logged-2.ensures.value c.if-are_requests_logged.ensures
    c.are_discoveries_logged.ensures
