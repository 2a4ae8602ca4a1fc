use Rattle.rdm_queue.proofs.Common.{sym, ◌∙◌, subst, ◌<◌, rules, tests, deque_len, YieldsList-from_slice}
use Rattle.rdm_queue.proofs.Common.{YieldsList-from_map, sum_by_from_yields_List, fits_by_from_yields_list, state_of}
use Rattle.rdm_queue.proofs.BodyLemmas.FieldLemmas.{outcomes_sum, outcomes_fit}
use Rattle.rdm_queue.proofs.queue.Queue.uncollected.Goals as goal

pub sum-requires-clause-fits : goal.sum-requires-clause-fits
sum-requires-clause-fits c =
    fits_by_from_yields_list (λ k. deque_len k.outcomes) c.self.inside.clients.items c.map.result _
    (YieldsList-from_map _ (λ k. deque_len k.outcomes) (YieldsList-from_slice c.self.inside.clients.items cc)
    c.map.ensures.closure (λ x r q k. search (rules, tests)))
    (subst (λ n. n < 18446744073709551616) (sym (outcomes_sum c.self.inside.clients.items))
    (outcomes_fit (state_of c.self.inside) c.self.invariant.0.state))

pub returns : goal.returns
returns c =
    rw (← c.self.view_is) (
    sum_by_from_yields_List (λ k. deque_len k.outcomes) c.self.inside.clients.items c.map.result _ c.sum.ensures.ran
    (YieldsList-from_map _ (λ k. deque_len k.outcomes) (YieldsList-from_slice c.self.inside.clients.items cc)
    c.map.ensures.closure (λ x r q k. search (rules, tests)))
    ∙ outcomes_sum c.self.inside.clients.items)
