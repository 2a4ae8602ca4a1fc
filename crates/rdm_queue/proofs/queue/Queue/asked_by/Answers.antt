use Rattle.rdm_queue.proofs.Common.{◌∙◌, sym, rules, tests, ◌==◌, YieldsList-from_slice, Asked, asked_is}
use Rattle.rdm_queue.proofs.Common.{AskedDiscovery}
use Rattle.std.proofs.lemmas.Iterator.Consumers.{YieldsList-from_filter, count_from_yields_List}
use Rattle.rdm_queue.proofs.BodyLemmas.OutstandingLemmas.{length-filter_map}
use Rattle.rdm_queue.proofs.queue.Queue.asked_by.Goals as goal

pub returns-clause-value : goal.returns-clause-value
returns-clause-value c =
    rw (← c.self.view_is) (
    count_from_yields_List c.filter.result c.count.result c.count.ensures.ran
    (YieldsList-from_filter _ (λ (a : Asked). c.args.client.0 == a.client.0)
    (YieldsList-from_slice c.self.inside.asked.items cc) c.filter.ensures.closure
    (λ x b q k. search (rules, tests)))
    ∙ sym (length-filter_map asked_is (λ (a : AskedDiscovery). c.args.client.0 == a.client) c.self.inside.asked.items))
