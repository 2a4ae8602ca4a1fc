use Rattle.std.proofs.Common.{sym, ap, ◌∙◌, rules}
use Rattle.std.proofs.Math.ListN.{set}
use Rattle.rdm_line.proofs.ParameterLemmas.{sends, sent, sends_none, sends_nothing}
use Rattle.rdm_line.proofs.parameter.Parameters.send.Goals as goal

pub returns-then-index-len-clause-value : goal.returns-then-index-len-clause-value
returns-then-index-len-clause-value c = sends c.args.pid c.args.self.now c.count_before-index.result
    c.index_mut.result.now c.send.result c.count_before-index.ensures.value (search rules) (search rules)
    c.send.ensures.part c.send.ensures.ack

pub returns-then-index-len-clause-sent : goal.returns-then-index-len-clause-sent
returns-then-index-len-clause-sent c = ap (λ l. set l c.count_before-index.result c.send.new.self) c.self.view_is
    ∙ sent c.args.pid c.args.self.now c.count_before-index.result c.index_mut.result.now c.send.new.self
    c.count_before-index.ensures.value (search rules) (search rules) c.send.ensures.sent

pub returns-else-index-len-clause-value : goal.returns-else-index-len-clause-value
returns-else-index-len-clause-value c =
    sends_nothing c.args.pid c.args.self.now c.count_before-index.result c.count_before-index.ensures.value
    (search rules)

pub returns-else-index-len-clause-sent : goal.returns-else-index-len-clause-sent
returns-else-index-len-clause-sent c =
    sym (sends_none c.args.pid c.args.self.now c.count_before-index.result c.count_before-index.ensures.value
    (search rules)).1
