use Rattle.rdm_agent.specs.Run.{acked_by}
use Rattle.rdm_explain.proofs.ReadLemmas.{holds_more}
use Rattle.rdm_explain.proofs.reported.acknowledged.Goals as goal

pub loop-exchange-preserved : goal.loop-exchange-preserved
loop-exchange-preserved c =
    holds_more acked_by c.args.exchanges.now c.loop-exchange.exchange-index c.exchange-item.result
    c.loop-exchange.acked c.add_acked.new.acked c.loop-exchange-test.true c.exchange-item.is
    c.loop-exchange.invariant c.in_ok-add_acked.ensures
