use Rattle.std.proofs.Common.{take}
use Rattle.rdm_agent.specs.Run.{acked_in}
use Rattle.rdm_explain.specs.Exchanges.{seen_all}
use Rattle.rdm_explain.specs.body.Trees.{Holds}
use Rattle.rdm_explain.proofs.reported.acknowledged.Given as goal

abbrev pub invariant-loop-exchange : goal.invariant-loop-exchange
invariant-loop-exchange l = Holds (acked_in (seen_all (take l.exchange-index l.exchanges))) l.acked
