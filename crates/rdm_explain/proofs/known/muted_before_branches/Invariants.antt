use Rattle.std.proofs.Common.{◌≡◌, false, take}
use Rattle.std.specs.List.{AllByRecursion}
use Rattle.rdm_wire.specs.Honest.{Seen}
use Rattle.rdm_agent.specs.Run.{is_branch, muted_in}
use Rattle.rdm_explain.specs.Exchanges.{seen_all}
use Rattle.rdm_explain.specs.body.Trees.{Holds}
use Rattle.rdm_explain.proofs.known.muted_before_branches.Given as goal

abbrev pub invariant-loop-exchange : goal.invariant-loop-exchange
invariant-loop-exchange l =
    AllByRecursion (λ (e : Seen). is_branch e ≡ false) (seen_all (take l.exchange-index l.exchanges))
    × Holds (muted_in (seen_all (take l.exchange-index l.exchanges))) l.muted
