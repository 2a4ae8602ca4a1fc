use Rattle.std.proofs.Common.{◌≤◌, length, take}
use Rattle.rdm_explain.specs.Exchanges.{seen_all}
use Rattle.rdm_explain.specs.Strays.{IsStray}
use Rattle.rdm_explain.specs.body.Noting.{SightedTo}
use Rattle.rdm_explain.specs.body.Trees.{in_tree}
use Rattle.rdm_explain.proofs.StrayLemmas.{Fails, Knows}
use Rattle.rdm_explain.proofs.WatchLemmas.{WatchesAll}
use Rattle.rdm_explain.proofs.stray.judge.Given as goal

abbrev pub invariant-loop-at : goal.invariant-loop-at
invariant-loop-at l =
    Fails l.uids l.passing l.exchanges l.at l.failed
    × WatchesAll (take l.at l.exchanges) l.uids l.watches.items
    × SightedTo (IsStray l.uids l.passing l.exchanges) l.at l.found
    × Knows (in_tree l.muted) (seen_all (take l.at l.exchanges))
    × (l.at ≤ length l.exchanges)
