use Rattle.std.proofs.Common.{◌≤◌, length, take}
use Rattle.rdm_explain.specs.Exchanges.{seen_all}
use Rattle.rdm_explain.specs.Garbled.{IsGarbled}
use Rattle.rdm_explain.specs.body.Noting.{SightedTo}
use Rattle.rdm_explain.specs.body.Trees.{in_tree}
use Rattle.rdm_explain.proofs.StrayLemmas.{NoFailure, Knows}
use Rattle.rdm_explain.proofs.garbled.first_garbled.Given as goal

abbrev pub invariant-loop-at : goal.invariant-loop-at
invariant-loop-at l =
    NoFailure (seen_all (take l.at l.exchanges))
    × SightedTo (IsGarbled l.exchanges) l.at l.found
    × Knows (in_tree l.muted) (seen_all (take l.at l.exchanges))
    × (l.at ≤ length l.exchanges)
