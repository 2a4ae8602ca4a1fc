use Rattle.std.proofs.Common.{◌≡◌, ◌≤◌, take}
use Rattle.rdm_explain.specs.Exchanges.{seen_all}
use Rattle.rdm_explain.specs.body.Covering.{cover_of, cover_state}
use Rattle.rdm_explain.proofs.cover.covered.Given as goal

abbrev pub invariant-loop-exchange : goal.invariant-loop-exchange
invariant-loop-exchange l =
    (cover_of l.cover ≡ cover_state (seen_all (take l.exchange-index l.exchanges)))
    × (l.cover.count ≤ l.exchange-index)
