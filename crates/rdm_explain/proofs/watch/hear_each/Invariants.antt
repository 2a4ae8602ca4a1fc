use Rattle.std.proofs.Common.{◌≡◌, ◌++◌, take, drop, map}
use Rattle.rdm_explain.specs.Exchanges.{seen_of}
use Rattle.rdm_explain.specs.body.Watching.{heard_by}
use Rattle.rdm_explain.proofs.watch.hear_each.Given as goal

-- those before this index have heard it
abbrev pub invariant-watches : goal.invariant-watches
invariant-watches l =
    l.watches.items ≡ map (heard_by l.at (seen_of l.exchange)) (take l.index l.fn.watches.items)
    ++ drop l.index l.fn.watches.items
