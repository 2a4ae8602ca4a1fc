use Rattle.std.proofs.Common.{take}
use Rattle.rdm_explain.proofs.WatchLemmas.{WatchesAll}
use Rattle.rdm_explain.proofs.rule.first_breaches.Given as goal

abbrev pub invariant-loop-at : goal.invariant-loop-at
invariant-loop-at l = WatchesAll (take l.at l.exchanges) l.uids l.watches.items
