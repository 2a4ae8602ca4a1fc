use Rattle.std.proofs.Common.{◌≡◌, map, take}
use Rattle.rdm_explain.specs.body.Watching.{watch_of}
use Rattle.rdm_explain.proofs.watch.watch_all.Given as goal

abbrev pub invariant-loop-uid : goal.invariant-loop-uid
invariant-loop-uid l = l.watches.items ≡ map watch_of (take l.uid-index l.uids)
