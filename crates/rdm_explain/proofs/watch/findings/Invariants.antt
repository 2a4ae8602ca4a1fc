use Rattle.std.proofs.Common.{◌≡◌, map, take}
use Rattle.rdm_explain.specs.body.Watching.{finding_of}
use Rattle.rdm_explain.proofs.watch.findings.Given as goal

abbrev pub invariant-loop-watch : goal.invariant-loop-watch
invariant-loop-watch l = l.found.items ≡ map finding_of (take l.watch-index l.watches)
