use Rattle.std.proofs.Common.{◌≤◌, length}
use Rattle.rdm_line.specs.Sim.{answers_branch}
use Rattle.rdm_line.proofs.AnsweringLemmas.{AreCounted}
use Rattle.rdm_line.proofs.sim.SimLine.replies.Given as goal

abbrev pub invariant-devices : goal.invariant-devices
invariant-devices l = record {
  counted : AreCounted (answers_branch l.exchange l.fn.self.muted l.range) l.device-items l.device-index l.count
      l.replies.items;
  bound : l.count ≤ l.device-index;
  few : length l.replies.items ≤ 24;
}
