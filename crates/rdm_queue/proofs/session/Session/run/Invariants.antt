use Rattle.rdm_queue.proofs.Common.{◌≡◌, ◌≤◌, length, take, Legal}
use Rattle.std.specs.Vec.{vec_capacity}
use Rattle.rdm_log.specs.promises.Explains.{Explains}
use Rattle.rdm_queue.proofs.session.Session.run.Given as goal

-- the answers so far explain the log so far
abbrev pub invariant-loop-event : goal.invariant-loop-event
invariant-loop-event l = record {
  explains : Explains l.fn.self (take l.event-index l.events) l.answers.items l.self;
  legal : Legal l.self.opening l.self.entries;
  one_each : length l.answers.items ≡ l.event-index;
  room : length l.events ≤ vec_capacity l.answers;
}
