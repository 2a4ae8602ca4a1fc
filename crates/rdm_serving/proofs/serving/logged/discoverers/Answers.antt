use Rattle.std.proofs.Common.{ap}
use Rattle.rdm_log.specs.log.Entries.{asks, asked_of}
use Rattle.rdm_serving.proofs.LoggedLemmas.{no_ask, numbers_skip, numbers_next, numbers_end}
use Rattle.rdm_serving.proofs.serving.logged.discoverers.Goals as goal
use Rattle.rdm_serving.proofs.serving.logged.discoverers.Goals.{in-Ask+in_ok-push, in_default}

pub entries-preserved : goal.entries-preserved
unfolding asks
entries-preserved c = elim c.match-entry.branch [
  | in-Ask+in_ok-push w ↦ rw (w.clients-is, w.in_ok-push.ensures.items)
      (numbers_next asked_of (λ s. s.client) c.args.entries.now c.entries.entry-index c.entry-item.result
      (record { client = w.in-Ask.client.0; number = w.in-Ask.number; kind = w.in-Ask.kind }) _ _
      c.entries-test.true c.entry-item.is (ap asked_of w.in-Ask.is) c.entries.invariant)
  | in_default w ↦ rw w.clients-is
      (numbers_skip asked_of (λ s. s.client) c.args.entries.now c.entries.entry-index c.entry-item.result _ _
      c.entries-test.true c.entry-item.is (no_ask c.entry-item.result w.in_default.not-Ask) c.entries.invariant)
]

pub returns : goal.returns
unfolding asks
returns c = numbers_end asked_of (λ s. s.client) c.args.entries.now c.entries.entry-index _ _ c.entries-test.false
    c.entries.invariant
