use Rattle.std.proofs.Common.{ap}
use Rattle.rdm_log.specs.log.Entries.{accepts, accepted_of}
use Rattle.rdm_serving.proofs.LoggedLemmas.{no_accept, numbers_skip, numbers_next, numbers_end}
use Rattle.rdm_serving.proofs.serving.logged.submitters.Goals as goal
use Rattle.rdm_serving.proofs.serving.logged.submitters.Goals.{in-Accept+in_ok-push, in_default}

pub entries-preserved : goal.entries-preserved
unfolding accepts
entries-preserved c = elim c.match-entry.branch [
  | in-Accept+in_ok-push w ↦ rw (w.clients-is, w.in_ok-push.ensures.items)
      (numbers_next accepted_of (λ s. s.client) c.args.entries.now c.entries.entry-index c.entry-item.result
      (record { client = w.in-Accept.client.0; number = w.in-Accept.number; request = w.in-Accept.request }) _ _
      c.entries-test.true c.entry-item.is (ap accepted_of w.in-Accept.is) c.entries.invariant)
  | in_default w ↦ rw w.clients-is
      (numbers_skip accepted_of (λ s. s.client) c.args.entries.now c.entries.entry-index c.entry-item.result _ _
      c.entries-test.true c.entry-item.is (no_accept c.entry-item.result w.in_default.not-Accept) c.entries.invariant)
]

pub returns : goal.returns
unfolding accepts
returns c = numbers_end accepted_of (λ s. s.client) c.args.entries.now c.entries.entry-index _ _ c.entries-test.false
    c.entries.invariant
