use Rattle.rdm_queue.proofs.Common.{◌≡◌, List, Entry, grown, AllResults, AnswersInBound, unended, SessionAmid}
use Rattle.rdm_queue.proofs.session.finish_due.Given as goal

-- the entries so far are Finishes, and Answers in bound
abbrev pub invariant-loop-entry : goal.invariant-loop-entry
invariant-loop-entry l = record {
  amid : SessionAmid l.controller l.log;
  grows : (results : List Entry) × AllResults results × AnswersInBound l.fn.log results
      × (l.log ≡ grown l.fn.log results);
}

abbrev pub decreases-loop-entry : goal.decreases-loop-entry
decreases-loop-entry l = unended l.controller
