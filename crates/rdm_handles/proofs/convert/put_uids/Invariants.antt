use Rattle.rdm_handles.proofs.FormLemmas.{AreWritten}
use Rattle.rdm_handles.proofs.convert.put_uids.Given as goal

abbrev pub invariant-copying : goal.invariant-copying
invariant-copying l = AreWritten l.buffer l.uids l.i
