use Rattle.rdm_handles.proofs.FormLemmas.{Written}
use Rattle.rdm_handles.proofs.convert.put_devices.Given as goal

abbrev pub invariant-copying : goal.invariant-copying
invariant-copying l = Written l.buffer l.devices l.i
