use Rattle.std.proofs.Common.{ap, refl}
use Rattle.rdm_files.specs.Forms.{is_memory}
use Rattle.serde_json.specs.View.{view}
use Rattle.rdm_port.proofs.explaining.rig_in.Goals as goal

pub returns-in-Err-Mismatch-clause-fault : goal.returns-in-Err-Mismatch-clause-fault
returns-in-Err-Mismatch-clause-fault g c = (
  view c.in-Ok.value,
  c.in-Ok.ensures.ok.1,
  refl,
  c.in-Err-Mismatch.ensures (ap is_memory c.in-Err-Mismatch.field-0-is),
)
