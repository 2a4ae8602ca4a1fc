use Rattle.std.proofs.Common.{inr, arith}
use Rattle.rdm_port.proofs.explaining.listed.Goals as goal

pub returns-in-Ok-joined-clause-fault : goal.returns-in-Ok-joined-clause-fault
returns-in-Ok-joined-clause-fault g c = inr (record {
  present = c.in-Ok-joined.devices.present.items;
  passing = c.in-Ok-joined.devices.passing.items;
  devices = record {
    given = c.in-Ok.given;
    says = c.in-Ok.ensures.ok;
    rig = c.in-Ok-rig_of.file;
    has_rig = c.in-Ok-rig_of.ensures.ok;
    present_are = c.in-Ok-joined.ensures.present;
    passing_are = c.in-Ok-joined.ensures.passing;
  };
  many = omega (arith, c.len.ensures, c.if-len-gt-MOST_DEVICES.true);
})

pub returns-in-Ok-2-clause-ok : goal.returns-in-Ok-2-clause-ok
returns-in-Ok-2-clause-ok g c = record {
  given = c.in-Ok.given;
  says = c.in-Ok.ensures.ok;
  rig = c.in-Ok-rig_of.file;
  has_rig = c.in-Ok-rig_of.ensures.ok;
  present_are = c.in-Ok-joined.ensures.present;
  passing_are = c.in-Ok-joined.ensures.passing;
}
