use Rattle.std.proofs.Common.{◌≡◌, refl, true, sym, ◌∙◌}
use Rattle.rdm_wire.specs.Uid.{is_broadcast}
use Rattle.rdm_port.proofs.line_values.device_of.Goals as goal

pub returns-in-Ok-clause-fault : goal.returns-in-Ok-clause-fault
returns-in-Ok-clause-fault c = (
  refl,
  λ u spells.
      let read = (c.in-Ok.ensures.ok u).1 spells.0 in
      let wide : is_broadcast c.in-Ok.uid ≡ true = sym c.is_broadcast.ensures ∙ c.if-is_broadcast.true in
      cc,
)

pub returns-in-Err-clause-fault : goal.returns-in-Err-clause-fault
returns-in-Err-clause-fault c = (refl, λ u spells. let read = (c.in-Err.ensures.ok u).1 spells.0 in cc)
