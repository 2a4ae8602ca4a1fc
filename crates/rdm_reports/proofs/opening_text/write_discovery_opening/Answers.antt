use Rattle.std.proofs.Common.{subst, ◌∙◌}
use Rattle.rdm_reports.specs.Writing.{Logs}
use Rattle.rdm_reports.proofs.opening_text.write_discovery_opening.Goals as goal

pub returns-in-Ok : goal.returns-in-Ok
returns-in-Ok g c =
    subst (λ text. Logs c.args.log.now c.write.new.self text) (c.deref.ensures.value ∙ c.in-Ok.ensures) c.write.ensures
