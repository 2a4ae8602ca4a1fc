use Rattle.std.proofs.Common.{false, inr, refl, subst, ◌∙◌}
use Rattle.rdm_findings.specs.Logs.{no_run_text}
use Rattle.rdm_reports.specs.Writing.{IsCutShort}
use Rattle.rdm_findings.proofs.log.explain_none.Goals as goal

pub returns-clause-stopped : goal.returns-clause-stopped
returns-clause-stopped g c = inr (
  no_run_text c.args.form c.args.present.now,
  false,
  (refl, refl),
  inr (subst (λ t. IsCutShort (g.W.Write.contents c.args.writer.now) (g.W.Write.contents c.write_all.new.writer) t)
      (c.deref.ensures.value ∙ c.in-Ok.ensures) c.in-Err.ensures.some),
)
