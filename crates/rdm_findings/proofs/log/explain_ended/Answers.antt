use Rattle.std.proofs.Common.{[], IfErr, sym, subst, ◌∙◌}
use Rattle.std.specs.Prelude.{if◌then◌else◌}
use Rattle.rdm_findings.specs.Logs.{AreExplained}
use Rattle.rdm_findings.specs.Runs.{ended}
use Rattle.rdm_findings.specs.body.Stops.{StopsAfter}
use Rattle.rdm_findings.proofs.log.explain_ended.Goals as goal

pub returns-then-is_ended_by-clause-stopped : goal.returns-then-is_ended_by-clause-stopped
returns-then-is_ended_by-clause-stopped g c =
    subst (λ b. IfErr c.explain_run.result (StopsAfter (AreExplained c.args.form c.args.any c.args.present.now
    c.args.passing.now (if b then ended c.args.reading.now else [])) (g.W.Write.contents c.args.writer.now)
    (g.W.Write.contents c.explain_run.new.writer)))
    (sym (sym c.is_ended_by.ensures ∙ c.if-is_ended_by.true)) c.explain_run.ensures.stopped
