use Rattle.std.proofs.Common.{◌≡◌, true, inr, arith, subst}
use Rattle.std.specs.Io.KnownBytes.{Appends}
use Rattle.std.proofs.lemmas.Grind.{common_steps}
use Rattle.rdm_reports.specs.Writing.{IsCutShort}
use Rattle.rdm_findings.proofs.LogLemmas.{run_explained}
use Rattle.rdm_findings.proofs.log.explain_run.Goals as goal

pub returns-in-Ok-write_all-clause-explained : goal.returns-in-Ok-write_all-clause-explained
returns-in-Ok-write_all-clause-explained g c =
    let has : c.args.reading.now.has_run ≡ true = grind (arith, common_steps) in (
      c.in-Ok.explained.text.items,
      run_explained c.args.form c.args.any
          c.args.present.now c.args.passing.now c.args.reading.now c.exchanges.result.now c.head.result.now
          _ _ _ has c.exchanges.ensures c.head.ensures c.known.ensures c.in-Ok.ensures,
      subst (λ t. Appends (g.W.Write.contents c.args.writer.now) (g.W.Write.contents c.write_all.new.writer) t)
          c.deref.ensures.value c.in-Ok-write_all.ensures.all,
    )

pub returns-clause-stopped : goal.returns-clause-stopped
returns-clause-stopped g c =
    let has : c.args.reading.now.has_run ≡ true = grind (arith, common_steps) in inr (
      c.in-Ok.explained.text.items,
      c.in-Ok.explained.is_broken,
      run_explained c.args.form c.args.any
          c.args.present.now c.args.passing.now c.args.reading.now c.exchanges.result.now c.head.result.now
          _ _ _ has c.exchanges.ensures c.head.ensures c.known.ensures c.in-Ok.ensures,
      inr (subst (λ t. IsCutShort (g.W.Write.contents c.args.writer.now) (g.W.Write.contents c.write_all.new.writer) t)
          c.deref.ensures.value c.in-Err.ensures.some),
    )
