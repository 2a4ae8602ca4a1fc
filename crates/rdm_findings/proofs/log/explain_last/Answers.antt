use Rattle.std.proofs.Common.{◌≡◌, ◌||◌, true, sym, ap, ◌∙◌}
use Rattle.rdm_findings.proofs.StopLemmas.{if_ends_last, if_stops_last}
use Rattle.rdm_findings.proofs.log.explain_last.Goals as goal
use Rattle.rdm_findings.proofs.log.explain_last.Goals.{then-any, else-any}

pub returns-then-has_run-clause-explained : goal.returns-then-has_run-clause-explained
returns-then-has_run-clause-explained g c =
    let has = c.args.reading.now.has_run in
    let some : (c.args.any || has) ≡ true = elim c.if-any.branch [
      | then-any w ↦ ap (λ a. a || has) w.if-any.true
      | else-any w ↦
          ap (λ a. a || has) w.if-any.false
          ∙ (sym w.has_run.ensures ∙ sym w.value-is ∙ c.if-has_run.true)
    ] in
    if_ends_last c.explain_run.result c.args.form c.args.any has c.args.present.now c.args.passing.now
    c.args.reading.now.run (g.W.Write.contents c.args.writer.now) (g.W.Write.contents c.explain_run.new.writer) some
    c.explain_run.ensures.explained

pub returns-then-has_run-clause-stopped : goal.returns-then-has_run-clause-stopped
returns-then-has_run-clause-stopped g c =
    let has = c.args.reading.now.has_run in
    let some : (c.args.any || has) ≡ true = elim c.if-any.branch [
      | then-any w ↦ ap (λ a. a || has) w.if-any.true
      | else-any w ↦
          ap (λ a. a || has) w.if-any.false
          ∙ (sym w.has_run.ensures ∙ sym w.value-is ∙ c.if-has_run.true)
    ] in
    if_stops_last c.explain_run.result c.args.form c.args.any has c.args.present.now c.args.passing.now
    c.args.reading.now.run (g.W.Write.contents c.args.writer.now) (g.W.Write.contents c.explain_run.new.writer) some
    c.explain_run.ensures.stopped
