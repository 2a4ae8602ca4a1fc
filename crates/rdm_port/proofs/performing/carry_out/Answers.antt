use Rattle.std.proofs.Common.{◌≡◌, Ok, List, ℕ, subst}
use Rattle.rdm_arguments.specs.declared.job.Job.{Job}
use Rattle.rdm_port.specs.Outcome.{IsLogged, IsPrinted}
use Rattle.rdm_port.specs.Program.{Answers, IsFaultOf, IsLoggedWith, IsOutcome, has_log}
use Rattle.rdm_port.proofs.CommandLemmas.{answers_any_rig, explanation_printed, fault_any_rig}
use Rattle.rdm_port.proofs.LoggedLemmas.{printed_after}
use Rattle.rdm_port.specs.body.Logged.{HasLogged}
use Rattle.rdm_port.proofs.performing.carry_out.Goals as goal

pub returns-in-Ok : goal.returns-in-Ok
returns-in-Ok g c =
    explanation_printed _ g.L.Line.step (g.O.Opens.opens c.args.opener.now) c.args.job c.in-Ok.explanation
    (g.R.Read.remaining c.args.reader.now) (g.S.Read.remaining c.args.rig.now) _ _ _ _ c.in-Ok.ensures.explanation
    c.print_explained.ensures

pub returns : goal.returns
returns g c =
    let known = g.R.Read.remaining c.args.reader.now in
    let rig = g.S.Read.remaining c.args.rig.now in
    let opens = g.O.Opens.opens c.args.opener.now in
    let other = c.in-Err.job in
    subst (λ command. (text logged : List ℕ) × (status status_printed : ℕ)
    × IsOutcome _ g.L.Line.step opens command known rig text logged status
    × IsLogged (has_log command) c.args.log.now.contents c.answer-answer.new.log.contents logged status status_printed
    × IsPrinted (g.W.Write.contents c.args.writer.now) (g.W.Write.contents c.print.new.writer) text status_printed
    c.print.result.0)
    c.in-Err.ensures.same
    (printed_after c.answer-answer.result
    (λ text logged status. (j : Job) × (other ≡ Ok j)
    × Answers _ g.L.Line.step opens j known rig text logged status)
    (λ f. IsFaultOf other known rig f)
    (λ f logged. IsLoggedWith _ g.L.Line.step opens other known f logged) (has_log other)
    c.args.log.now c.answer-answer.new.log _ _ _
    (answers_any_rig c.answer-answer.result _ g.L.Line.step opens other known rig
    (λ logged. HasLogged (has_log other) c.args.log.now c.answer-answer.new.log logged) c.in-Err.ensures.other
    c.answer-answer.ensures.ok)
    (fault_any_rig c.answer-answer.result other known rig c.in-Err.ensures.other c.answer-answer.ensures.fault)
    c.answer-answer.ensures.logged c.print.ensures.ok c.print.ensures.fault)
