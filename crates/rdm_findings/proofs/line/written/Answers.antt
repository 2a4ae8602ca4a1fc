use Rattle.std.proofs.Common.{◌≡◌, IfOk, sym, subst}
use Rattle.rdm_reports.specs.OpeningText.{session_opening}
use Rattle.rdm_findings.specs.declared.line.LogLine.{LogLine}
use Rattle.rdm_findings.specs.declared.line.SessionOpening.{SessionOpening}
use Rattle.rdm_findings.specs.Lines.{line_text}
use Rattle.rdm_findings.proofs.line.written.Goals as goal

pub returns-in-Session : goal.returns-in-Session
returns-in-Session c =
    let P : LogLine → Type 0 = λ l. IfOk c.session_text.result (λ text. text.items ≡ line_text l) in
    let Q : SessionOpening → Type 0 =
    λ o. IfOk c.session_text.result (λ text. text.items ≡ session_opening o.opening o.first) in
    subst P (sym c.in-Session.is) (subst Q c.deref-in-Session.ensures c.session_text.ensures)
