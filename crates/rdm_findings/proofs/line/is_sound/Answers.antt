use Rattle.std.proofs.Common.{sym, ap, ◌∙◌}
use Rattle.rdm_findings.specs.Lines.{is_sound}
use Rattle.rdm_findings.proofs.line.is_sound.Goals as goal

pub returns-in-Exchanged : goal.returns-in-Exchanged
returns-in-Exchanged c = c.is_asked.ensures ∙ ap is_sound (sym c.in-Exchanged.is)
