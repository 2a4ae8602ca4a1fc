use Rattle.std.proofs.Common.{take}
use Rattle.rdm_reports.specs.LogText.{log_text}
use Rattle.rdm_reports.specs.Writing.{Logs}
use Rattle.rdm_reports.proofs.log_text.write_entries.Given as goal

abbrev pub invariant-entries : goal.invariant-entries
invariant-entries g l = Logs l.fn.log l.log (log_text (take l.entry-index l.entries))
