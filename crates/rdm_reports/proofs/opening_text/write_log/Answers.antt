use Rattle.rdm_reports.specs.LogText.{log_text}
use Rattle.rdm_reports.specs.OpeningText.{session_opening}
use Rattle.rdm_reports.proofs.WritingLemmas.{logs_more}
use Rattle.rdm_reports.proofs.opening_text.write_log.Goals as goal

pub returns : goal.returns
returns g c =
    logs_more c.args.log.now c.write_opening.new.log c.write_entries.new.log
    (session_opening c.args.opening.now c.args.first) (log_text c.args.entries.now)
    c.write_opening.ensures c.write_entries.ensures
