use Rattle.rdm_reports.proofs.WritingLemmas.{entries_next}
use Rattle.rdm_reports.proofs.log_text.write_entries.Goals as goal

pub entries-preserved : goal.entries-preserved
entries-preserved g c =
    entries_next c.args.entries.now c.entries.entry-index c.entry-item.result c.args.log.now c.entries.log
    c.write_entry.new.log c.entries-test.true c.entry-item.is c.entries.invariant c.write_entry.ensures
