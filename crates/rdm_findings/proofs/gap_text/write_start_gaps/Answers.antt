use Rattle.rdm_reports.proofs.WritingLemmas.{three_written}
use Rattle.rdm_findings.proofs.gap_text.write_start_gaps.Goals as goal

pub returns : goal.returns
returns c = three_written c.write_uid_gap.result c.args.text.now.items c.write_exchange_gap.new.text.items
    c.write_exchange_gap-2.new.text.items c.write_uid_gap.new.text.items _ _ _ c.in_ok-write_exchange_gap.ensures
    c.in_ok-write_exchange_gap-2.ensures c.write_uid_gap.ensures
