use Rattle.rdm_reports.proofs.WritingLemmas.{three_written}
use Rattle.rdm_findings.proofs.gap_text.write_end_gaps.Goals as goal

pub returns : goal.returns
returns c = three_written c.write_device_gap.result c.args.text.now.items c.write_exchange_gap.new.text.items
    c.write_uncovered.new.text.items c.write_device_gap.new.text.items _ _ _ c.in_ok-write_exchange_gap.ensures
    c.in_ok-write_uncovered.ensures c.write_device_gap.ensures
