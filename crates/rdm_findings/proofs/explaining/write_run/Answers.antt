use Rattle.rdm_reports.proofs.WritingLemmas.{three_written}
use Rattle.rdm_findings.proofs.explaining.write_run.Goals as goal

pub returns : goal.returns
returns c = three_written c.write_quiet.result c.args.text.now.items c.write_head.new.text.items
    c.write_run_gaps.new.text.items
    c.write_quiet.new.text.items
    _ _ _ (rw (c.missing_in.ensures, c.stubborn_of.ensures) at c.in_ok-write_head.ensures)
    c.in_ok-write_run_gaps.ensures c.write_quiet.ensures
