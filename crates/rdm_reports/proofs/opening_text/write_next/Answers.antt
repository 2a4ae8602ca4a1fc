use Rattle.rdm_reports.proofs.WritingLemmas.{three_written}
use Rattle.rdm_reports.proofs.opening_text.write_next.Goals as goal

pub returns : goal.returns
returns c = three_written c.write_next_of_runs.result c.args.text.now.items c.write_number.new.text.items
    c.write_number-2.new.text.items c.write_next_of_runs.new.text.items _ _ _ c.in_ok-write_number.ensures
    c.in_ok-write_number-2.ensures c.write_next_of_runs.ensures
