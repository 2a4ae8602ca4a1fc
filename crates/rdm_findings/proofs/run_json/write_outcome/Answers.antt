use Rattle.rdm_reports.proofs.WritingLemmas.{three_written}
use Rattle.rdm_findings.proofs.run_json.write_outcome.Goals as goal

pub returns : goal.returns
returns c = three_written c.write_number.result c.args.text.now.items c.write_end_part.new.text.items
    c.write.new.text.items
    c.write_number.new.text.items
    _ _ _ c.in_ok-write_end_part.ensures c.in_ok-write.ensures c.write_number.ensures
