use Rattle.rdm_reports.proofs.WritingLemmas.{four_written}
use Rattle.rdm_reports.proofs.log_text.write_request.Goals as goal

pub returns : goal.returns
returns c = four_written c.write_bytes.result c.args.text.now.items c.write_target.new.text.items
    c.write_pid.new.text.items
    c.write_number.new.text.items c.write_bytes.new.text.items _ _ _ _ c.in_ok-write_target.ensures
    c.in_ok-write_pid.ensures
    (rw c.from.ensures at c.in_ok-write_number.ensures) (rw c.as_slice.ensures.value at c.write_bytes.ensures)
