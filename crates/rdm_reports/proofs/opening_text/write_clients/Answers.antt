use Rattle.rdm_reports.proofs.WritingLemmas.{three_written}
use Rattle.rdm_reports.proofs.opening_text.write_clients.Goals as goal

pub returns : goal.returns
returns c = three_written c.write_truths.result c.args.text.now.items c.write_number.new.text.items
    c.write_places.new.text.items c.write_truths.new.text.items _ _ _
    (rw c.from.ensures at c.in_ok-write_number.ensures)
    (rw c.as_slice.ensures.value at c.in_ok-write_places.ensures) c.write_truths.ensures
