use Rattle.rdm_reports.proofs.WritingLemmas.{three_written}
use Rattle.rdm_reports.proofs.opening_text.write_device.Goals as goal

pub returns : goal.returns
returns c = three_written c.write_device_end.result c.args.text.now.items c.write_device_start.new.text.items
    c.write_control.new.text.items c.write_device_end.new.text.items _ _ _ c.in_ok-write_device_start.ensures
    c.in_ok-write_control.ensures c.write_device_end.ensures
