use Rattle.rdm_findings.proofs.TextLemmas.{two_written}
use Rattle.rdm_findings.proofs.head_text.write_devices_count.Goals as goal

pub returns : goal.returns
returns c = two_written c.write_missing.result c.args.text.now.items c.write_count.new.text.items
    c.write_missing.new.text.items _ _ c.in_ok-write_count.ensures c.write_missing.ensures
