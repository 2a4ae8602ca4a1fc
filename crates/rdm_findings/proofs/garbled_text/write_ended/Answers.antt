use Rattle.rdm_findings.proofs.TextLemmas.{two_written}
use Rattle.rdm_findings.proofs.garbled_text.write_ended.Goals as goal

pub returns : goal.returns
returns c = two_written c.write_end_off.result c.args.text.now.items c.write.new.text.items
    c.write_end_off.new.text.items _ _ c.in_ok-write.ensures c.write_end_off.ensures
