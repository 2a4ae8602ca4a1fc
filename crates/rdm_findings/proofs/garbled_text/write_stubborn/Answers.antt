use Rattle.rdm_findings.proofs.TextLemmas.{two_written}
use Rattle.rdm_findings.proofs.garbled_text.write_stubborn.Goals as goal

pub returns : goal.returns
returns c = two_written c.write_stubborn_off.result c.args.text.now.items c.write.new.text.items
    c.write_stubborn_off.new.text.items _ _ c.in_ok-write.ensures c.write_stubborn_off.ensures
