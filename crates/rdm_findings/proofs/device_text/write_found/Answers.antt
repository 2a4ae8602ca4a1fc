use Rattle.rdm_findings.proofs.TextLemmas.{two_written}
use Rattle.rdm_findings.proofs.device_text.write_found.Goals as goal

pub returns : goal.returns
returns c = two_written c.write_followed.result c.args.text.now.items c.write.new.text.items
    c.write_followed.new.text.items _ _ c.in_ok-write.ensures c.write_followed.ensures
