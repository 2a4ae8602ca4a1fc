use Rattle.rdm_findings.proofs.TextLemmas.{two_written}
use Rattle.rdm_findings.proofs.head_text.write_wrong.Goals as goal

pub returns : goal.returns
returns c = two_written c.write_uid.result c.args.text.now.items c.write.new.text.items
    c.write_uid.new.text.items _ _ c.in_ok-write.ensures c.write_uid.ensures
