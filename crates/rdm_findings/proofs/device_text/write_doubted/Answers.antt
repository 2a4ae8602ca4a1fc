use Rattle.rdm_findings.proofs.TextLemmas.{two_written}
use Rattle.rdm_findings.proofs.device_text.write_doubted.Goals as goal

pub returns : goal.returns
returns c = two_written c.write_doubt.result c.args.text.now.items c.write_before_doubt.new.text.items
    c.write_doubt.new.text.items _ _ c.in_ok-write_before_doubt.ensures c.write_doubt.ensures
