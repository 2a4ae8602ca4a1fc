use Rattle.rdm_findings.proofs.TextLemmas.{two_written}
use Rattle.rdm_findings.proofs.device_text.write_doubt.Goals as goal

pub returns : goal.returns
returns c = two_written c.write.result c.args.text.now.items c.write_exchange.new.text.items
    c.write.new.text.items _ _ c.in_ok-write_exchange.ensures c.write.ensures
