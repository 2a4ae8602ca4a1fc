use Rattle.rdm_findings.proofs.TextLemmas.{five_written}
use Rattle.rdm_findings.proofs.run_json.write_members.Goals as goal

pub returns : goal.returns
returns c = five_written c.write_heard.result c.args.text.now.items c.write.new.text.items
    c.write_number.new.text.items c.write_known.new.text.items c.write_outcome.new.text.items
    c.write_heard.new.text.items _ _ _ _ _ c.in_ok-write.ensures c.in_ok-write_number.ensures
    c.in_ok-write_known.ensures c.in_ok-write_outcome.ensures c.write_heard.ensures
