use Rattle.rdm_findings.proofs.TextLemmas.{two_written}
use Rattle.rdm_findings.proofs.gone_text.write_ignoring.Goals as goal

pub returns : goal.returns
returns c = two_written c.write_culprit_why.result c.args.text.now.items c.write.new.text.items
    c.write_culprit_why.new.text.items _ _ c.in_ok-write.ensures c.write_culprit_why.ensures
