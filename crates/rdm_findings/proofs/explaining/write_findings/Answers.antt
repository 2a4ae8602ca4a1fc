use Rattle.rdm_findings.proofs.TextLemmas.{two_written}
use Rattle.rdm_findings.proofs.explaining.write_findings.Goals as goal

pub returns : goal.returns
returns c = two_written c.write_others.result c.args.text.now.items c.write_run.new.text.items
    c.write_others.new.text.items _ _ c.in_ok-write_run.ensures c.write_others.ensures
