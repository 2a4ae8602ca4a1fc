use Rattle.rdm_findings.proofs.TextLemmas.{two_written}
use Rattle.rdm_findings.proofs.log.write_no_run_object.Goals as goal

pub returns : goal.returns
returns c = two_written c.write_no_run_about.result c.args.text.now.items c.write.new.text.items
    c.write_no_run_about.new.text.items _ _ c.in_ok-write.ensures c.write_no_run_about.ensures
