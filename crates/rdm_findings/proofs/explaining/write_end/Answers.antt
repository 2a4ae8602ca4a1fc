use Rattle.rdm_findings.proofs.TextLemmas.{two_written}
use Rattle.rdm_findings.proofs.explaining.write_end.Goals as goal

pub returns : goal.returns
returns c = two_written c.write_run_end.result c.args.text.now.items c.write_order.new.text.items
    c.write_run_end.new.text.items _ _ c.in_ok-write_order.ensures c.write_run_end.ensures
