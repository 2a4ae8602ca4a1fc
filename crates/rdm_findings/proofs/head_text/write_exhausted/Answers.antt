use Rattle.rdm_findings.proofs.TextLemmas.{two_written}
use Rattle.rdm_findings.proofs.head_text.write_exhausted.Goals as goal

pub returns : goal.returns
returns c = two_written c.write_wrongs.result c.args.text.now.items c.write_spent.new.text.items
    c.write_wrongs.new.text.items _ _ c.in_ok-write_spent.ensures c.write_wrongs.ensures
