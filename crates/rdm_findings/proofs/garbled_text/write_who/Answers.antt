use Rattle.rdm_findings.proofs.TextLemmas.{two_written}
use Rattle.rdm_findings.proofs.garbled_text.write_who.Goals as goal

pub returns : goal.returns
returns c = two_written c.write_turns.result c.args.text.now.items c.write.new.text.items
    c.write_turns.new.text.items _ _ (rw c.who_text.ensures at c.in_ok-write.ensures) c.write_turns.ensures
