use Rattle.rdm_findings.proofs.TextLemmas.{two_written}
use Rattle.rdm_findings.proofs.gap_text.write_names_gaps.Goals as goal

pub returns : goal.returns
returns c = two_written c.write_exchange_gap.result c.args.text.now.items c.write_uid_gap.new.text.items
    c.write_exchange_gap.new.text.items _ _ c.in_ok-write_uid_gap.ensures c.write_exchange_gap.ensures
