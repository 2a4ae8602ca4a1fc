use Rattle.rdm_findings.proofs.unmute_text.write_answered_at.Goals as goal

pub returns-in-Some : goal.returns-in-Some
returns-in-Some c = rw c.in-Some.is (rw c.number.ensures at c.write_exchange_finding.ensures)
