use Rattle.rdm_findings.specs.DeviceText.{culprit_finding}
use Rattle.rdm_findings.proofs.TextLemmas.{lines_next}
use Rattle.rdm_findings.proofs.gone_text.write_culprits.Goals as goal

pub culprits-preserved : goal.culprits-preserved
culprits-preserved c =
    lines_next (culprit_finding c.args.form c.args.facts.now c.args.exchanges.now) c.args.culprits.now
    c.culprits.uid-index c.uid-item.result c.args.text.now.items c.culprits.text.items
    c.write_one_culprit.new.text.items c.culprits-test.true c.uid-item.is c.culprits.invariant
    c.in_ok-write_one_culprit.ensures
