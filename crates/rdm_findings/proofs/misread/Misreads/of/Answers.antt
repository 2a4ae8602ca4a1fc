use Rattle.std.proofs.Common.{◌∙◌, sym, ap, Some, None}
use Rattle.std.specs.Prelude.{if◌then◌else◌}
use Rattle.rdm_findings.specs.DeviceText.{first_number}
use Rattle.rdm_findings.specs.Mentions.{is_misread}
use Rattle.rdm_findings.proofs.MisreadLemmas.{position_more}
use Rattle.rdm_findings.proofs.misread.Misreads.of.Goals as goal

pub loop-at-preserved : goal.loop-at-preserved
loop-at-preserved c = λ u.
    let e = c.index-exchanges-at.result in
    let i = c.loop-at.at in
    c.in_ok-note.ensures u
    ∙ ap (λ o. first_number o (if is_misread u e then Some i else None)) (c.loop-at.invariant u)
    ∙ sym (position_more (is_misread u) c.args.exchanges.now i e c.loop-at-test.true c.index-exchanges-at.is)
