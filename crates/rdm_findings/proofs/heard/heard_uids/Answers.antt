use Rattle.std.proofs.Common.{◌||◌, [], sym, ap, ◌∙◌}
use Rattle.std.specs.List.{cons_option}
use Rattle.rdm_wire.specs.Uid.{has}
use Rattle.rdm_explain.proofs.ReadLemmas.{has_one_more}
use Rattle.rdm_findings.specs.HeardUids.{heard_by, heard_in}
use Rattle.rdm_explain.specs.Exchanges.{seen_all}
use Rattle.std.specs.Prelude.{take}
use Rattle.rdm_findings.proofs.heard.heard_uids.Goals as goal

pub loop-exchange-preserved : goal.loop-exchange-preserved
loop-exchange-preserved c = λ u.
    let before = has (heard_in (seen_all (take c.loop-exchange.exchange-index c.args.exchanges.now))) u in
    c.in_ok-add_if.ensures u
    ∙ ap (λ b. b || has (cons_option c.heard_by.result []) u) (c.loop-exchange.invariant u)
    ∙ ap (λ o. before || has (cons_option o []) u) c.heard_by.ensures
    ∙ sym (has_one_more heard_by c.args.exchanges.now c.loop-exchange.exchange-index c.exchange-item.result
    c.loop-exchange-test.true c.exchange-item.is u)
