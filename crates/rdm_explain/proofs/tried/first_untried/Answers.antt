use Rattle.std.proofs.Common.{◌∙◌, sym, subst, take}
use Rattle.std.proofs.lemmas.List.{take_all}
use Rattle.rdm_explain.specs.Exchanges.{seen_of, seen_all}
use Rattle.rdm_explain.specs.Certificates.{AreTried}
use Rattle.rdm_explain.proofs.ReadLemmas.{first_without, seen_more}
use Rattle.rdm_explain.proofs.UntriedLemmas.{tried_shorter, tried_ends, tried_goes_on}
use Rattle.rdm_explain.proofs.tried.first_untried.Goals as goal

pub returns-then-mutes_untried : goal.returns-then-mutes_untried
returns-then-mutes_untried c =
    let w = seen_all c.args.exchanges.now in
    let e = c.index-exchanges-at.result in
    first_without (AreTried w) (tried_shorter w) c.args.exchanges.now c.loop-at.at e c.loop-at-test.true
    c.index-exchanges-at.is c.loop-at.invariant
    (tried_ends w (seen_all (take c.loop-at.at c.args.exchanges.now)) c.in_ok-tried.tried (seen_of e)
    c.in_ok-tried.ensures (sym c.mutes_untried.ensures.untried ∙ c.if-mutes_untried.true))

pub loop-at-preserved : goal.loop-at-preserved
loop-at-preserved c =
    let w = seen_all c.args.exchanges.now in
    let e = c.index-exchanges-at.result in
    subst (AreTried w) (sym (seen_more c.args.exchanges.now c.loop-at.at e c.loop-at-test.true c.index-exchanges-at.is))
    (tried_goes_on w (seen_all (take c.loop-at.at c.args.exchanges.now)) c.in_ok-tried.tried (seen_of e)
    c.in_ok-tried.ensures c.mutes_untried.ensures.in_range
    (sym c.mutes_untried.ensures.untried ∙ c.if-mutes_untried.false) c.loop-at.invariant)

pub returns : goal.returns
returns c = subst (λ l. AreTried (seen_all c.args.exchanges.now) (seen_all l)) (take_all _ _ c.loop-at-test.false)
    c.loop-at.invariant
