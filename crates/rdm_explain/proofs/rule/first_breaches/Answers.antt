use Rattle.std.proofs.Common.{◌≡◌, ◌∙◌, ap, map, sym, subst, take}
use Rattle.std.proofs.lemmas.List.{take_all}
use Rattle.rdm_explain.specs.Rules.{uids_of_findings, AreFirstBreaches}
use Rattle.rdm_explain.specs.body.Watching.{finding_of}
use Rattle.rdm_explain.proofs.CommonLemmas.{if_ok}
use Rattle.rdm_explain.proofs.WatchLemmas.{none_heard, heard, all_found, found_uids, WatchesAll}
use Rattle.rdm_explain.proofs.rule.first_breaches.Goals as goal

pub loop-at-init : goal.loop-at-init
loop-at-init c = rw c.in_ok-watches.ensures (none_heard c.args.uids.now)

pub loop-at-preserved : goal.loop-at-preserved
loop-at-preserved c =
    heard c.args.exchanges.now c.args.uids.now c.loop-at.at c.index-exchanges-at.result c.loop-at.watches.items
    c.hear_all.new.watches.items c.loop-at-test.true c.index-exchanges-at.is c.loop-at.invariant c.hear_all.ensures

pub returns-clause-devices : goal.returns-clause-devices
returns-clause-devices c =
    if_ok _ _ c.findings.result
    (λ v is. ap uids_of_findings (is ∙ ap (λ ws. map finding_of ws) c.deref.ensures.value)
    ∙ found_uids c.loop-at.watches.items ∙ c.loop-at.invariant.same)
    c.findings.ensures

pub returns-clause-first : goal.returns-clause-first
returns-clause-first c =
    let all : take c.loop-at.at c.args.exchanges.now ≡ c.args.exchanges.now = take_all _ _ c.loop-at-test.false in
    let known = subst (λ xs. WatchesAll xs c.args.uids.now c.loop-at.watches.items) all c.loop-at.invariant in
    if_ok _ _ c.findings.result
    (λ v is. subst (AreFirstBreaches c.args.exchanges.now)
    (sym (is ∙ ap (λ ws. map finding_of ws) c.deref.ensures.value))
    (all_found c.args.exchanges.now c.loop-at.watches.items known.watches))
    c.findings.ensures
