use Rattle.std.proofs.Common.{◌≡◌, ◌∙◌, refl, sym, subst, ap, arith, map, take}
use Rattle.std.specs.Prelude.{◌&&◌, not, Bool, List, ℕ}
use Rattle.std.proofs.lemmas.List.{take_all}
use Rattle.rdm_wire.specs.Honest.{Seen}
use Rattle.rdm_explain.specs.declared.watch.Watch.{Watch}
use Rattle.rdm_explain.specs.body.Trees.{in_tree}
use Rattle.rdm_explain.specs.body.Watching.{finding_of, is_stray}
use Rattle.rdm_explain.specs.Exchanges.{seen_of}
use Rattle.rdm_explain.specs.Rules.{AreFirstBreaches, uids_of_findings}
use Rattle.rdm_explain.specs.Strays.{IsStray}
use Rattle.rdm_explain.proofs.MutedLemmas.{muted_more}
use Rattle.rdm_explain.proofs.SightingLemmas.{are_few, noted_more, sighted}
use Rattle.rdm_explain.proofs.StrayLemmas.{none_failed, fails_here, fails_more, test_stray, stray_test, stray_within}
use Rattle.rdm_explain.proofs.WatchLemmas.{none_heard, heard, first_found, first_uids, WatchesAll}
use Rattle.rdm_explain.proofs.stray.judge.Goals as goal

test_is : (e : Seen) (ps : List ℕ) (muted : ℕ → Bool) (failed b : Bool) (vs ws : List Watch)
    → b ≡ (not failed && is_stray vs ps muted e) → vs ≡ ws → b ≡ (not failed && is_stray ws ps muted e)
test_is e ps muted failed b vs ws is same = is ∙ ap (λ l. not failed && is_stray l ps muted e) same

pub loop-at-init : goal.loop-at-init
loop-at-init c = (
  none_failed c.args.uids.now c.args.passing.now c.args.exchanges.now,
  rw c.in_ok-watches.ensures (none_heard c.args.uids.now),
  refl,
  λ u. c.new-muted.ensures u,
  omega arith,
)

pub noted-found-requires-clause-counted : goal.noted-found-requires-clause-counted
noted-found-requires-clause-counted c =
    are_few (IsStray c.args.uids.now c.args.passing.now c.args.exchanges.now) c.loop-at.at c.loop-at.found
    c.loop-at.invariant.2

pub loop-at-preserved : goal.loop-at-preserved
loop-at-preserved c =
    let us = c.args.uids.now in
    let ps = c.args.passing.now in
    let xs = c.args.exchanges.now in
    let at = c.loop-at.at in
    let e = c.index-exchanges-at.result in
    let within = c.loop-at-test.true in
    let read = c.index-exchanges-at.is in
    let ws = c.loop-at.watches.items in
    let muted = in_tree c.loop-at.muted in
    let known = c.loop-at.invariant.1 in
    let failed = c.has_failed-failed.result in
    let here = fails_here us ps xs at e c.loop-at.failed failed within read c.has_failed-failed.ensures
    c.loop-at.invariant.0 in
    let is : c.is_stray.result ≡ (not failed && is_stray ws ps muted (seen_of e)) =
    test_is (seen_of e) ps muted failed c.is_stray.result _ ws c.is_stray.ensures c.deref.ensures.value in (
      fails_more us ps xs at e failed within read here,
      heard xs us at e ws c.hear_all.new.watches.items within read known c.hear_all.ensures,
      noted_more (IsStray us ps xs) at c.is_stray.result c.loop-at.found c.noted-found.result
          (test_stray us ps xs at e ws muted failed c.is_stray.result within read here known c.loop-at.invariant.3 is)
          (stray_test us ps xs at e ws muted failed c.is_stray.result read here known c.loop-at.invariant.3 is)
          c.noted-found.ensures c.loop-at.invariant.2,
      λ u.
          muted_more u xs at e (muted u) (in_tree c.hear.new.muted u) within read (c.loop-at.invariant.3 u)
          (c.in_ok-hear.ensures u),
      omega (arith, within),
    )

pub returns-clause-devices : goal.returns-clause-devices
returns-clause-devices c =
    let ws = c.loop-at.watches.items in
    ap uids_of_findings
    (c.in_ok-findings.ensures ∙ ap (λ l. map finding_of (take c.args.many l)) c.deref-2.ensures.value)
    ∙ first_uids c.args.many ws ∙ ap (λ l. take c.args.many l) c.loop-at.invariant.1.same

pub returns-clause-first : goal.returns-clause-first
returns-clause-first c =
    let ws = c.loop-at.watches.items in
    let all : take c.loop-at.at c.args.exchanges.now ≡ c.args.exchanges.now = take_all _ _ c.loop-at-test.false in
    let known = subst (λ xs. WatchesAll xs c.args.uids.now ws) all c.loop-at.invariant.1 in
    subst (AreFirstBreaches c.args.exchanges.now)
    (sym (c.in_ok-findings.ensures ∙ ap (λ l. map finding_of (take c.args.many l)) c.deref-2.ensures.value))
    (first_found c.args.exchanges.now c.args.many ws known.watches)

pub returns-clause-stray : goal.returns-clause-stray
returns-clause-stray c =
    sighted (IsStray c.args.uids.now c.args.passing.now c.args.exchanges.now) c.loop-at.at _ c.loop-at.found
    c.loop-at.invariant.4
    (λ at more s.
    let within = stray_within c.args.uids.now c.args.passing.now c.args.exchanges.now at s in
    omega (arith, within, more, c.loop-at-test.false))
    c.loop-at.invariant.2
