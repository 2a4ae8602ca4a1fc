use Rattle.std.proofs.Common.{◌≡◌, ◌∙◌, true, true≢false, refl, sym, arith, take}
use Rattle.std.specs.Prelude.{◌↔◌, ◌≢◌, false, Bool}
use Rattle.rdm_wire.specs.Honest.{Heard}
use Rattle.rdm_wire.specs.Honest.Heard.{Failed}
use Rattle.rdm_explain.specs.Exchanges.{seen_of, seen_all}
use Rattle.rdm_explain.specs.Garbled.{IsGarbled}
use Rattle.rdm_explain.specs.body.Trees.{in_tree}
use Rattle.rdm_explain.specs.body.Garbling.{stays_muted}
use Rattle.rdm_explain.proofs.MutedLemmas.{muted_more}
use Rattle.rdm_explain.proofs.SightingLemmas.{are_few, noted_more, sighted}
use Rattle.rdm_explain.proofs.StrayLemmas.{no_failure_more}
use Rattle.rdm_explain.proofs.GarbledLemmas.{garbled_at, at_garbled, garbled_within, none_after, same_test}
use Rattle.rdm_explain.proofs.garbled.first_garbled.Goals as goal

not_failed : (b : Bool) (h : Heard) → (b ≡ true) ↔ (h ≡ Failed) → b ≡ false → h ≢ Failed
not_failed b h decides is failed = true≢false (sym (decides.1 failed) ∙ is)

pub loop-at-init : goal.loop-at-init
loop-at-init c = (tt, refl, λ u. c.new-muted.ensures u, omega arith)

pub returns-then-is_failed : goal.returns-then-is_failed
returns-then-is_failed c =
    sighted (IsGarbled c.args.exchanges.now) c.loop-at.at _ c.loop-at.found (omega (arith, c.loop-at-test.true))
    (none_after c.args.exchanges.now c.loop-at.at c.index-exchanges-at.result c.loop-at-test.true
    c.index-exchanges-at.is (c.is_failed.ensures.0 c.if-is_failed.true))
    c.loop-at.invariant.1

pub noted-found-requires-clause-counted : goal.noted-found-requires-clause-counted
noted-found-requires-clause-counted c =
    are_few (IsGarbled c.args.exchanges.now) c.loop-at.at c.loop-at.found c.loop-at.invariant.1

pub loop-at-preserved : goal.loop-at-preserved
loop-at-preserved c =
    let e = c.index-exchanges-at.result in
    let x = seen_all (take c.loop-at.at c.args.exchanges.now) in
    let same = same_test (in_tree c.loop-at.muted) (stays_muted x) (seen_of e) c.loop-at.invariant.2 in (
      no_failure_more c.args.exchanges.now c.loop-at.at e c.loop-at-test.true c.index-exchanges-at.is
          (not_failed _ _ c.is_failed.ensures c.if-is_failed.false) c.loop-at.invariant.0,
      noted_more (IsGarbled c.args.exchanges.now) c.loop-at.at c.is_garbled.result c.loop-at.found c.noted-found.result
          (λ holds.
          garbled_at c.args.exchanges.now c.loop-at.at e c.loop-at-test.true c.index-exchanges-at.is
          c.loop-at.invariant.0 (sym same ∙ sym c.is_garbled.ensures ∙ holds))
          (λ g. c.is_garbled.ensures ∙ same
          ∙ at_garbled c.args.exchanges.now c.loop-at.at e c.index-exchanges-at.is g)
          c.noted-found.ensures c.loop-at.invariant.1,
      λ u.
          muted_more u c.args.exchanges.now c.loop-at.at e (in_tree c.loop-at.muted u) (in_tree c.hear.new.muted u)
          c.loop-at-test.true c.index-exchanges-at.is (c.loop-at.invariant.2 u) (c.in_ok-hear.ensures u),
      omega (arith, c.loop-at-test.true),
    )

pub returns : goal.returns
returns c =
    sighted (IsGarbled c.args.exchanges.now) c.loop-at.at _ c.loop-at.found c.loop-at.invariant.3
    (λ at more g.
    let within = garbled_within c.args.exchanges.now at g in omega (arith, within, more, c.loop-at-test.false))
    c.loop-at.invariant.1
