use Rattle.std.proofs.Common.{◌≡◌, ◌∙◌, false, sym, ap, subst, take}
use Rattle.std.specs.List.{AllByRecursion, before_first}
use Rattle.std.proofs.lemmas.List.{take_all}
use Rattle.rdm_wire.specs.Uid.{has}
use Rattle.rdm_wire.specs.Honest.{Seen}
use Rattle.rdm_agent.specs.Run.{is_branch, muted_by, muted_in}
use Rattle.rdm_agent.proofs.Pushes.{All-push, no_branch-before}
use Rattle.rdm_explain.specs.Exchanges.{seen_of, seen_all}
use Rattle.rdm_explain.proofs.ReadLemmas.{seen_more, seen_split, holds_more}
use Rattle.rdm_explain.proofs.NamedLemmas.{before_branch}
use Rattle.rdm_explain.proofs.known.muted_before_branches.Goals as goal

pub loop-exchange-preserved : goal.loop-exchange-preserved
loop-exchange-preserved c =
    let e = c.exchange-item.result in
    let i = c.loop-exchange.exchange-index in (
      subst (λ l. AllByRecursion (λ (s : Seen). is_branch s ≡ false) l)
          (sym (seen_more c.args.exchanges.now i e c.loop-exchange-test.true c.exchange-item.is))
          (All-push (λ (s : Seen). is_branch s ≡ false) (seen_all (take i c.args.exchanges.now)) (seen_of e)
          c.loop-exchange.invariant.0 (sym c.is_branch.ensures ∙ c.if-is_branch.false)),
      holds_more muted_by c.args.exchanges.now i e c.loop-exchange.muted c.add_muted.new.muted
          c.loop-exchange-test.true c.exchange-item.is c.loop-exchange.invariant.1 c.in_ok-add_muted.ensures,
    )

pub returns-then-is_branch : goal.returns-then-is_branch
returns-then-is_branch c =
    let e = c.exchange-item.result in
    let i = c.loop-exchange.exchange-index in
    λ u. c.loop-exchange.invariant.1 u
    ∙ ap (λ l. has (muted_in l) u)
    (sym (ap (before_first is_branch) (seen_split c.args.exchanges.now i e c.loop-exchange-test.true c.exchange-item.is)
    ∙ before_branch (seen_all (take i c.args.exchanges.now)) (seen_of e) _ c.loop-exchange.invariant.0
    (sym c.is_branch.ensures ∙ c.if-is_branch.true)))

pub returns : goal.returns
returns c =
    let all = take_all _ _ c.loop-exchange-test.false in
    λ u. c.loop-exchange.invariant.1 u
    ∙ subst (λ l. has (muted_in (seen_all (take c.loop-exchange.exchange-index c.args.exchanges.now))) u
    ≡ has (muted_in (before_first is_branch (seen_all l))) u) all
    (ap (λ l. has (muted_in l) u) (sym (no_branch-before _ c.loop-exchange.invariant.0)))
