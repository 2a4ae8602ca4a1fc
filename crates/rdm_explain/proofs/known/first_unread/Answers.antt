use Rattle.std.proofs.Common.{◌∙◌, sym, subst, take}
use Rattle.std.proofs.Math.Bool.{or-false}
use Rattle.rdm_wire.proofs.EachAfterLemmas.{EachAfter-front, no_element}
use Rattle.rdm_wire.specs.Uid.{has}
use Rattle.rdm_agent.specs.Run.{read_by}
use Rattle.rdm_agent.specs.Certificate.{MutesNamed}
use Rattle.rdm_explain.specs.Exchanges.{seen_of, seen_all}
use Rattle.rdm_explain.specs.Certificates.{MutesAreNamed}
use Rattle.rdm_explain.proofs.ReadLemmas.{first_without, seen_more, names_more}
use Rattle.rdm_explain.proofs.NamedLemmas.{unread_ends, unread_goes_on}
use Rattle.rdm_explain.proofs.known.first_unread.Goals as goal

pub loop-at-init : goal.loop-at-init
loop-at-init c = (
  λ u. c.in_ok-named.ensures u ∙ sym (or-false (has c.args.known.now u)),
  λ front back x w. absurd (no_element front back x w),
)

pub returns-then-mutes_other : goal.returns-then-mutes_other
returns-then-mutes_other c =
    let e = c.index-exchanges-at.result in
    first_without (MutesAreNamed c.args.known.now) (EachAfter-front (MutesNamed c.args.known.now)) c.args.exchanges.now
    c.loop-at.at e c.loop-at-test.true c.index-exchanges-at.is c.loop-at.invariant.1
    (unread_ends c.args.known.now (seen_all (take c.loop-at.at c.args.exchanges.now)) c.loop-at.named (seen_of e)
    c.loop-at.invariant.0 (sym c.mutes_other.ensures ∙ c.if-mutes_other.true))

pub loop-at-preserved : goal.loop-at-preserved
loop-at-preserved c =
    let e = c.index-exchanges-at.result in (
      names_more read_by c.args.known.now c.args.exchanges.now c.loop-at.at e c.loop-at.named c.add_read.new.named
          c.loop-at-test.true c.index-exchanges-at.is c.loop-at.invariant.0 c.in_ok-add_read.ensures,
      subst (MutesAreNamed c.args.known.now)
          (sym (seen_more c.args.exchanges.now c.loop-at.at e c.loop-at-test.true c.index-exchanges-at.is))
          (unread_goes_on c.args.known.now (seen_all (take c.loop-at.at c.args.exchanges.now)) c.loop-at.named
          (seen_of e) c.loop-at.invariant.0 (sym c.mutes_other.ensures ∙ c.if-mutes_other.false)
          c.loop-at.invariant.1),
    )
