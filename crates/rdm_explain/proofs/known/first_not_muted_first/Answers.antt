use Rattle.std.proofs.Common.{◌∙◌, sym, true≢false}
use Rattle.rdm_explain.specs.Exchanges.{seen_all}
use Rattle.rdm_explain.specs.Certificates.{IsMutedFirst}
use Rattle.rdm_explain.proofs.ElementLemmas.{first_of}
use Rattle.rdm_explain.proofs.known.first_not_muted_first.Goals as goal

pub returns-then-not-contains : goal.returns-then-not-contains
returns-then-not-contains c =
    first_of (IsMutedFirst (seen_all c.args.exchanges.now)) c.args.known.now c.loop-uid.uid-index c.uid-item.result
    c.loop-uid-test.true c.uid-item.is c.loop-uid.invariant
    (λ muted. true≢false (sym muted ∙ sym (c.in_ok-muted.ensures c.uid-item.result) ∙ sym c.contains.ensures
    ∙ c.if-not-contains.true))
