use Rattle.std.proofs.Common.{[], ◌∷◌, take}
use Rattle.std.specs.Prelude.{◌≢◌}
use Rattle.rdm_wire.specs.Honest.{Seen}
use Rattle.rdm_wire.specs.Honest.Heard.{Failed}
use Rattle.rdm_agent.proofs.Members.{first_part, last_part}
use Rattle.rdm_explain.specs.Exchanges.{seen_of, seen_all}
use Rattle.rdm_explain.specs.Certificates.{NoFailure}
use Rattle.rdm_explain.proofs.ReadLemmas.{first_without}
use Rattle.rdm_explain.proofs.order.first_failure.Goals as goal

pub returns-then-is_failed : goal.returns-then-is_failed
returns-then-is_failed c =
    let e = c.index-exchanges-at.result in
    first_without NoFailure (first_part (λ (s : Seen). s.heard ≢ Failed)) c.args.exchanges.now c.loop-at.at e
    c.loop-at-test.true c.index-exchanges-at.is c.loop-at.invariant
    (λ all. (last_part (λ (s : Seen). s.heard ≢ Failed) (seen_all (take c.loop-at.at c.args.exchanges.now))
    (seen_of e ∷ []) all).0 (c.is_failed.ensures.0 c.if-is_failed.true))
