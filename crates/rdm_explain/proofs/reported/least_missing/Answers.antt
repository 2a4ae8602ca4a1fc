use Rattle.std.proofs.Common.{◌∙◌, ◌&&◌, ◌||◌, not, sym, ap, take, [], ◌∷◌}
use Rattle.rdm_wire.specs.Uid.{has}
use Rattle.rdm_wire.specs.Devices.{uids_of}
use Rattle.rdm_agent.specs.Run.{acked_by, acked_in}
use Rattle.rdm_explain.specs.Exchanges.{seen_of, seen_all}
use Rattle.rdm_explain.proofs.ElementLemmas.{least_same, or_and}
use Rattle.rdm_explain.proofs.ReadLemmas.{has_one_more}
use Rattle.rdm_explain.proofs.reported.least_missing.Goals as goal

pub loop-exchange-preserved : goal.loop-exchange-preserved
loop-exchange-preserved c =
    let s = uids_of c.args.set.now in
    let e = c.exchange-item.result in
    let i = c.loop-exchange.exchange-index in
    let old = acked_in (seen_all (take i c.args.exchanges.now)) in
    let more = acked_in (seen_of e ∷ []) in
    least_same (λ u. (has old u && not (has s u)) || (has more u && not (has s u))) _ c.lesser-least.result
    (λ u. or_and (has old u) (has more u) (not (has s u))
    ∙ ap (λ b. b && not (has s u))
    (sym (has_one_more acked_by c.args.exchanges.now i e c.loop-exchange-test.true c.exchange-item.is u)))
    (c.lesser-least.ensures (λ u. has old u && not (has s u)) (λ u. has more u && not (has s u))
    c.loop-exchange.invariant c.missing.ensures)
