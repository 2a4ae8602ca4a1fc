use Rattle.std.proofs.Common.{◌∙◌, ◌&&◌, not, ap}
use Rattle.rdm_wire.specs.Uid.{has}
use Rattle.rdm_wire.specs.Devices.{uids_of}
use Rattle.rdm_agent.specs.Run.{acked_in}
use Rattle.rdm_explain.specs.Exchanges.{seen_all}
use Rattle.rdm_explain.proofs.ElementLemmas.{least_same, misreported}
use Rattle.rdm_explain.proofs.reported.first_misreported.Goals as goal

pub returns : goal.returns
returns c =
    let s = uids_of c.args.set.now in
    let acked = acked_in (seen_all c.args.exchanges.now) in
    misreported s c.args.exchanges.now c.lesser.result c.as_slice.ensures.devices.ascending
    (c.lesser.ensures (λ u. has s u && not (has acked u)) (λ u. has acked u && not (has s u))
    (least_same _ (λ u. has s u && not (has acked u)) c.first_other-added.result
    (λ u. ap (λ b. has (uids_of c.as_slice.result.now) u && not b) (c.in_ok-acked.ensures u)
    ∙ ap (λ l. has (uids_of l) u && not (has acked u)) c.as_slice.ensures.value)
    c.first_other-added.ensures)
    c.least_missing-missing.ensures)
