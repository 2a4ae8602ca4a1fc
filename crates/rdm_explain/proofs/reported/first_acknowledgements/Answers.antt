use Rattle.std.proofs.Common.{◌∙◌, sym, ap, take, [], ◌∷◌}
use Rattle.std.proofs.lemmas.List.Elements.{filter_map-append}
use Rattle.rdm_wire.specs.Devices.{device_with}
use Rattle.rdm_agent.specs.Run.{device_by, devices_in}
use Rattle.rdm_explain.specs.Exchanges.{seen_of, seen_all}
use Rattle.rdm_explain.specs.body.Firsts.{or_else}
use Rattle.rdm_explain.proofs.ElementLemmas.{with_append}
use Rattle.rdm_explain.proofs.ReadLemmas.{seen_more}
use Rattle.rdm_explain.proofs.reported.first_acknowledgements.Goals as goal

pub loop-exchange-preserved : goal.loop-exchange-preserved
loop-exchange-preserved c =
    let e = c.exchange-item.result in
    let i = c.loop-exchange.exchange-index in
    let old = seen_all (take i c.args.exchanges.now) in
    let more = seen_of e ∷ [] in
    λ u here. c.in_ok-add_first.ensures u here
    ∙ ap (λ o. or_else o (device_with (devices_in more) u)) (c.loop-exchange.invariant u here)
    ∙ sym (ap (λ l. device_with (devices_in l) u)
    (seen_more c.args.exchanges.now i e c.loop-exchange-test.true c.exchange-item.is)
    ∙ ap (λ l. device_with l u) (filter_map-append device_by old more)
    ∙ with_append (devices_in old) (devices_in more) u)
