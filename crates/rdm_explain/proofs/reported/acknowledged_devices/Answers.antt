use Rattle.std.proofs.Common.{◌∙◌, sym, ap, take, [], ◌∷◌}
use Rattle.std.specs.Prelude.{fold}
use Rattle.std.proofs.lemmas.List.Elements.{filter_map-append}
use Rattle.std.proofs.lemmas.List.Sums.{fold-append}
use Rattle.rdm_agent.specs.Run.{device_by, devices_in}
use Rattle.rdm_explain.specs.Exchanges.{seen_of, seen_all}
use Rattle.rdm_explain.specs.Reported.{with_reported}
use Rattle.rdm_explain.proofs.ReadLemmas.{seen_more}
use Rattle.rdm_explain.proofs.reported.acknowledged_devices.Goals as goal

pub loop-exchange-preserved : goal.loop-exchange-preserved
loop-exchange-preserved c =
    let e = c.exchange-item.result in
    let i = c.loop-exchange.exchange-index in
    let old = seen_all (take i c.args.exchanges.now) in
    let more = seen_of e ∷ [] in
    c.add_device.ensures
    ∙ ap (λ ds. fold with_reported ds (devices_in more)) c.loop-exchange.invariant
    ∙ sym (ap (λ l. fold with_reported [] (devices_in l))
    (seen_more c.args.exchanges.now i e c.loop-exchange-test.true c.exchange-item.is)
    ∙ ap (λ l. fold with_reported [] l) (filter_map-append device_by old more)
    ∙ fold-append with_reported [] (devices_in old) (devices_in more))
