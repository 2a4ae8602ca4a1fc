use Rattle.rdm_lanes.proofs.Common.{◌≡◌, ◌∙◌, refl, sym, subst, arith, Setup, LogState, Legal, IsBetweenTurns, AllFit}
use Rattle.rdm_lanes.proofs.Common.{IsOperated, Publishes, opened_with}
use Rattle.rtrb.specs.Ring.{received as popped}
use Rattle.rdm_lanes.proofs.OpenLemmas.{few_places, served_opened, fits_opened, operated_opened, new_hold_nothing}
use Rattle.rdm_lanes.proofs.OpenLemmas.{new_clients, new_pairs, publishes_opened}
use Rattle.rdm_lanes.proofs.FirstLemmas.{new_shown_first}
use Rattle.rdm_lanes.proofs.opening.open_lanes.Goals as goal

pub invariant_of-result : goal.invariant_of-result
invariant_of-result g c =
    let is : c.new-in-Ok-joined.result.session
    ≡ opened_with c.into_setup-setup.result c.args.log.keeps c.args.log.room c.args.places.now
    = c.new-in-Ok-joined.ensures.holds.0 ∙ c.in-Ok-joined.ensures.session in
    record {
      publishes = subst (λ (k : LogState). Publishes k c.in-Ok-new.views) (sym is)
          (publishes_opened c.into_setup-setup.result c.args.log.keeps c.args.log.room c.args.places.now
          c.in-Ok-new.views c.in-Ok-new.ensures.opening.0
          c.in-Ok-new.ensures.opening.1);
      shown_first = rw c.new-in-Ok-joined.ensures.holds.1
          (new_shown_first c.in-Ok-new.views.shown c.args.ring c.args.places.now c.in-Some-open_clients.clients.items
          c.in-Some-open_clients.lanes.items c.in-Some-open_clients.ensures);
    }

pub new-requires-in-Ok-joined : goal.new-requires-in-Ok-joined
new-requires-in-Ok-joined g c =
    let places = c.args.places.now in
    let all = c.in-Some-open_clients.ensures in
    let is : c.in-Ok-joined.session
    ≡ opened_with c.into_setup-setup.result c.args.log.keeps c.args.log.room places = c.in-Ok-joined.ensures.session in
    let legal = subst (λ (k : LogState). Legal k.opening k.entries) is c.in-Ok-joined.ensures.legal in
    record {
      few = omega (
        arith,
        all.lanes_long,
        c.in-Some-open_clients.lanes.ok.0,
        few_places c.into_setup-setup.result.config.places places (sym c.fault_of_places.ensures ∙ c.in_default.is),
      );
      served = subst IsBetweenTurns (sym is)
          (served_opened c.into_setup-setup.result c.args.log.keeps c.args.log.room places);
      fits = subst (λ (k : LogState). AllFit k c.in-Some-open_clients.lanes.items) (sym is)
          (fits_opened c.into_setup-setup.result c.args.log.keeps c.args.log.room c.args.ring places
          c.in-Some-open_clients.clients.items c.in-Some-open_clients.lanes.items legal all);
      operated = subst (λ (k : LogState). IsOperated k (popped c.in-Ok.heard)) (sym is)
          (operated_opened c.into_setup-setup.result c.args.log.keeps c.args.log.room places (popped c.in-Ok.heard)
          c.in-Ok.ensures.consumer.0);
    }

pub discard-requires : goal.discard-requires
discard-requires g c =
    new_hold_nothing c.args.ring c.args.places.now c.in-Some-open_clients.clients.items
    c.in-Some-open_clients.lanes.items c.in-Some-open_clients.ensures

pub returns-in-Ok-joined-clause-opened : goal.returns-in-Ok-joined-clause-opened
returns-in-Ok-joined-clause-opened g c =
    let clients = c.in-Some-open_clients.clients.items in
    let lanes = c.in-Some-open_clients.lanes.items in
    record {
      session =
          subst (λ (s : Setup). c.new-in-Ok-joined.result.session
          ≡ opened_with s c.args.log.keeps c.args.log.room c.args.places.now)
          c.into_setup-setup.ensures (c.new-in-Ok-joined.ensures.holds.0 ∙ c.in-Ok-joined.ensures.session);
      clients = new_clients c.args.ring c.args.places.now clients lanes c.in-Some-open_clients.ensures;
      operator = (
        c.in-Ok.ensures.producer.0,
        refl,
        c.new-in-Ok-joined.ensures.operator.1,
        c.in-Ok.ensures.producer.2 ∙ c.from.ensures,
        rw c.new-in-Ok-joined.ensures.operator.0 c.in-Ok.ensures.pair,
      );
      pairs = rw c.new-in-Ok-joined.ensures.holds.1
          (new_pairs c.args.ring c.args.places.now clients lanes c.in-Some-open_clients.ensures);
      published = c.in-Ok-new.ensures.opening.0;
    }
