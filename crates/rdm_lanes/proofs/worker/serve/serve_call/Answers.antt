use Rattle.rdm_lanes.proofs.Common.{Some, refl, sym, ap, ◌∙◌, true, rules, Lane, MayMake, known_items}
use Rattle.rtrb.specs.Ring.{received as popped}
use Rattle.rdm_lanes.specs.body.Serving.{bringing}
use Rattle.rdm_lanes.proofs.LaneLemmas.{same_lane_join}
use Rattle.rdm_lanes.proofs.LineLemmas.{line_same}
use Rattle.rdm_lanes.proofs.ServeLemmas.{Calls, popped_served, at_first, fits_popped, fits_left, looked_at}
use Rattle.rdm_lanes.proofs.ServeLemmas.{steps_for_none, steps_for_after, brings_work}
use Rattle.rdm_lanes.proofs.worker.serve.serve_call.Goals as goal

pub make_work-requires : goal.make_work-requires
make_work-requires c =
    let client = c.args.client.0 in
    let session = c.args.session.now in
    let lane = c.args.lane.now in
    let work = c.in-Some.work in
    let look = looked_at client session lane c.may_make.new.lane c.slots.new.self c.requires.fits
    c.slots.ensures.looked c.may_make.ensures.lane in
    record {
      known = c.requires.known ∙ ap (λ (l : Lane). Some l.places) (sym c.may_make.ensures.lane.rest);
      fits =
          fits_popped client session c.may_make.new.lane _ (bringing work) look.fits
          (rw c.in-Some.ensures.work at c.pop_known.ensures.received.0) (brings_work work)
          (record { moved_are = refl; requests_are = refl; asks_are = refl }) refl;
      served = c.requires.served;
      free = search rules;
      may =
          at_first (MayMake client session c.may_make.new.lane) (known_items c.may_make.new.lane.calls)
          (known_items c.pop_known.new.self) (bringing work)
          (rw c.in-Some.ensures.work at c.pop_known.ensures.received.1)
          (c.may_make.ensures.may c.if-not-may_make.false);
    }

pub returns-in_default : goal.returns-in_default
returns-in_default c =
    let client = c.args.client.0 in
    let session = c.args.session.now in
    let lane = c.args.lane.now in
    let mid = c.may_make.new.lane in
    let next = record mid { calls = c.pop_known.new.self; left = true } in
    let look = looked_at client session lane mid c.slots.new.self c.requires.fits c.slots.ensures.looked
    c.may_make.ensures.lane in
    record {
      step = steps_for_none client session lane next
          (fits_left client session mid next look.fits
          (rw c.in_default.ensures.leave at c.pop_known.ensures.received.0)
          (record { moved_are = refl; requests_are = refl; asks_are = refl }) refl)
          c.requires.served
          (same_lane_join lane mid next look.rings (c.pop_known.ensures.ring, ((refl, refl, refl, refl), refl), refl));
      grows = line_same session;
      done = popped_served client session lane mid next c.pop_known.result look.received
          c.pop_known.ensures.received.0;
    }

pub returns : goal.returns
returns c =
    let client = c.args.client.0 in
    let session = c.args.session.now in
    let new = c.make_work.new.session in
    let lane = c.args.lane.now in
    let mid = c.may_make.new.lane in
    let rest_lane = record mid { calls = c.pop_known.new.self } in
    let next = c.make_work.new.lane in
    let look = looked_at client session lane mid c.slots.new.self c.requires.fits c.slots.ensures.looked
    c.may_make.ensures.lane in
    let step = steps_for_after client session new lane rest_lane next
    (same_lane_join lane mid rest_lane look.rings (c.pop_known.ensures.ring, ((refl, refl, refl, refl), refl), refl))
    c.make_work.ensures.step in
    record {
      step = step;
      grows = step.line;
      done = popped_served client new lane mid next c.pop_known.result look.received
          (ap (λ (q : Calls). popped q) c.make_work.ensures.calls ∙ c.pop_known.ensures.received.0);
    }
