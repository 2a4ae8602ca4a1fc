use Rattle.rdm_lanes.proofs.Common.{◌∙◌, ℕ, List, ap, refl, slice_get, lane_places}
use Rattle.rdm_lanes.proofs.EndLemmas.{get_map}
use Rattle.rdm_lanes.proofs.LaneLemmas.{all_set, lane_here}
use Rattle.rdm_lanes.proofs.worker.Worker.serve_client.Goals as goal

pub serve_call-requires-clause-fits : goal.serve_call-requires-clause-fits
serve_call-requires-clause-fits c =
    let me = c.args.self.now in
    let lane = c.index_mut.result.now in
    me.fits.each c.args.at lane (lane_here me c.args.at lane c.requires c.index_mut.ensures.value)

pub serve_call-requires-clause-known : goal.serve_call-requires-clause-known
serve_call-requires-clause-known c =
    let me = c.args.self.now in
    let lane = c.index_mut.result.now in
    ap (λ (ps : List ℕ). slice_get ps c.args.at) me.fits.clients_are
    ∙ get_map lane_places me.lanes.items c.args.at lane
    (lane_here me c.args.at lane c.requires c.index_mut.ensures.value)

pub invariant_of-self-clause-fits : goal.invariant_of-self-clause-fits
invariant_of-self-clause-fits c =
    let me = c.args.self.now in
    let lane = c.index_mut.result.now in
    all_set c.args.at me.session c.serve_call.new.session me.lanes.items lane c.serve_call.new.lane me.fits
    (lane_here me c.args.at lane c.requires c.index_mut.ensures.value) c.serve_call.ensures.step

pub returns : goal.returns
returns c =
    let lane = c.index_mut.result.now in
    record {
      lane = lane;
      next = c.serve_call.new.lane;
      was = lane_here c.args.self.now c.args.at lane c.requires c.index_mut.ensures.value;
      set = refl;
      does = c.serve_call.ensures;
      operator = (refl, refl);
    }
