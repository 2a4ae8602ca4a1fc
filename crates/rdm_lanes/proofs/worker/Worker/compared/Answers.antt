use Rattle.rdm_lanes.proofs.Common.{◌<◌, ◌≤◌, refl, length, arith, slice_get_read}
use Rattle.rdm_lanes.proofs.EndLemmas.{comparing_none, comparing_more, all_compared, all_read}
use Rattle.rdm_lanes.proofs.worker.Worker.compared.Goals as goal

pub loop-at-init : goal.loop-at-init
loop-at-init g c =
    comparing_none c.args.self.session c.args.self.lanes.items c.args.ends.items c.args.self.fits c.requires.pairs

pub compare-requires : goal.compare-requires
compare-requires g c =
    let is = c.loop-at.invariant in
    let lanes = c.loop-at.lanes.items in
    let ends = c.loop-at.ends.items in
    let inside : c.loop-at.at < length
    lanes = omega (arith, is.lanes_long, c.loop-at-test.true, c.len-at-end.ensures, c.args.self.lanes.ok.0) in
    let lane_here = slice_get_read lanes (length lanes) c.loop-at.at c.index_mut.result.now refl inside
    c.index_mut.ensures.value in
    let end_here = slice_get_read ends (length ends) c.loop-at.at c.index_mut-in-loop-at.result.now refl
    (omega (arith, inside, is.long)) c.index_mut-in-loop-at.ensures.value in
    (is.pairs c.loop-at.at c.index_mut.result.now c.index_mut-in-loop-at.result.now (omega arith) lane_here end_here).0

pub loop-at-preserved : goal.loop-at-preserved
loop-at-preserved g c =
    let is = c.loop-at.invariant in
    let lanes = c.loop-at.lanes.items in
    let ends = c.loop-at.ends.items in
    let inside : c.loop-at.at < length
    lanes = omega (arith, is.lanes_long, c.loop-at-test.true, c.len-at-end.ensures, c.args.self.lanes.ok.0) in
    let lane_here = slice_get_read lanes (length lanes) c.loop-at.at c.index_mut.result.now refl inside
    c.index_mut.ensures.value in
    let end_here = slice_get_read ends (length ends) c.loop-at.at c.index_mut-in-loop-at.result.now refl
    (omega (arith, inside, is.long)) c.index_mut-in-loop-at.ensures.value in
    comparing_more c.args.self.session c.args.self.lanes.items c.args.ends.items lanes ends c.loop-at.at
    c.index_mut.result.now c.compare.new.lane c.index_mut-in-loop-at.result.now c.compare.new.end is lane_here
    end_here c.compare.ensures.calls c.compare.ensures.replies c.compare.ensures.show_same c.compare.ensures.left

pub returns-clause-agree : goal.returns-clause-agree
returns-clause-agree g c =
    let past : length
    c.args.self.lanes.items ≤ c.loop-at.at =
    omega (arith, c.loop-at-test.false, c.len-at-end.ensures, c.args.self.lanes.ok.0) in
    all_compared c.args.self.session c.args.self.lanes.items c.args.ends.items c.loop-at.lanes.items
    c.loop-at.ends.items c.loop-at.at past c.loop-at.invariant

pub returns-clause-read : goal.returns-clause-read
returns-clause-read g c left =
    let past : length
    c.args.self.lanes.items ≤ c.loop-at.at =
    omega (arith, c.loop-at-test.false, c.len-at-end.ensures, c.args.self.lanes.ok.0) in
    all_read c.args.self.session c.args.self.lanes.items c.args.ends.items c.loop-at.lanes.items c.loop-at.ends.items
    c.loop-at.at past c.loop-at.invariant left
