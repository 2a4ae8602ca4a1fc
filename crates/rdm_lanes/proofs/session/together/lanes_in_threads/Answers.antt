use Rattle.std.proofs.Common.{◌∙◌, List, length, sym, ap, subst}
use Rattle.std.proofs.lemmas.List.{length-map}
use Rattle.rdm_log.specs.log.LogState.{LogState}
use Rattle.rdm_lanes.specs.Views.{all_views}
use Rattle.rdm_lanes.specs.Pairs.{Rings, RingsPair}
use Rattle.rdm_lanes.specs.body.Seats.{seat_rings}
use Rattle.rdm_lanes.specs.Ends.{end_rings}
use Rattle.rdm_lanes.proofs.SeatLemmas.{pairs_kept, slots_kept}
use Rattle.rdm_lanes.proofs.session.together.lanes_in_threads.Goals as goal

pub end-session-requires : goal.end-session-requires
end-session-requires g c =
    let first = c.args.lanes.worker.server.lanes.items in
    let news = c.all_in_threads-worker.result.0.server.lanes.items in
    let seats = subst (λ (rings : List Rings). RingsPair first rings) (sym c.seated-paired.ensures.rings)
    c.requires.pairs in
    let kept = pairs_kept first news c.seated-paired.result.items c.all_in_threads-worker.result.1.items seats
    (rw c.without_operator-alone.ensures.same.1 at c.all_in_threads-worker.ensures.lanes)
    c.all_in_threads-worker.ensures.seats in
    record { pairs = subst (λ (rings : List Rings). RingsPair news rings) (sym c.unseated-bodies.ensures.ends) kept }

pub returns-clause-ended : goal.returns-clause-ended
returns-clause-ended g c =
    let seats = c.all_in_threads-worker.ensures.seats.long ∙ c.seated-paired.ensures.one_each in
    let rings = sym (length-map c.unseated-bodies.result.1.items end_rings) ∙ ap length c.unseated-bodies.ensures.ends
    ∙ length-map c.all_in_threads-worker.result.1.items seat_rings in
    record {
      agree = rw c.end-session.ensures.log c.end-session.ensures.agree;
      all_left = λ is.
          let left = c.all_in_threads-worker.ensures.all_left is in
          (c.end-session.ensures.read left.0, rw c.end-session.ensures.log left.1);
      full = λ is. rw c.end-session.ensures.log (c.all_in_threads-worker.ensures.full is);
      one_each = (c.end-session.ensures.show_same.long ∙ (rings ∙ seats), c.unseated-bodies.ensures.bodies ∙ seats);
      unspent = c.end-session.ensures.unspent;
      matched = c.end-session.ensures.matched;
      published = rw c.end-session.ensures.log c.end-session.ensures.published;
      all_published =
          λ not. c.end-session.ensures.shown ∙ c.all_in_threads-worker.ensures.published not
          ∙ ap (λ (k : LogState). all_views k.entries) (sym c.end-session.ensures.log);
      views = c.end-session.ensures.views;
      shown_first = c.end-session.ensures.shown_first;
    }

pub returns-clause-slots : goal.returns-clause-slots
returns-clause-slots g c n has =
    slots_kept n c.args.lanes.clients.items c.seated-paired.result.items c.all_in_threads-worker.result.1.items
    c.unseated-bodies.result.1.items c.end-session.result.ends.items
    c.seated-paired.ensures.rings c.all_in_threads-worker.ensures.seats c.unseated-bodies.ensures.ends
    c.end-session.ensures.show_same has
