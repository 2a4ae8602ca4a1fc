use Rattle.rdm_lanes.proofs.Common.{◌≡◌, refl, true, false, inl, inr, ◌⊎◌, cases_Bool, IsPrefix, all_views}
use Rattle.rdm_lanes.proofs.Common.{AreShownFirst}
use Rattle.rdm_lanes.proofs.FirstLemmas.{first_shown}
use Rattle.rdm_lanes.proofs.Fronts.{prefix_self}
use Rattle.rdm_lanes.proofs.ReadLemmas.{take_prefix}
use Rattle.rdm_lanes.proofs.worker.view_turns.ViewWorker+J+Shown+J+R.publish.Goals as goal

pub invariant_of-self : goal.invariant_of-self
invariant_of-self g c = record {
  publishes = c.publish_next.ensures.publishes;
  shown_first = by_result (cases_Bool c.publish_next.result);
}
  where
    by_result : (c.publish_next.result ≡ true) ⊎ (c.publish_next.result ≡ false)
        → AreShownFirst c.publish_next.new.views.shown c.args.self.now.server.lanes.items
    by_result (inl made) =
        let me = c.args.self.now in
        first_shown me.server.session me.server.lanes.items c.publish_next.new.views.shown
        me.publishes.showing.none_later me.server.fits (c.publish_next.ensures.made made).shown
    by_result (inr refused) = rw (c.publish_next.ensures.refused refused) c.args.self.now.shown_first

pub returns : goal.returns
returns g c = record {
  made = c.publish_next.ensures.made;
  refused = c.publish_next.ensures.lacks;
  views = by_result (cases_Bool c.publish_next.result);
  server = refl;
  count = refl;
}
  where
    by_result : (c.publish_next.result ≡ true) ⊎ (c.publish_next.result ≡ false)
        → IsPrefix c.args.self.now.views.shown c.publish_next.new.views.shown
    by_result (inl made) =
        let me = c.args.self.now in
        rw ((c.publish_next.ensures.made made).shown)
        (take_prefix me.views.shown (all_views me.server.session.entries) me.publishes.showing.begin)
    by_result (inr refused) = rw (c.publish_next.ensures.refused refused) (prefix_self c.args.self.now.views.shown)
