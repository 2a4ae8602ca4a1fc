use Rattle.rdm_lanes.proofs.Common.{◌<◌, sym, ◌∙◌, ap, last_view_run}
use Rattle.rdm_lanes.proofs.HistoryLemmas.{adds_moves}
use Rattle.rdm_lanes.proofs.views.history.Front.add.Goals as goal

pub compare_exchange-found-requires : goal.compare_exchange-found-requires
compare_exchange-found-requires g c =
    let h = c.book.invariant in
    let offer = c.plain-offer.ensures in
    let pen = c.no_pen-pen.ensures in
    let less : last_view_run c.self.inside.seen.log < c.args.view.now.run = rw c.self.view_is c.requires.later in (
      ap (λ w. w.tracked) h,
      c.self.invariant.1 ∙ sym (ap (λ w. w.book) h),
      pen.0 ∙ (c.self.invariant.1 ∙ sym (ap (λ w. w.book) h)),
      offer.0,
      rw (ap (λ w. w.key) h, pen.1, offer.1, offer.3)
          (adds_moves c.self.inside.seen.log c.args.view.now c.self.inside.views (sym c.self.invariant.0) less),
    )
