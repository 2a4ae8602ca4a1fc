use Rattle.rdm_lanes.proofs.Common.{◌∙◌, length, ap, sym, subst, AreViews}
use Rattle.rdm_lanes.specs.body.History.{head_of}
use Rattle.rdm_lanes.proofs.ViewFacts.{opening_views}
use Rattle.rdm_lanes.proofs.views.history.BlankHistory.named.Goals as goal

pub invariant_of-result : goal.invariant_of-result
invariant_of-result g c = c.args.self.head_is ∙ ap head_of c.requires

pub invariant_of-result-2 : goal.invariant_of-result-2
invariant_of-result-2 g c =
    let is = c.args.self.opening in
    (sym (ap length is), c.requires, subst AreViews (sym is) opening_views)
