use Rattle.std.proofs.Common.{refl}
use Rattle.rdm_lanes.proofs.ViewFacts.{opening_views}
use Rattle.rdm_lanes.proofs.views.history.BlankHistory.new.Goals as goal

pub open-seen-requires : goal.open-seen-requires
open-seen-requires c = (record { words = refl; are = opening_views }, search, c.alone.ensures.1)
