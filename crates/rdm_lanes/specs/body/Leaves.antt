-- The leave at the end of a ring of calls.
use Rattle.std.specs.Prelude.{Bool, List, [], ◌∷◌}
use Rattle.std.specs.Prelude.{if◌then◌else◌}
use Rattle.rdm_lanes.specs.declared.call.ClientCall.{ClientCall}
use Rattle.rdm_lanes.specs.declared.call.ClientCall.TheVariants.{Leave}

-- nothing, or the leave of a client that has left
abbrev pub leave_if : Bool → List ClientCall
leave_if left = if left then Leave ∷ [] else []
