use Rattle.std.proofs.Common.{◌≡◌, drop}
use Rattle.rdm_handles.specs.Agents.{known_status, known_set}
use Rattle.rdm_handles.proofs.agents.add_known.Given as goal

abbrev pub invariant-adding : goal.invariant-adding
invariant-adding l = (known_status l.initial.set l.known ≡ known_status l.set (drop l.i l.known))
    × (known_set l.initial.set l.known ≡ known_set l.set (drop l.i l.known))
