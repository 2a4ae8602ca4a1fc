-- The first of the exchanges of a kind, and how many others came after it so far.
use Rattle.std.specs.Prelude.{ℕ, ◌+◌, ◌≤◌, Bool, Option, Some, None, if◌then◌else◌}
use Rattle.rdm_explain.specs.declared.sighting.Sighting.{Sighting}
use Rattle.rdm_explain.specs.Sightings.{Have, IsSighting}

-- with another exchange of the kind
abbrev pub with_one : ℕ → Option Sighting → Option Sighting
with_one at None = Some (record { at = at; more = 0 })
with_one at (Some s) = Some (record { at = s.at; more = s.more + 1 })

-- with another exchange, if it is of the kind
abbrev pub noted : ℕ → Bool → Option Sighting → Option Sighting
noted at is found = if is then with_one at found else found

-- so far at most this many came after the first
abbrev pub AreFew : ℕ → Option Sighting → Type 0
AreFew n None = Unit {0}
AreFew n (Some s) = s.more ≤ n

-- what of the first k numbers has P
abbrev pub SightedTo : (ℕ → Type 0) → ℕ → Option Sighting → Type 0
SightedTo P k None = Have P k 0
SightedTo P k (Some s) = IsSighting P k s
