-- What exchanges cover, as a state after each of them.
use Rattle.std.specs.Prelude.{◌⊎◌, ℕ, ◌+◌, ◌<◌, ◌≤◌, ◌^◌, ◌&&◌, List, [], ◌∷◌, ◌++◌, Option, Some, None, fold, ◌==◌}
use Rattle.std.specs.Prelude.{nat_le, nat_lt}
use Rattle.std.specs.Prelude.{if◌then◌else◌}
use Rattle.rdm_wire.specs.Honest.{Asked, Heard, Seen, is_silent, is_acked}
use Rattle.rdm_wire.specs.Honest.Asked.{Unmute, Branch, Mute, Other}
use Rattle.rdm_explain.specs.declared.cover.Stretch.{Stretch}
use Rattle.rdm_explain.specs.declared.cover.Cover.{Cover}

-- u is in the stretch
abbrev pub In : Stretch → ℕ → Type 0
In s u = (s.lo ≤ u) × (u ≤ s.hi)

-- u is in one of the stretches
abbrev pub IsIn : List Stretch → ℕ → Type 0
IsIn [] u = ⊥
IsIn (s ∷ ss) u = In s u ⊎ IsIn ss u

-- the least UID in none of the stretches
pub record IsFirstGap (ss : List Stretch) (u : ℕ) : Type 0 where
  pub below : u < 2 ^ 48
  pub gap : IsIn ss u → ⊥
  pub before : (v : ℕ) → v < u → IsIn ss v

-- each UID is in one of the stretches, or this is the first that isn't
abbrev pub FirstGap : List Stretch → Option ℕ → Type 0
FirstGap ss None = (u : ℕ) → u < 2 ^ 48 → IsIn ss u
FirstGap ss (Some u) = IsFirstGap ss u

-- the numbers from u to this one are in none of the stretches, and the next one is, unless this is the greatest
pub record IsGapEnd (ss : List Stretch) (u last : ℕ) : Type 0 where
  pub from : u ≤ last
  pub below : last < 2 ^ 48
  pub each : (v : ℕ) → u ≤ v → v ≤ last → IsIn ss v → ⊥
  pub next : last + 1 < 2 ^ 48 → IsIn ss (last + 1)

-- the nearer one of two numbers that end a gap after u, if lo is one that a stretch begins by
abbrev pub nearer : (u lo hi next : ℕ) → ℕ
nearer u lo hi next = if nat_lt u lo && (nat_le lo hi && nat_lt lo next) then lo else next

-- a gap has an end
abbrev pub GapEnd : List Stretch → ℕ → Option ℕ → Type 0
GapEnd ss u None = ⊥
GapEnd ss u (Some last) = IsGapEnd ss u last

-- the last `count` exchanges are silent branches of lo to hi, and the stretches are covered
pub record CoverState : Type 0 where
  pub lo : ℕ
  pub hi : ℕ
  pub count : ℕ
  pub covered : List Stretch

abbrev pub cover_of : Cover → CoverState
cover_of c = record { lo = c.lo; hi = c.hi; count = c.count; covered = c.covered.items }

-- how many silent branches of a range come in a row
abbrev pub count_after : CoverState → ℕ → ℕ → ℕ
count_after c lo hi = if (lo == c.lo) && (hi == c.hi) then c.count + 1 else 1

abbrev pub stretch : ℕ → ℕ → Stretch
stretch lo hi = record { lo = lo; hi = hi }

-- after a silent branch
abbrev pub silence_after : CoverState → ℕ → ℕ → CoverState
silence_after c lo hi = record {
  lo = lo;
  hi = hi;
  count = count_after c lo hi;
  covered = if nat_le 5 (count_after c lo hi) then c.covered ++ stretch lo hi ∷ [] else c.covered;
}

-- after an exchange that is no silent branch
abbrev pub other_after : CoverState → List Stretch → CoverState
other_after c ss = record { lo = c.lo; hi = c.hi; count = 0; covered = ss }

-- after an acknowledged mute
abbrev pub acked_after : CoverState → ℕ → CoverState
acked_after c u = other_after c (c.covered ++ stretch u u ∷ [])

abbrev pub covered_by : CoverState → Asked → Heard → CoverState
covered_by c (Branch lo hi) heard = if is_silent heard then silence_after c lo hi else other_after c c.covered
covered_by c (Mute u) heard = if is_acked heard then acked_after c u else other_after c c.covered
covered_by c Unmute heard = other_after c c.covered
covered_by c Other heard = other_after c c.covered

-- after an exchange
abbrev pub covered_after : CoverState → Seen → CoverState
covered_after c e = covered_by c e.asked e.heard

-- before the first exchange
abbrev pub cover_start : CoverState
cover_start = record { lo = 0xffffffffffff; hi = 0xffffffffffff; count = 0; covered = [] }

-- after some exchanges
abbrev pub cover_state : List Seen → CoverState
cover_state x = fold covered_after cover_start x
