-- Intervals of UIDs.
use Rattle.std.specs.Prelude.{ℕ, ◌+◌, ◌-◌, ◌/◌}

-- the range of UIDs from lo to hi, both included (E1.20, discovery unique branch)
pub record Span : Type 0 where
  pub lo : ℕ
  pub hi : ℕ

-- the range of all UIDs
abbrev pub whole : Span
whole = record { lo = 0; hi = 0xffffffffffff }

-- the greatest number of the lower half
abbrev pub middle : Span → ℕ
middle r = r.lo + (r.hi - r.lo) / 2

-- the lower half of a range, up to its middle
abbrev pub lower_half : Span → Span
lower_half r = record { lo = r.lo; hi = middle r }

-- the upper half of a range, above its middle
abbrev pub upper_half : Span → Span
upper_half r = record { lo = middle r + 1; hi = r.hi }
