-- With which exchange of a run a log begins to have it.
use Rattle.std.specs.Prelude.{ℕ, ◌+◌, ◌^◌, ◌%◌, Bool, false, ◌==◌}
use Rattle.rdm_findings.specs.declared.head.Start.{Start}
use Rattle.rdm_findings.specs.declared.head.Start.TheVariants.{At, Later, Unknown}

-- whether the log has the run's beginning
abbrev pub has_start : Start → Bool
has_start (At number) = number == 0
has_start Later = false
has_start Unknown = false

-- the number of the exchange at this index. If it isn't known, the log's first one counts as 0. A log's numbers are
-- below 2 ^ 64
abbrev pub number_at : Start → ℕ → ℕ
number_at (At first) at = (first + at) % 2 ^ 64
number_at Later at = at
number_at Unknown at = at
