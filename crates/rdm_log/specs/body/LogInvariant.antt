-- What a log keeps of its memory.
use Rattle.std.specs.Prelude.{◌≡◌, ℕ, ◌+◌, ◌^◌, ◌≤◌, Bool, true, false, List, [], length, if◌then◌else◌}
use Rattle.rdm_log.specs.declared.entry.Entry.{Entry}

-- These entries are stored, and these aren't, `gone` of them. A log that keeps entries has capacity for all that fit.
-- Another one stores none, and counts at most as many as fit.
pub record LogInvariant (keeps : Bool) (room : ℕ) (entries : List Entry) (capacity : ℕ) (past : List Entry) (gone : ℕ)
    : Type 0 where
  pub some : 1 ≤ room
  pub within : length entries ≤ room
  pub reserved : keeps ≡ true → room ≤ capacity
  pub none_kept : keeps ≡ false → (entries ≡ []) × (gone ≤ room)
  pub counted : gone ≡ length past
  pub in_all : (if keeps then gone else 0) + room ≤ 2 ^ 62
