-- How the lists in the mutex agree with the log.
use Rattle.std.specs.Prelude.{◌≡◌, ℕ, List, [], length, slice_index_or}
use Rattle.rdm_log.specs.log.LogState.{LogState}
use Rattle.rdm_locked.specs.Clients.{Agrees}
use Rattle.rdm_locked.specs.declared.history.LoggedCall.{LoggedCall}

-- There is a list for each client that joined, and it has the client's calls and outcomes. Nobody else called anything.
pub record Keeps (k : LogState) (lists : List (List LoggedCall)) (joined : ℕ) : Type 0 where
  pub long : length lists ≡ joined
  pub each : (c : ℕ) → Agrees c k (slice_index_or lists c [])
