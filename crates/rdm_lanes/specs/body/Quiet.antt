-- Parts of a turn without an exchange.
use Rattle.std.specs.Prelude.{◌≡◌, Bool, true, false, List}
use Rattle.std.specs.List.{AllByRecursion}
use Rattle.rdm_log.specs.declared.entry.Entry.{Entry}
use Rattle.rdm_log.specs.declared.entry.Entry.TheVariants.{Collect}
use Rattle.rdm_log.specs.log.Entries.{joins, exchanges}
use Rattle.rdm_log.specs.log.LogState.{LogState, grown}
use Rattle.rdm_lanes.specs.Views.{views_found}

-- the log grew, but nothing was sent or received, nobody joined, and no view was added
pub record NoExchange (old new : LogState) : Type 0 where
  pub block : List Entry
  pub grows : new ≡ grown old block
  pub nobody_joined : joins new.entries ≡ joins old.entries
  pub same : exchanges new.entries ≡ exchanges old.entries
  pub same_views : views_found new.entries ≡ views_found old.entries

-- an entry of a collect
abbrev pub is_collect : Entry → Bool
is_collect (Collect c) = true
is_collect _ = false

-- outcomes were collected, and nothing else happened
pub record OnlyCollects (old new : LogState) : Type 0 where
  pub block : List Entry
  pub each : AllByRecursion (λ e. is_collect e ≡ true) block
  pub grows : new ≡ grown old block
