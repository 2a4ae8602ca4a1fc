-- The part of a log's exchanges that is a run's.
use Rattle.std.specs.Prelude.{◌≡◌, ℕ, List, ◌++◌, map}
use Rattle.rdm_join.specs.Exchange.{seen_event}
use Rattle.rdm_line.specs.Events.{Exchange}
use Rattle.rdm_log.specs.declared.entry.Entry.{Entry}
use Rattle.rdm_log.specs.log.Entries.{exchanges}
use Rattle.rdm_log.specs.log.Runs.{run_exchanges}

-- the exchanges of a run, between those before and those after it
pub record RunPart (r : ℕ) (h : List Entry) : Type 0 where
  pub before : List Exchange
  pub during : List Exchange
  pub after : List Exchange
  pub whole : exchanges h ≡ before ++ (during ++ after)
  pub own : run_exchanges r h ≡ map seen_event during
