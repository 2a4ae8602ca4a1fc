-- How contracts see a log and a session.
use Rattle.std.specs.Prelude.{ℕ, ◌+◌, ◌^◌, ◌≤◌, Bool, true, false, List, [], ◌++◌, nat_lt, length, drop}
use Rattle.std.specs.Prelude.{if◌then◌else◌}
use Rattle.rdm_agent.specs.declared.search.Search.TheVariants.{Steady}
use Rattle.rdm_log.specs.declared.config.Setup.{Setup}
use Rattle.rdm_log.specs.declared.entry.Opening.{Opening}
use Rattle.rdm_log.specs.declared.entry.Entry.{Entry}
use Rattle.rdm_log.specs.log.History.{free_room, reserved, is_paused, is_closed, places}
use Rattle.rdm_log.specs.log.History.{next_request, next_ask, next_tn}
use Rattle.rdm_log.specs.log.BrokenKeys.{none_open}
use Rattle.rdm_log.specs.log.Broken.{broken_keys}
use Rattle.rdm_log.specs.log.Runs.{next_run, known_devices, devices_run}

-- The opening, all entries after it, and how many entries fit. The oldest of the entries may have been handed out,
-- `gone` of them. They still count as entries, and as entries that fit. If the log keeps nothing, none is stored, and
-- none is handed out.
pub record LogState : Type 0 where
  pub opening : Opening
  pub entries : List Entry
  pub room : ℕ
  pub gone : ℕ
  pub keeps : Bool

-- the entries that are stored: those that weren't handed out, or none
abbrev pub stored : LogState → List Entry
stored k = if k.keeps then drop k.gone k.entries else []

-- the log after all its entries were handed out, with room for this many more
abbrev pub drained : LogState → ℕ → LogState
drained k room = record k { room = length k.entries + room; gone = length k.entries; keeps = true }

-- a page that takes all that a log stores, and the log's memory. Its own opening stays, but its search is the log's
abbrev pub filled_page : LogState → LogState → LogState
filled_page page k = record page {
  opening = record page.opening { search = k.opening.search };
  entries = k.entries;
  room = k.room;
  gone = k.gone;
  keeps = k.keeps;
}

-- whether the log, once all its entries are handed out, can continue in memory for this many: it has capacity for those
-- that are reserved, and there are at most 2^62 in all
abbrev pub MayGoOn : LogState → ℕ → Type 0
MayGoOn k room = (1 ≤ room) × ((reserved k.opening k.entries ≤ room) × (length k.entries + room ≤ 2 ^ 62))

-- the log with these entries in place of its own
abbrev pub with_entries : LogState → List Entry → LogState
with_entries k h = record k { entries = h }

-- the log with these entries at its end
abbrev pub grown : LogState → List Entry → LogState
grown k block = record k { entries = k.entries ++ block }

-- how many entries of a log are free: neither used nor reserved
abbrev pub free_entries : LogState → ℕ
free_entries k = free_room k.room k.opening k.entries

-- whether the log is full: fewer than three entries are free, so some calls are refused
abbrev pub is_full_log : LogState → Bool
is_full_log k = nat_lt (free_entries k) 3

-- the opening of a new log
abbrev pub blank_opening : Opening
blank_opening = record {
  source = 0;
  greatest = 0;
  budget = 0;
  search = Steady;
  places = record { items = [] };
  paused = false;
  closed = false;
  devices = [];
  devices_run = 0;
  broken = none_open;
  next_request = 0;
  next_ask = 0;
  next_run = 0;
  next_tn = 0;
}

-- a log like a new one, for this many entries, which keeps them or doesn't
abbrev pub emptied_log : Bool → ℕ → LogState
emptied_log keeps room = record {
  opening = blank_opening;
  entries = [];
  room = room;
  gone = 0;
  keeps = keeps;
}

-- a new log that keeps nothing
abbrev pub nothing_log : LogState
nothing_log = emptied_log false (2 ^ 62)

-- a new log for this many entries
abbrev pub blank_log : ℕ → LogState
blank_log room = emptied_log true room

-- the opening of a session with this set-up: no clients, no devices, neither paused nor closed; the first run will be
-- number 1, and all other numbers begin at 0
abbrev pub opened : Setup → Opening
opened setup = record blank_opening {
  source = setup.config.source;
  greatest = setup.config.places;
  budget = setup.config.budget;
  search = setup.search;
  next_run = 1;
}

-- the log of a session with this set-up, at its start: it has that opening; its entries and its capacity are those of
-- the log that the session was given
abbrev pub begun : Setup → LogState → LogState
begun setup k = record k { opening = opened setup }

-- the opening of a log that continues after these entries
abbrev pub opening_after : Opening → List Entry → Opening
opening_after o h = record {
  source = o.source;
  greatest = o.greatest;
  budget = o.budget;
  search = o.search;
  places = record { items = places o h };
  paused = is_paused o h;
  closed = is_closed o h;
  devices = known_devices o h;
  devices_run = devices_run o h;
  broken = broken_keys o h;
  next_request = next_request o h;
  next_ask = next_ask o h;
  next_run = next_run o h;
  next_tn = next_tn o h;
}
