-- Published device views, and how their list grows.
use Rattle.std.specs.Prelude.{◌≡◌, ℕ, ◌<◌, ◌==◌, Bool, false, List, [], ◌∷◌, ◌++◌, fold, map, Option, Some, None}
use Rattle.std.specs.Prelude.{nat_lt, if◌then◌else◌}
use Rattle.rdm_wire.specs.declared.device.Device.{Device}
use Rattle.rdm_agent.specs.declared.fault.AgentFault.{AgentFault}
use Rattle.rdm_log.specs.declared.entry.Entry.{Entry}
use Rattle.rdm_log.specs.log.Entries.{answers}
use Rattle.rdm_log.specs.log.Runs.{run_devices}
use Rattle.rdm_log.specs.promises.Outcomes.{OutcomeValue}
use Rattle.rdm_log.specs.promises.Outcomes.OutcomeValue.{RequestValue, DiscoveryValue}
use Rattle.rdm_client.specs.declared.view.DeviceView.{DeviceView}

-- the view before any run has ended without fault
abbrev pub opening_view : DeviceView
opening_view = record { run = 0; set = [] }

-- the last of these views; the opening one if there are none
unfoldable pub last_view : List DeviceView → DeviceView
last_view views = fold (λ before v. v) opening_view views

-- the run of the last of these views
abbrev pub last_view_run : List DeviceView → ℕ
last_view_run views = (last_view views).run

-- the runs rise from view to view, and are greater than this one
abbrev pub RisesAbove : ℕ → List DeviceView → Type 0
RisesAbove n [] = Unit {0}
RisesAbove n (v ∷ views) = (n < v.run) × RisesAbove v.run views

-- the views begin with the opening one, and their runs rise
pub record AreViews (views : List DeviceView) : Type 0 where
  pub later : List DeviceView
  pub begin : views ≡ opening_view ∷ later
  pub rise : RisesAbove 0 later

-- the last of these runs
abbrev pub last_number : List ℕ → Option ℕ
last_number runs = fold (λ before r. Some r) None runs

-- whether the last run is r
abbrev pub is_last : Option ℕ → ℕ → Bool
is_last None r = false
is_last (Some q) r = q == r

-- these runs, and then this one, unless it is the last of them
abbrev pub with_run : List ℕ → ℕ → List ℕ
with_run runs r = if is_last (last_number runs) r then runs else runs ++ r ∷ []

-- these runs, and then the run of an Answer without fault, unless it is the last of them
abbrev pub with_found : List ℕ → Option AgentFault → ℕ → List ℕ
with_found runs None r = with_run runs r
with_found runs (Some fault) r = runs

-- the runs that were answered without fault, in order
unfoldable pub runs_found : List Entry → List ℕ
runs_found h = fold (λ runs b. with_found runs b.fault b.run) [] (answers h)

-- the view of a run: its number, and the devices that it found
abbrev pub view_of : List Entry → ℕ → DeviceView
view_of h r = record { run = r; set = run_devices r h }

-- the views of those runs
abbrev pub views_found : List Entry → List DeviceView
views_found h = map (view_of h) (runs_found h)

-- the opening view, and those
abbrev pub all_views : List Entry → List DeviceView
all_views h = opening_view ∷ views_found h

-- the later of two views, by run; the first if they are of the same run
abbrev pub later_view : DeviceView → DeviceView → DeviceView
later_view first second = if nat_lt first.run second.run then second else first

-- what a client knows of devices by a discovery's outcome without fault
abbrev pub found_by : DeviceView → ℕ → Option AgentFault → List Device → DeviceView
found_by before run None devices = record { run = run; set = devices }
found_by before run (Some fault) devices = before

-- what it knows after an outcome, if it knew this before
abbrev pub found_after : DeviceView → OutcomeValue → DeviceView
found_after before (RequestValue number done) = before
found_after before (DiscoveryValue number done) = found_by before done.run done.fault done.devices

-- what it knows by all its outcomes: those of the last one without fault
unfoldable pub last_found : List OutcomeValue → DeviceView
last_found values = fold found_after opening_view values
