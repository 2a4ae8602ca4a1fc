-- What opening clients, an operator and a worker requires, and what it makes.
use Rattle.std.specs.Prelude.{◌≡◌, ◌≢◌, ◌⊎◌, ℕ, ◌+◌, ◌<◌, ◌≤◌, Bool, false, List, [], ◌∷◌, length, sum, Option, Some}
use Rattle.std.specs.Prelude.{None, nat_lt, slice_get, if◌then◌else◌, Result, IsErr, IfErr, MatchOption}
use Rattle.logbook.specs.Pages.{Book}
use Rattle.left_right.specs.declared.Absorb.{Ghosts as Absorbs}
use Rattle.rtrb.specs.Ring.{sent as pushed, received as popped, producer_capacity, consumer_capacity}
use Rattle.rdm_client.specs.declared.view.DeviceView.{DeviceView}
use Rattle.rdm_log.specs.declared.config.Config.{Config}
use Rattle.rdm_log.specs.declared.config.Setup.{Setup}
use Rattle.rdm_log.specs.log.Config.{IsConfig}
use Rattle.rdm_log.specs.declared.entry.Entry.{Entry}
use Rattle.rdm_log.specs.declared.entry.Entry.TheVariants.{Join}
use Rattle.rdm_log.specs.log.LogState.{LogState, opened}
use Rattle.rdm_lanes.specs.declared.views.history.BlankHistory.{BlankHistory}
use Rattle.rdm_lanes.specs.declared.views.history.ViewHistory.{Ghosts}
use Rattle.rdm_lanes.specs.declared.views.publishing.Shown.{Shown}
use Rattle.rdm_lanes.specs.declared.opening.Lanes.{Lanes}
use Rattle.rdm_lanes.specs.declared.fault.OpenFault.{OpenFault}
use Rattle.rdm_lanes.specs.declared.fault.OpenFault.TheVariants.{TooManyClients, NoPlaces, NoMemory, LogFull}
use Rattle.rdm_lanes.specs.declared.client.RingClient.{RingClient}
use Rattle.rdm_lanes.specs.Pairs.{ClientsPair}
use Rattle.rdm_lanes.specs.Views.{opening_view}
use Rattle.rdm_lanes.specs.Workers.{session_of, lanes_of, operator_has_left, published_by}
use Rattle.rdm_lanes.specs.Workers.{called_by, has_left, book_of, OperatorPairs}

-- the blank history is that of this book, the configuration is valid, the log has no entries, and a ring has at least
-- one slot
pub record MayOpen (book : Book) (history : BlankHistory) (config : Config) (log : LogState) (ring : ℕ) : Type 0 where
  pub named : book_of history ≡ book
  pub configured : IsConfig config
  pub empty : log.entries ≡ []
  pub slots : 1 ≤ ring

-- the first fault that these queue depths show, if their sum may be at most this
abbrev pub places_fault : ℕ → List ℕ → Option OpenFault
places_fault greatest places =
    if nat_lt 16 (length places) then Some TooManyClients
    else (if nat_lt greatest (sum places) then Some NoPlaces else None)

-- a log with this capacity has fewer than three free entries before some client with these queue depths joins
abbrev pub IsFullFor : ℕ → List ℕ → Type 0
IsFullFor room places = (places ≢ []) × (room < length places + 3)

-- the fault of an opening whose queue depths show none: out of memory, or the log is full
abbrev pub IsLaterFault : ℕ → List ℕ → OpenFault → Type 0
IsLaterFault room places fault = (fault ≡ NoMemory) ⊎ ((fault ≡ LogFull) × IsFullFor room places)

-- What an opening over a log with this capacity returns, if the queue depths' sum may be at most this. If the queue
-- depths show a fault, it fails with the first one. Otherwise it fails if the log is full, and only with a later fault.
abbrev pub HasFirstFault : {X E : Type 0} → ℕ → ℕ → List ℕ → (E → OpenFault) → Result X E → Type 0
HasFirstFault greatest room places fault_in result =
    MatchOption (places_fault greatest places)
    ((IsFullFor room places → IsErr result) × IfErr result (λ e. IsLaterFault room places (fault_in e)))
    (λ fault. IsErr result × IfErr result (λ e. fault_in e ≡ fault))

-- clients join with these queue depths, numbered from n
abbrev pub join_entries : ℕ → List ℕ → List Entry
join_entries n [] = []
join_entries n (p ∷ ps) = Join (record { 0 = n }) p ∷ join_entries (n + 1) ps

-- a session with this set-up, in which clients with these queue depths have joined, and nothing else has happened. Its
-- log keeps entries or doesn't, and has this capacity.
abbrev pub opened_with : Setup → Bool → ℕ → List ℕ → LogState
opened_with setup keeps room places =
    record {
      opening = opened setup;
      entries = join_entries 0 places;
      room = room;
      gone = 0;
      keeps = keeps;
    }

module _ {J : Type 0} {h : Ghosts J} {C A : Type 0} where
  -- A client with this queue depth, and with rings of this many slots. It has sent and got nothing, hasn't left, and
  -- has read only the opening view.
  pub record IsNew (ring places : ℕ) (client : RingClient J C A h) : Type 0 where
    pub nothing_sent : pushed client.calls ≡ []
    pub nothing_got : popped client.replies ≡ []
    pub empty : client.desk ≡ record { requests = []; asks = []; places = places }
    pub not_left : client.left ≡ false
    pub slots : (producer_capacity client.calls ≡ ring) × (consumer_capacity client.replies ≡ ring)
    pub opening_read : client.views ≡ opening_view ∷ []

  -- a client for each of these queue depths, in order
  pub record AreNew (ring : ℕ) (places : List ℕ) (clients : List (RingClient J C A h)) : Type 0 where
    pub long : length clients ≡ length places
    pub each : (i p : ℕ) (client : RingClient J C A h) → slice_get places i ≡ Some p → slice_get clients i ≡ Some client
        → IsNew ring p client

module _ {J T R C A : Type 0} {h : Ghosts J} {v : Absorbs T (Shown J) (List DeviceView)} where
  -- A session with this set-up over this log, in which clients with these queue depths have joined. The clients are
  -- new. The operator has called nothing, and neither it nor the worker knows of its leave. All rings are those of the
  -- worker, with this many slots. The opening view is published.
  pub record IsOpened (setup : Setup) (log : LogState) (ring : ℕ) (places : List ℕ) (lanes : Lanes J T R C A h v)
      : Type 0 where
    pub session : session_of lanes.worker ≡ opened_with setup log.keeps log.room places
    pub clients : AreNew ring places lanes.clients.items
    pub operator : (called_by lanes.operator ≡ []) × (has_left lanes.operator ≡ false)
        × (operator_has_left lanes.worker ≡ false) × (producer_capacity lanes.operator.calls ≡ ring)
        × OperatorPairs lanes.operator lanes.worker
    pub pairs : ClientsPair (lanes_of lanes.worker) lanes.clients.items
    pub published : published_by lanes.worker ≡ opening_view ∷ []
