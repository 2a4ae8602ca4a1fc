-- What serving a session asks of its caller, and what it leaves.
use Rattle.std.specs.Prelude.{◌≡◌, ℕ, ◌+◌, ◌*◌, ◌≤◌, List, [], ◌∷◌, Option, Some, None, IfSome, length}
use Rattle.std.specs.List.{All}
use Rattle.rdm_locked.specs.Openings.{BlankNames}
use Rattle.rdm_wire.specs.Uid.{IsDevice}
use Rattle.rdm_agent.specs.declared.search.Search.{Search}
use Rattle.rdm_log.specs.log.LogState.{LogState, stored}
use Rattle.rdm_lanes.specs.Lines.{exchange_count}
use Rattle.rdm_files.specs.declared.session.client.ClientFile.{ClientFile}
use Rattle.rdm_arguments.specs.declared.port_kind.PortKind.{PortKind}
use Rattle.rdm_arguments.specs.declared.port_kind.PortKind.TheVariants.{Locked, Rings}
use Rattle.rdm_serving.specs.LoggedCalls.{HasCalls}
use Rattle.rdm_serving.specs.LoggedOutcomes.{IsLogOf}
use Rattle.rdm_reports.specs.SessionReport.{AllSettled}
use Rattle.rdm_reports.specs.declared.outcomes.Outcomes.{Outcomes}
use Rattle.rdm_serving.specs.declared.serving.Served.{Served}

-- The blank is that of the book with this name and these parts, which are 17: one for each client, and one for the
-- rest. The source is a device's UID, the budget is at least one exchange, and each ring has at least one slot. The log
-- has at most 1,000,000 free entries.
pub record MayServe (name parts lists : ℕ) (blank : BlankNames) (source budget ring log : ℕ) : Type 0 where
  pub named : blank.name ≡ name
  pub listed : blank.lists ≡ lists
  pub cut : (blank.parts ≡ parts) × (parts ≡ 17)
  pub own : IsDevice source
  pub frames : 1 ≤ budget
  pub slots : 1 ≤ ring
  pub entries : log ≤ 1000000

-- how many slots the first client's rings have, that of its calls and that of its outcomes: as many as the file says.
-- None with a mutex, or without clients
abbrev pub slots_by : PortKind → ℕ → List ClientFile → Option (ℕ × ℕ)
slots_by Locked ring clients = None
slots_by Rings ring [] = None
slots_by Rings ring (client ∷ later) = Some (ring, ring)

-- a client made at most this many turns, and at least two for each outcome: one for its call, and one to collect it
pub record IsInTurns (turns : ℕ) (o : Outcomes) : Type 0 where
  pub counted : 2 * (length o.requests.items + length o.discoveries.items) ≤ o.turns
  pub few : o.turns ≤ turns

-- the session began with this controller's UID and this budget, and its runs search like this
pub record IsSetUp (source budget : ℕ) (search : Search) (k : LogState) : Type 0 where
  pub from : k.opening.source ≡ source
  pub frames : k.opening.budget ≡ budget
  pub searched : k.opening.search ≡ search

-- What is left of a session with these clients: the outcomes of all their calls, which agree with its log. The log has
-- exactly these clients and calls, and all its entries are stored. The worker made at most this many exchanges, and
-- each client at most as many turns. With ring buffers, the first client's rings had this many slots, and a worker
-- whose turns ran out made all of them.
pub record IsServedBy (port : PortKind) (clients : List ClientFile) (ring turns : ℕ) (s : Served) : Type 0 where
  pub settled : AllSettled clients s.outcomes.items
  pub logged : IsLogOf s.session.opening s.session.entries s.outcomes.items
  pub called : HasCalls s.session.entries clients
  pub whole : stored s.session ≡ s.session.entries
  pub in_turns : exchange_count s.session ≤ turns
  pub client_turns : All (IsInTurns turns) s.outcomes.items
  pub slots : s.slots ≡ slots_by port ring clients
  pub ran_out : IfSome s.ran_out (λ made. made ≡ turns)
