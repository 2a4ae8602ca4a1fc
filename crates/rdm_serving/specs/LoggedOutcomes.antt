-- The clients' outcomes, compared with a session's log.
use Rattle.std.specs.Prelude.{◌≡◌, ℕ, ◌+◌, List, [], ◌∷◌, Option, Some, None, if◌then◌else◌, map, filter_map, length}
use Rattle.rdm_join.specs.declared.status.Status.{Status}
use Rattle.rdm_agent.specs.declared.fault.AgentFault.{AgentFault}
use Rattle.rdm_client.specs.declared.told.Told.{Told}
use Rattle.rdm_log.specs.declared.entry.Opening.{Opening}
use Rattle.rdm_log.specs.declared.entry.Entry.{Entry}
use Rattle.rdm_log.specs.declared.entry.Entry.TheVariants.{Finish, Answer}
use Rattle.rdm_log.specs.log.Clients.{is_client_of, client_of_request, client_of_discovery}
use Rattle.rdm_log.specs.log.Legal.{Legal}
use Rattle.rdm_log.specs.promises.Promised.{LegalPromised}
use Rattle.rdm_reports.specs.declared.outcomes.Outcomes.{Outcomes}
use Rattle.rdm_reports.specs.declared.outcomes.Discovered.{Discovered}

-- how a request ended: its status, and how many bytes of data its callback received
abbrev pub end_told : Told → Status × ℕ
end_told told = (told.done.status, length told.done.bytes.items)

-- how a request of the client ended, by its Finish
abbrev pub end_logged : Opening → ℕ → List Entry → Entry → Option (Status × ℕ)
end_logged o c h (Finish n status len) = if is_client_of c (client_of_request o h n) then Some (status, len) else None
end_logged o c h _ = None

-- the fault with which a discovery of the client ended, if any, by its Answer
abbrev pub fault_logged : Opening → ℕ → List Entry → Entry → Option (Option AgentFault)
fault_logged o c h (Answer n run fault) = if is_client_of c (client_of_discovery o h n) then Some fault else None
fault_logged o c h _ = None

-- how all requests of a client ended, in order
abbrev pub ends_logged : Opening → ℕ → List Entry → List (Status × ℕ)
ends_logged o c h = filter_map (end_logged o c h) h

-- how all discoveries of a client ended, in order
abbrev pub faults_logged : Opening → ℕ → List Entry → List (Option AgentFault)
faults_logged o c h = filter_map (fault_logged o c h) h

-- the client received the outcomes of all its requests and discoveries that ended, in order, and each ended like this
-- in the log
pub record AreLogged (o : Opening) (h : List Entry) (c : ℕ) (told : Outcomes) : Type 0 where
  pub requests : ends_logged o c h ≡ map end_told told.requests.items
  pub discoveries : faults_logged o c h ≡ map (λ (d : Discovered). d.fault) told.discoveries.items

-- each of these clients, numbered from c on, received the outcomes of all its requests and discoveries that ended in
-- the log, in order
abbrev pub AllLogged : Opening → List Entry → ℕ → List Outcomes → Type 0
AllLogged o h c [] = Unit {0}
AllLogged o h c (told ∷ later) = AreLogged o h c told × AllLogged o h (c + 1) later

-- the log is legal, and keeps all that clients are promised of a legal log. Each of these clients, numbered from 0,
-- received the outcomes of all its requests and discoveries that ended in it
pub record IsLogOf (opening : Opening) (entries : List Entry) (told : List Outcomes) : Type 0 where
  pub legal : Legal opening entries
  pub promised : LegalPromised opening entries
  pub logged : AllLogged opening entries 0 told
