-- The first line of a log: an object with the state before what follows.
use Rattle.std.specs.Prelude.{ℕ, Bool, List, [], ◌∷◌, ◌++◌, Option, Some, None, codes, decimal, ◌==◌}
use Rattle.std.specs.Prelude.{if◌then◌else◌}
use Rattle.rdm_wire.specs.Bytes.{two_bytes}
use Rattle.rdm_wire.specs.UidText.{uid_text}
use Rattle.rdm_wire.specs.declared.device.Device.{Device}
use Rattle.rdm_agent.specs.declared.kind.Kind.{Kind}
use Rattle.rdm_agent.specs.declared.search.Search.{Search}
use Rattle.rdm_agent.specs.declared.search.Search.TheVariants.{Steady, Quick}
use Rattle.rdm_line.specs.Events.{Exchange}
use Rattle.rdm_log.specs.declared.entry.Opening.{Opening}
use Rattle.rdm_log.specs.declared.entry.Entry.{Entry}
use Rattle.rdm_reports.specs.SessionReport.{numbered}
use Rattle.rdm_reports.specs.LogText.{number_member, text_member, bytes_member, kind_member, log_text, exchanges_text}

-- an element of a list, with its index; a comma precedes each but the first
abbrev pub element : {A : Type 0} → (A → List ℕ) → ℕ → A → List ℕ
element text index x = if index == 0 then text x else 44 ∷ text x

-- a key, and the beginning of its list
abbrev pub list_start : List ℕ → List ℕ
list_start key = codes ",\"" ++ key ++ codes "\":" ++ codes "["

-- a key and a list
abbrev pub list_member : {A : Type 0} → List ℕ → (A → List ℕ) → List A → List ℕ
list_member key text xs = list_start key ++ numbered (element text) 0 xs ++ codes "]"

-- a key and a truth value
abbrev pub truth_member : List ℕ → Bool → List ℕ
truth_member key value = codes ",\"" ++ key ++ codes "\":" ++ (if value then codes "true" else codes "false")

-- how runs search, as session files have it
abbrev pub search_member : Search → List ℕ
search_member Steady = text_member (codes "search") (codes "steady")
search_member Quick = text_member (codes "search") (codes "quick")

-- the controller: its UID, how many frames a run may send, and how runs search
abbrev pub controller_members : ℕ → ℕ → Search → List ℕ
controller_members source budget search =
    text_member (codes "source") (uid_text source) ++ number_member (codes "budget") budget ++ search_member search

-- a UID in a list
abbrev pub uid_element : ℕ → List ℕ
uid_element u = codes "\"" ++ uid_text u ++ codes "\""

-- the opening of a discovery's log: the controller, the kind of its run, and the UIDs that it was given
abbrev pub discovery_opening : ℕ → Search → Kind → List ℕ → ℕ → List ℕ
discovery_opening source search kind known budget =
    codes "{\"entry\":\"opening\"" ++ controller_members source budget search ++ kind_member kind
    ++ list_member (codes "known") uid_element known ++ codes "}\n"

-- the binding UID of a device, if it gave one
abbrev pub binding_member : Option ℕ → List ℕ
binding_member None = []
binding_member (Some binding) = text_member (codes "binding") (uid_text binding)

-- the first member of a device in a list
abbrev pub device_start : ℕ → List ℕ
device_start u = codes "{\"uid\":" ++ uid_element u

-- a device in a list, as scene files have it
abbrev pub device_element : Device → List ℕ
device_element d =
    device_start d.uid ++ bytes_member (codes "control") (two_bytes d.control)
    ++ (binding_member d.binding ++ codes "}")

-- the clients: the greatest queue depth, the queue depth of each that had joined, and whether the queue was paused or
-- closed
abbrev pub client_members : Opening → List ℕ
client_members o =
    number_member (codes "greatest") o.greatest ++ list_member (codes "places") decimal o.places.items
    ++ (truth_member (codes "paused") o.paused ++ truth_member (codes "closed") o.closed)

-- the devices of the last run without a fault, and that run's number
abbrev pub found_members : Opening → List ℕ
found_members o =
    list_member (codes "devices") device_element o.devices ++ number_member (codes "devices_run") o.devices_run

-- the next numbers: of a request, a discovery, a run and a transaction
abbrev pub next_members : Opening → List ℕ
next_members o =
    number_member (codes "next_request") o.next_request ++ number_member (codes "next_ask") o.next_ask
    ++ (number_member (codes "next_run") o.next_run ++ number_member (codes "next_tn") o.next_tn)

-- the opening of a session's log. The first entry after it has this number, from 0: that many entries of the session
-- came before
abbrev pub session_opening : Opening → ℕ → List ℕ
session_opening o first =
    codes "{\"entry\":\"opening\"" ++ controller_members o.source o.budget o.search ++ client_members o
    ++ found_members o ++ next_members o ++ number_member (codes "number") first ++ codes "}\n"

-- the log of a discovery: its opening, and its exchanges
abbrev pub discovery_log : ℕ → Search → Kind → List ℕ → ℕ → List Exchange → List ℕ
discovery_log source search kind known budget exchanges =
    discovery_opening source search kind known budget ++ exchanges_text exchanges

-- the log of a session: its opening, and its entries from this number on
abbrev pub session_log : Opening → ℕ → List Entry → List ℕ
session_log o first entries = session_opening o first ++ log_text entries
