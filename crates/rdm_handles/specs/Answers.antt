-- The result of a call of the queue in a status, and the status of a collect.
use Rattle.std.specs.Prelude.{ℕ, List, Option, Some, None, Result, Ok, Err, ◌==◌, nat_le, nat_lt, unwrap_or}
use Rattle.std.specs.Prelude.{if◌then◌else◌}
use Rattle.rdm_wire.specs.declared.request.Request.{Request}
use Rattle.rdm_log.specs.declared.entry.ClientId.{ClientId}
use Rattle.rdm_log.specs.declared.entry.Opening.{Opening}
use Rattle.rdm_log.specs.declared.entry.Entry.{Entry}
use Rattle.rdm_log.specs.declared.fault.JoinFault.{JoinFault}
use Rattle.rdm_log.specs.declared.fault.JoinFault.TheVariants as joins
use Rattle.rdm_log.specs.declared.fault.WorkFault.{WorkFault}
use Rattle.rdm_log.specs.declared.fault.WorkFault.TheVariants as works
use Rattle.rdm_log.specs.declared.outcome.OutcomeKind.{OutcomeKind}
use Rattle.rdm_log.specs.declared.outcome.OutcomeKind.TheVariants as kinds
use Rattle.rdm_log.specs.log.History.{next_client}
use Rattle.rdm_log.specs.promises.Outcomes.{oldest_kind}
use Rattle.rdm_queue.specs.promises.Lengths.{oldest_length}
use Rattle.rdm_handles.specs.declared.status.TheConstants as status

-- the fault of a join with this status
abbrev pub join_fault_of : ℕ → Option JoinFault
join_fault_of s =
    if s == status.CLOSED then Some joins.Closed
    else (if s == status.TOO_MANY_CLIENTS then Some joins.TooManyClients
    else (if s == status.NO_PLACES then Some joins.NoPlaces
    else (if s == status.OUT_OF_MEMORY then Some joins.NoMemory
    else (if s == status.LOG_FULL then Some joins.LogFull else None))))

-- the fault of a submit with this status
abbrev pub submit_fault_of : ℕ → Option WorkFault
submit_fault_of s =
    if s == status.CLOSED then Some works.Closed
    else (if s == status.UNKNOWN_CLIENT then Some works.UnknownClient
    else (if s == status.FULL then Some works.Full
    else (if s == status.LOG_FULL then Some works.LogFull else None)))

-- the fault of a discover with this status
abbrev pub ask_fault_of : ℕ → Option WorkFault
ask_fault_of = submit_fault_of

-- the fault if there is one, or else the value
abbrev pub ok_or : {E : Type 0} {A : Type 0} → Option E → A → Result A E
ok_or None x = Ok x
ok_or (Some fault) x = Err fault

-- the result of a join with this status: its fault, or else the client with this number
abbrev pub join_answer : ℕ → ℕ → Result ClientId JoinFault
join_answer s client = ok_or (join_fault_of s) (record { 0 = client })

-- the fault with the request if there is a fault, or else the number
abbrev pub with_request : Request → Option WorkFault → ℕ → Result ℕ (WorkFault × Request)
with_request request None number = Ok number
with_request request (Some fault) number = Err (fault, request)

-- the result of a submit with this status: its fault with the request, or else this number
abbrev pub submit_answer : ℕ → ℕ → Request → Result ℕ (WorkFault × Request)
submit_answer s number request = with_request request (submit_fault_of s) number

-- the result of a discover with this status: its fault, or else this number
abbrev pub ask_answer : ℕ → ℕ → Result ℕ WorkFault
ask_answer s number = ok_or (ask_fault_of s) number

-- the number of an outcome's kind: 0 for a request's, 1 for a discovery's
abbrev pub number_of_outcome_kind : OutcomeKind → ℕ
number_of_outcome_kind kinds.Request = 0
number_of_outcome_kind kinds.Discovery = 1

-- the status of a call that reads a client's oldest outcome: no such client, no outcome, or done
abbrev pub status_of_some : {A : Type 0} → Option A → ℕ
status_of_some None = status.NOTHING
status_of_some (Some x) = status.DONE

-- the status of a call that returns the kind of a client's oldest outcome
abbrev pub oldest_status : Opening → List Entry → ℕ → ℕ
oldest_status o h c =
    if nat_le (next_client o h) c then status.UNKNOWN_CLIENT else status_of_some (oldest_kind o h c)

-- the status of a collect of the first kind, if the oldest outcome is of the second
abbrev pub status_of_kind : OutcomeKind → OutcomeKind → ℕ → ℕ
status_of_kind kinds.Request kinds.Request s = s
status_of_kind kinds.Discovery kinds.Discovery s = s
status_of_kind _ _ s = status.OTHER_OUTCOME

-- the status of a collect of this kind, if this many bytes or devices fit: there is no outcome, it is of the other
-- kind, or it has more
abbrev pub status_of_oldest : OutcomeKind → Option OutcomeKind → ℕ → ℕ → ℕ
status_of_oldest kind None needed room = status.NOTHING
status_of_oldest kind (Some oldest) needed room =
    status_of_kind kind oldest (if nat_lt room needed then status.BUFFER_TOO_SMALL else status.DONE)

-- the status of a collect of this kind for this client, if this many bytes or devices fit
abbrev pub collect_status : Opening → List Entry → ℕ → OutcomeKind → ℕ → ℕ
collect_status o h c kind room =
    if nat_le (next_client o h) c then status.UNKNOWN_CLIENT
    else status_of_oldest kind (oldest_kind o h c) (unwrap_or (oldest_length o h c) 0) room
