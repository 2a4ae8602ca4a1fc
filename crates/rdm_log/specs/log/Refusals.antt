-- Why a join, a submit or a discover is refused: the first fault that applies, of those that a log shows. It shows
-- neither that an allocation failed nor that the log is full.
use Rattle.std.specs.Prelude.{◌≡◌, ℕ, ◌+◌, Bool, ◌||◌, List, length, sum, Option, Some, None, option_map, unwrap_or}
use Rattle.std.specs.Prelude.{nat_lt, nat_le, if◌then◌else◌, slice_index}
use Rattle.rdm_log.specs.declared.entry.ClientId.{ClientId}
use Rattle.rdm_log.specs.declared.entry.Call.{Call}
use Rattle.rdm_log.specs.declared.entry.Call.TheVariants as calls
use Rattle.rdm_log.specs.declared.entry.Opening.{Opening}
use Rattle.rdm_log.specs.declared.entry.Entry.{Entry}
use Rattle.rdm_log.specs.declared.fault.JoinFault.{JoinFault}
use Rattle.rdm_log.specs.declared.fault.JoinFault.TheVariants as join_faults
use Rattle.rdm_log.specs.declared.fault.WorkFault.{WorkFault}
use Rattle.rdm_log.specs.declared.fault.WorkFault.TheVariants as work_faults
use Rattle.rdm_log.specs.declared.work.Work.{Work}
use Rattle.rdm_log.specs.declared.work.Work.TheVariants.{Submit, Discover}
use Rattle.rdm_log.specs.log.History.{is_closed, places, next_request, next_ask}
use Rattle.rdm_log.specs.log.Clients.{outstanding_requests, outstanding_discoveries}

-- the first fault of a join with queue depth n, if the clients have these depths, and may have `greatest` in all
abbrev pub join_fault_at : Bool → List ℕ → ℕ → ℕ → Option JoinFault
join_fault_at closed places greatest n =
    if closed then Some join_faults.Closed
    else (if nat_le 16 (length places) then Some join_faults.TooManyClients
    else (if nat_lt greatest (sum places + n) then Some join_faults.NoPlaces else None))

-- the first fault of a join with queue depth n that a log shows
abbrev pub join_fault : Opening → List Entry → ℕ → Option JoinFault
join_fault o h n = join_fault_at (is_closed o h) (places o h) o.greatest n

-- the first fault of client c's work: the queue is closed, or the client is unknown, or it is full
abbrev pub work_fault_at : Bool → List ℕ → Bool → ℕ → Option WorkFault
work_fault_at closed places is_full c =
    if closed then Some work_faults.Closed
    else (if nat_le (length places) c then Some work_faults.UnknownClient
    else (if is_full then Some work_faults.Full else None))

-- the first fault of a submit by client c, which has this many requests outstanding; `next` is the next number
abbrev pub submit_fault_at : Bool → List ℕ → ℕ → ℕ → ℕ → Option WorkFault
submit_fault_at closed places outstanding next c =
    work_fault_at closed places (nat_le (slice_index places c) outstanding || nat_le 18446744073709551615 next) c

-- the first fault of a submit by client c that a log shows
abbrev pub submit_fault : Opening → List Entry → ℕ → Option WorkFault
submit_fault o h c = submit_fault_at (is_closed o h) (places o h) (outstanding_requests o c h) (next_request o h) c

-- the first fault of a discover by client c, which has this many discoveries outstanding; `next` is the next number
abbrev pub ask_fault_at : Bool → List ℕ → ℕ → ℕ → ℕ → Option WorkFault
ask_fault_at closed places outstanding next c =
    work_fault_at closed places (nat_le 4 outstanding || nat_le 18446744073709551614 next) c

-- the first fault of a discover by client c that a log shows
abbrev pub ask_fault : Opening → List Entry → ℕ → Option WorkFault
ask_fault o h c = ask_fault_at (is_closed o h) (places o h) (outstanding_discoveries o c h) (next_ask o h) c

-- the number of a join's fault
abbrev pub number_of_join_fault : JoinFault → ℕ
number_of_join_fault join_faults.Closed = 1
number_of_join_fault join_faults.TooManyClients = 2
number_of_join_fault join_faults.NoPlaces = 3
number_of_join_fault join_faults.NoMemory = 4
number_of_join_fault join_faults.LogFull = 5

-- the first fault of client c's work that a log shows
abbrev pub work_fault : Opening → List Entry → ℕ → Work → Option WorkFault
work_fault o h c (Submit request) = submit_fault o h c
work_fault o h c (Discover kind) = ask_fault o h c

-- the number of the fault of a submit or a discover
abbrev pub number_of_work_fault : WorkFault → ℕ
number_of_work_fault work_faults.Closed = 1
number_of_work_fault work_faults.UnknownClient = 2
number_of_work_fault work_faults.Full = 3
number_of_work_fault work_faults.LogFull = 4

-- this call of this client is refused with this number, that of its first fault; a join has NoMemory only if no other
-- fault applies
abbrev pub IsRefused : Opening → List Entry → Option ClientId → Call → ℕ → Type 0
IsRefused o h None (calls.Join n) cause =
    cause ≡ number_of_join_fault (unwrap_or (join_fault o h n) join_faults.NoMemory)
IsRefused o h (Some c) (calls.Submit request) cause =
    option_map number_of_work_fault (submit_fault o h c.0) ≡ Some cause
IsRefused o h (Some c) (calls.Discover kind) cause = option_map number_of_work_fault (ask_fault o h c.0) ≡ Some cause
-- a join has no client, and each other call has one
IsRefused o h _ _ cause = ⊥
