-- What each call adds to a log: for each call, one definition relates its result and its block of entries.
use Rattle.std.specs.Prelude.{◌≡◌, ℕ, Bool, true, false, List, [], ◌∷◌, Option, Some, None, Result, Ok, Err}
use Rattle.std.specs.Prelude.{unwrap_or, option_map, if◌then◌else◌, slice_get}
use Rattle.std.specs.List.{AllByRecursion}
use Rattle.arrayvec.specs.ArrayVec.{ArrayVec}
use Rattle.rdm_wire.specs.declared.request.Request.{Request}
use Rattle.rdm_join.specs.declared.event.LineEvent.{LineEvent}
use Rattle.rdm_agent.specs.declared.kind.Kind.{Kind}
use Rattle.rdm_log.specs.declared.entry.ClientId.{ClientId}
use Rattle.rdm_log.specs.declared.entry.Call.{Call}
use Rattle.rdm_log.specs.declared.entry.Call.TheVariants as calls
use Rattle.rdm_log.specs.declared.entry.Owner.{Owner}
use Rattle.rdm_log.specs.declared.entry.Opening.{Opening}
use Rattle.rdm_log.specs.declared.entry.Entry.{Entry}
use Rattle.rdm_log.specs.declared.entry.Entry.TheVariants.{Join, Refuse, Accept, Ask, Send, Came, Finish}
use Rattle.rdm_log.specs.declared.entry.Entry.TheVariants.{Answer, Collect, Pause, Resume, Close}
use Rattle.rdm_log.specs.declared.fault.JoinFault.{JoinFault}
use Rattle.rdm_log.specs.declared.fault.JoinFault.TheVariants as join_faults
use Rattle.rdm_log.specs.declared.fault.WorkFault.{WorkFault}
use Rattle.rdm_log.specs.declared.fault.WorkFault.TheVariants as work_faults
use Rattle.rdm_log.specs.declared.fault.LogFull.{LogFull}
use Rattle.rdm_log.specs.declared.fault.NotAsked.{NotAsked}
use Rattle.rdm_wire.specs.declared.fault.NoMemory.{NoMemory}
use Rattle.rdm_log.specs.declared.outcome.Outcome.{Outcome}
use Rattle.rdm_log.specs.declared.outcome.BoxedOutcome.{BoxedOutcome}
use Rattle.rdm_log.specs.declared.outcome.OutcomeKind.TheVariants as kinds
use Rattle.rdm_log.specs.declared.work.Work.{Work}
use Rattle.rdm_log.specs.declared.work.Work.TheVariants.{Submit, Discover}
use Rattle.rdm_log.specs.log.History.{awaited, is_closed, can_pause, can_resume, next_client, next_request}
use Rattle.rdm_log.specs.log.History.{next_ask}
use Rattle.rdm_log.specs.log.Clients.{uncollected}
use Rattle.rdm_log.specs.log.Refusals.{join_fault, submit_fault, work_fault, number_of_join_fault}
use Rattle.rdm_log.specs.log.Refusals.{number_of_work_fault}
use Rattle.rdm_log.specs.log.MaySend.{MaySend, NoSend}
use Rattle.rdm_log.specs.log.LogState.{LogState, grown, is_full_log}
use Rattle.rdm_log.specs.promises.Outcomes.{outcome_value, outcome_of, unboxed, oldest_kind}
use Rattle.rdm_log.specs.promises.InBound.{AnswersInBound}

-- the entry of a refused join
abbrev pub join_refused : ℕ → JoinFault → Entry
join_refused n fault = Refuse None (calls.Join n) (record { 0 = number_of_join_fault fault })

-- the entry of accepted work
abbrev pub work_accepted : ClientId → ℕ → Work → Entry
work_accepted c n (Submit request) = Accept c n request
work_accepted c n (Discover kind) = Ask c n kind

-- the call that brings work
abbrev pub call_of : Work → Call
call_of (Submit request) = calls.Submit request
call_of (Discover kind) = calls.Discover kind

-- the entry of refused work
abbrev pub work_refused : ClientId → Work → WorkFault → Entry
work_refused c work fault = Refuse (Some c) (call_of work) (record { 0 = number_of_work_fault fault })

-- the entry of a refused submit, and of a refused discover
abbrev pub submit_refused : ClientId → Request → WorkFault → Entry
submit_refused c request fault = work_refused c (Submit request) fault

abbrev pub ask_refused : ClientId → Kind → WorkFault → Entry
ask_refused c kind fault = work_refused c (Discover kind) fault

-- the next number of a request, or of a discovery
abbrev pub next_number : Opening → List Entry → Work → ℕ
next_number o h (Submit request) = next_request o h
next_number o h (Discover kind) = next_ask o h

-- the fault is the first that applies, or NoMemory if none does
abbrev pub RefusesJoin : Option JoinFault → JoinFault → Type 0
RefusesJoin first fault = fault ≡ unwrap_or first join_faults.NoMemory

-- a Finish or an Answer
abbrev pub is_result : Entry → Bool
is_result (Finish n status len) = true
is_result (Answer n run fault) = true
is_result _ = false

-- there are only Finishes and Answers
abbrev pub AllResults : List Entry → Type 0
AllResults block = AllByRecursion (λ r. is_result r ≡ true) block

-- the entry, and then Finishes and Answers
pub record IsWithResults (e : Entry) (block : List Entry) : Type 0 where
  pub results : List Entry
  pub whole : block ≡ e ∷ results
  pub each : AllResults results

-- the outcome is that of the client's oldest uncollected answer
pub record IsOldest (o : Opening) (h : List Entry) (c : ℕ) (outcome : Outcome) : Type 0 where
  pub entry : Entry
  pub oldest : slice_get (uncollected o c h) 0 ≡ Some entry
  pub told : outcome_of h entry ≡ Some (outcome_value outcome)

-- an entry if the call has an effect, or else none
abbrev pub SwitchAdds : Bool → Entry → List Entry → Type 0
SwitchAdds has_effect e block = block ≡ (if has_effect then e ∷ [] else [])

-- The calls of a controller, after a history: what each returns, and the block that it adds.
-- a join: the next client and its Join, only if no fault applies; or the first fault that applies, NoMemory if none
-- does, and a Refuse with the number of that fault
abbrev pub JoinAdds : Opening → List Entry → ℕ → Result ClientId JoinFault → List Entry → Type 0
JoinAdds o h n (Ok c) block = (join_fault o h n ≡ None) × (c.0 ≡ next_client o h) × (block ≡ Join c n ∷ [])
JoinAdds o h n (Err fault) block = RefusesJoin (join_fault o h n) fault × (block ≡ join_refused n fault ∷ [])

-- work: accepted with the next number, or refused with the first fault
abbrev pub WorkAdds : Opening → List Entry → ClientId → Work → Result ℕ WorkFault → List Entry → Type 0
WorkAdds o h c work (Ok n) block =
    (work_fault o h c.0 work ≡ None) × (n ≡ next_number o h work) × (block ≡ work_accepted c n work ∷ [])
WorkAdds o h c work (Err fault) block =
    (work_fault o h c.0 work ≡ Some fault) × (block ≡ work_refused c work fault ∷ [])

-- a submit is work; a refused request is returned
abbrev pub SubmitAdds : Opening → List Entry → ClientId → Request → Result ℕ (WorkFault × Request)
    → List Entry → Type 0
SubmitAdds o h c request (Ok n) block = WorkAdds o h c (Submit request) (Ok n) block
SubmitAdds o h c request (Err e) block =
    (submit_fault o h c.0 ≡ Some e.0) × (e.1 ≡ request) × (block ≡ submit_refused c request e.0 ∷ [])

-- a discover is work
abbrev pub DiscoverAdds : Opening → List Entry → ClientId → Kind → Result ℕ WorkFault → List Entry → Type 0
DiscoverAdds o h c kind result block = WorkAdds o h c (Discover kind) result block

-- a pause: a Pause if it has an effect, or else nothing
abbrev pub PauseAdds : Opening → List Entry → List Entry → Type 0
PauseAdds o h block = SwitchAdds (can_pause o h) Pause block

-- a resume: a Resume if it has an effect, or else nothing
abbrev pub ResumeAdds : Opening → List Entry → List Entry → Type 0
ResumeAdds o h block = SwitchAdds (can_resume o h) Resume block

-- a close adds nothing if the queue is closed; otherwise it adds a Close, and then Finishes and Answers
abbrev pub CloseAddsWhere : Bool → List Entry → Type 0
CloseAddsWhere true block = block ≡ []
CloseAddsWhere false block = IsWithResults Close block

-- a close after h: what it adds depends on whether the queue is closed already
abbrev pub CloseAdds : Opening → List Entry → List Entry → Type 0
CloseAdds o h block = CloseAddsWhere (is_closed o h) block

-- a take: a frame that may be sent, and its Send; or no frame, since none may be sent
abbrev pub TakeAdds : Opening → List Entry → Option (ArrayVec ℕ) → List Entry → Type 0
TakeAdds o h (Some frame) block = (owner : Owner) × MaySend o h owner frame × (block ≡ Send owner frame ∷ [])
TakeAdds o h None block = NoSend o h × (block ≡ [])

-- a deliver: if a reply is awaited, a Came with the event, and then Finishes and Answers; an Answer by a calm or noisy
-- run has a fault only if the queue is closed. Otherwise the event is returned, and nothing is added
abbrev pub DeliverAdds : LogState → LineEvent → Result (Unit {0}) (NotAsked × LineEvent) → List Entry → Type 0
DeliverAdds k event (Ok x) block =
    (awaited k.entries ≡ true) × IsWithResults (Came event) block × AnswersInBound k block
DeliverAdds k event (Err e) block = (awaited k.entries ≡ false) × (e.1 ≡ event) × (block ≡ [])

-- a collect: the client's oldest uncollected outcome, and a Collect; or nothing, since there is none
abbrev pub CollectAdds : Opening → List Entry → ClientId → Option Outcome → List Entry → Type 0
CollectAdds o h c (Some outcome) block = IsOldest o h c.0 outcome × (block ≡ Collect c ∷ [])
CollectAdds o h c None block = (uncollected o c.0 h ≡ []) × (block ≡ [])

-- some calls of a session: the first statement holds if the log is full, and the second if it isn't
abbrev pub UnlessFull : Bool → Type 0 → Type 0 → Type 0
UnlessFull true refuses adds = refuses
UnlessFull false refuses adds = adds

-- The calls of a session: if the log is full, LogFull is returned and nothing is added; otherwise as a controller's.
-- a join of a session: LogFull and no entry if the log is full, otherwise the result and block of a controller's join
abbrev pub JoinLogs : LogState → ℕ → Result ClientId JoinFault → List Entry → Type 0
JoinLogs k n answer block =
    UnlessFull (is_full_log k) ((answer ≡ Err join_faults.LogFull) × (block ≡ []))
    (JoinAdds k.opening k.entries n answer block)

-- a submit of a session: LogFull if the log is full, otherwise as a controller's
abbrev pub SubmitLogs : LogState → ClientId → Request → Result ℕ (WorkFault × Request) → List Entry → Type 0
SubmitLogs k c request answer block =
    UnlessFull (is_full_log k) ((answer ≡ Err (work_faults.LogFull, request)) × (block ≡ []))
    (SubmitAdds k.opening k.entries c request answer block)

-- work of a session: LogFull if the log is full, otherwise as a controller's
abbrev pub WorkLogs : LogState → ClientId → Work → Result ℕ WorkFault → List Entry → Type 0
WorkLogs k c work answer block =
    UnlessFull (is_full_log k) ((answer ≡ Err work_faults.LogFull) × (block ≡ []))
    (WorkAdds k.opening k.entries c work answer block)

-- a discover of a session is work
abbrev pub DiscoverLogs : LogState → ClientId → Kind → Result ℕ WorkFault → List Entry → Type 0
DiscoverLogs k c kind answer block = WorkLogs k c (Discover kind) answer block

-- the number, or the fault without what is returned with it
abbrev pub number_or_fault : {X : Type 0} → Result ℕ (WorkFault × X) → Result ℕ WorkFault
number_or_fault (Ok n) = Ok n
number_or_fault (Err e) = Err e.0

-- a pause of a session: an error if the log is full, otherwise as a controller's
abbrev pub PauseLogs : LogState → Result (Unit {0}) LogFull → List Entry → Type 0
PauseLogs k (Ok x) block = (is_full_log k ≡ false) × PauseAdds k.opening k.entries block
PauseLogs k (Err x) block = (is_full_log k ≡ true) × (block ≡ [])

-- a resume of a session: an error if the log is full, otherwise as a controller's
abbrev pub ResumeLogs : LogState → Result (Unit {0}) LogFull → List Entry → Type 0
ResumeLogs k (Ok x) block = (is_full_log k ≡ false) × ResumeAdds k.opening k.entries block
ResumeLogs k (Err x) block = (is_full_log k ≡ true) × (block ≡ [])

-- a take of a session: an error if the log is full, otherwise as a controller's
abbrev pub TakeLogs : LogState → Result (Option (ArrayVec ℕ)) LogFull → List Entry → Type 0
TakeLogs k (Ok taken) block = (is_full_log k ≡ false) × TakeAdds k.opening k.entries taken block
TakeLogs k (Err x) block = (is_full_log k ≡ true) × (block ≡ [])

-- a collect among events: the outcome and the block of a controller's collect; or NoMemory and no entry, only if the
-- client's oldest uncollected outcome is a discovery's
abbrev pub CollectLogs : LogState → ClientId → Result (Option BoxedOutcome) NoMemory → List Entry → Type 0
CollectLogs k c (Ok given) block = CollectAdds k.opening k.entries c (option_map unboxed given) block
CollectLogs k c (Err x) block = (oldest_kind k.opening k.entries c.0 ≡ Some kinds.Discovery) × (block ≡ [])

-- new is old with one more block, for which this holds
pub record GrowsBy (old : LogState) (Adds : List Entry → Type 0) (new : LogState) : Type 0 where
  pub block : List Entry
  pub adds : Adds block
  pub grows : new ≡ grown old block
