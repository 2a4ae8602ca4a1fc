-- What one client called, which outcomes it collects, and what is reported to it.
use Rattle.std.specs.Prelude.{ℕ, Bool, false, ◌&&◌, ◌||◌, List, [], filter, Option, Some, None, ◌==◌, slice_get}
use Rattle.std.specs.Prelude.{option_and_then}
use Rattle.rdm_wire.specs.declared.device.Device.{Device}
use Rattle.rdm_join.specs.declared.status.Status.{Status}
use Rattle.rdm_join.specs.declared.status.Status.TheVariants.{Completed, FailedToSend}
use Rattle.rdm_join.specs.Result.{Joined, ended}
use Rattle.rdm_agent.specs.declared.fault.AgentFault.{AgentFault}
use Rattle.rdm_agent.specs.declared.fault.AgentFault.TheVariants.{Aborted}
use Rattle.rdm_log.specs.declared.entry.ClientId.{ClientId}
use Rattle.rdm_log.specs.declared.entry.Call.{Call}
use Rattle.rdm_log.specs.declared.entry.Call.TheVariants as calls
use Rattle.rdm_log.specs.declared.entry.Opening.{Opening}
use Rattle.rdm_log.specs.declared.entry.Entry.{Entry}
use Rattle.rdm_log.specs.declared.entry.Entry.TheVariants.{Refuse, Finish, Answer}
use Rattle.rdm_log.specs.declared.outcome.Completion.{Completion}
use Rattle.rdm_log.specs.declared.outcome.AskCompletion.{AskCompletion}
use Rattle.rdm_log.specs.declared.outcome.Outcome.{Outcome}
use Rattle.rdm_log.specs.declared.outcome.Outcome.TheVariants as outcomes
use Rattle.rdm_log.specs.declared.outcome.BoxedOutcome.{BoxedOutcome}
use Rattle.rdm_log.specs.declared.outcome.BoxedOutcome.TheVariants as boxed
use Rattle.rdm_log.specs.declared.outcome.OutcomeKind.{OutcomeKind}
use Rattle.rdm_log.specs.declared.outcome.OutcomeKind.TheVariants as kinds
use Rattle.rdm_log.specs.declared.outcome.DiscoveryEnd.{DiscoveryEnd}
use Rattle.rdm_log.specs.log.Entries.{result}
use Rattle.rdm_log.specs.log.Clients.{is_answer_to, uncollected}
use Rattle.rdm_log.specs.log.Runs.{answer_devices}
use Rattle.rdm_log.specs.log.Refusals.{number_of_join_fault, number_of_work_fault}
use Rattle.rdm_log.specs.declared.fault.JoinFault.TheVariants as join_faults
use Rattle.rdm_log.specs.declared.fault.WorkFault.TheVariants as work_faults

-- whether an entry's client is c
abbrev pub is_client : ℕ → Option ClientId → Bool
is_client c None = false
is_client c (Some d) = c == d.0

-- the number of the fault with which a closed queue refuses a call
abbrev pub closed_number : Call → ℕ
closed_number (calls.Join places) = number_of_join_fault join_faults.Closed
closed_number (calls.Submit request) = number_of_work_fault work_faults.Closed
closed_number (calls.Discover kind) = number_of_work_fault work_faults.Closed

-- whether an entry refuses a call of the client because the queue is closed
abbrev pub is_closed_refusal : ℕ → Entry → Bool
is_closed_refusal c (Refuse d call cause) = (cause.0 == closed_number call) && is_client c d
is_closed_refusal c _ = false

-- what is reported to a client, in order: its Finishes and Answers, and what a closed queue refused
abbrev pub told : Opening → ℕ → List Entry → List Entry
told o c h = filter (λ e. is_answer_to o c h e || is_closed_refusal c e) h

-- how a discovery ended: the run that served it, its fault, and the devices that the run reports
pub record Discovered : Type 0 where
  pub run : ℕ
  pub fault : Option AgentFault
  pub devices : List Device

-- an outcome as its client sees it: vectors with the same bytes are equal
pub data OutcomeValue : Type 0 where
  RequestValue : Option ℕ → Joined → OutcomeValue
  DiscoveryValue : Option ℕ → Discovered → OutcomeValue

-- the completion of a request, as its client sees it
abbrev pub completion_value : Completion → Joined
completion_value done = record { status = done.status; data_ = done.bytes.items; head = done.reply }

-- the completion of a discovery, as its client sees it
abbrev pub discovered : AskCompletion → Discovered
discovered done = record { run = done.run; fault = done.fault; devices = done.set }

-- an outcome, as its client sees it
abbrev pub outcome_value : Outcome → OutcomeValue
outcome_value (outcomes.Request number done) = RequestValue number (completion_value done)
outcome_value (outcomes.Discovery number done) = DiscoveryValue number (discovered done)

-- the outcome of a request with this number and completion
abbrev pub request_outcome : ℕ × Completion → Outcome
request_outcome r = outcomes.Request (Some r.0) r.1

-- the outcome of a discovery that ended like this, whose run found these devices
abbrev pub discovery_outcome : DiscoveryEnd → List Device → Outcome
discovery_outcome end set =
    outcomes.Discovery (Some end.number) (record { run = end.run; fault = end.fault; set = set })

-- the outcome that the boxed one represents: its set of devices is taken out of the box
abbrev pub unboxed : BoxedOutcome → Outcome
unboxed (boxed.Request number done) = request_outcome (number, done)
unboxed (boxed.Discovery end set) = discovery_outcome end set.value

-- the completion with this status: for Completed, with the joined data and the last reply's head
abbrev pub completion_of : Status → Option Joined → Joined
completion_of Completed (Some j) = record { status = Completed; data_ = j.data_; head = j.head }
completion_of status _ = ended status

-- how a discovery ended whose Answer has this run and this fault
abbrev pub discovered_by : ℕ → Option AgentFault → List Entry → Discovered
discovered_by run fault h = record { run = run; fault = fault; devices = answer_devices run h }

-- how a discovery ended for which no run was begun
abbrev pub never_begun : Discovered
never_begun = record { run = 0; fault = Some Aborted; devices = [] }

-- the outcome of a call that a closed queue refused; a join has none
abbrev pub refused_outcome : Call → Option OutcomeValue
refused_outcome (calls.Submit request) = Some (RequestValue None (completion_of FailedToSend None))
refused_outcome (calls.Discover kind) = Some (DiscoveryValue None never_begun)
refused_outcome (calls.Join places) = None

-- the outcome of a Finish, an Answer or a refusal
abbrev pub outcome_of : List Entry → Entry → Option OutcomeValue
outcome_of h (Finish n status len) = Some (RequestValue (Some n) (completion_of status (result n h)))
outcome_of h (Answer n run fault) = Some (DiscoveryValue (Some n) (discovered_by run fault h))
outcome_of h (Refuse c call cause) = refused_outcome call
outcome_of h _ = None

-- the kind of the outcome of a Finish or an Answer
abbrev pub kind_of_answer : Entry → Option OutcomeKind
kind_of_answer (Finish n status len) = Some kinds.Request
kind_of_answer (Answer n run fault) = Some kinds.Discovery
kind_of_answer _ = None

-- the kind of the client's oldest uncollected outcome
abbrev pub oldest_kind : Opening → List Entry → ℕ → Option OutcomeKind
oldest_kind o h c = option_and_then kind_of_answer (slice_get (uncollected o c h) 0)
