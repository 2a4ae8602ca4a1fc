-- A client's rings, and how its calls change them.
use Rattle.std.specs.Prelude.{◌≡◌, ℕ, ◌+◌, Bool, true, false, List, [], ◌∷◌, ◌++◌, length, filter, Option, Some}
use Rattle.std.specs.Prelude.{option_map, slice_get, map, drop}
use Rattle.std.specs.VecDeque.{deque_capacity}
use Rattle.rdm_wire.specs.declared.request.Request.{Request}
use Rattle.rdm_wire.specs.declared.device.Device.{Device}
use Rattle.rdm_agent.specs.declared.fault.AgentFault.{AgentFault}
use Rattle.rdm_queue.specs.declared.client.Client.{Client}
use Rattle.rdm_queue.specs.declared.client.Waiting.{Waiting}
use Rattle.rdm_queue.specs.declared.client.Owed.{Owed}
use Rattle.rdm_queue.specs.declared.client.Owed.TheVariants as owed
use Rattle.rdm_queue.specs.declared.oldest.Oldest.{Oldest}
use Rattle.rdm_queue.specs.promises.Oldest.{outcome_shown}
use Rattle.rdm_log.specs.declared.entry.Entry.{Entry}
use Rattle.rdm_log.specs.declared.entry.Entry.TheVariants.{Finish}
use Rattle.rdm_log.specs.declared.outcome.Completion.{Completion}
use Rattle.rdm_log.specs.declared.outcome.OutcomeKind.{OutcomeKind}
use Rattle.rdm_log.specs.declared.outcome.OutcomeKind.TheVariants as kinds
use Rattle.rdm_log.specs.promises.Outcomes.{OutcomeValue, completion_value, outcome_value}
use Rattle.rdm_log.specs.promises.Outcomes.OutcomeValue.{RequestValue, DiscoveryValue}

-- a discovery's outcome
abbrev pub owes_discovery : Owed → Bool
owes_discovery (owed.Request number done flag) = false
owes_discovery (owed.Discovery number run fault) = true

-- each discovery among the outcomes has its set
abbrev pub HasSets : Client → Type 0
HasSets k = length k.sets.items ≡ length (filter owes_discovery k.outcomes.items)

-- outcomes as their client sees them; the discoveries among them have these sets, in order
unfoldable pub values : List Owed → List (List Device) → List OutcomeValue
values [] sets = []
values (owed.Request number done flag ∷ ds) sets = RequestValue (Some number) (completion_value done) ∷ values ds sets
values (owed.Discovery number run fault ∷ ds) [] =
    DiscoveryValue (Some number) (record { run = run; fault = fault; devices = [] }) ∷ values ds []
values (owed.Discovery number run fault ∷ ds) (set ∷ sets) =
    DiscoveryValue (Some number) (record { run = run; fault = fault; devices = set }) ∷ values ds sets

abbrev pub owed_values : Client → List OutcomeValue
owed_values k = values k.outcomes.items k.sets.items

-- whether an outcome is an answer that may be incomplete
abbrev pub flag_of_owed : Owed → Bool
flag_of_owed (owed.Request number done flag) = flag
flag_of_owed (owed.Discovery number run fault) = false

abbrev pub client_flags : Client → List Bool
client_flags k = map flag_of_owed k.outcomes.items

-- a client's rings are as large as its queue depth needs
pub record HasRings (k : Client) : Type 0 where
  pub waiting : deque_capacity k.waiting ≡ k.places
  pub outcomes : deque_capacity k.outcomes ≡ k.places + 4
  pub sets : k.sets.room ≡ 4

-- a client that has only joined
pub record IsNewClient (places : ℕ) (k : Client) : Type 0 where
  pub places_are : k.places ≡ places
  pub none_waiting : k.waiting.items ≡ []
  pub none_owed : k.outcomes.items ≡ []
  pub no_sets : k.sets.items ≡ []
  pub rings : HasRings k

-- it has the same queue depth, with rings of the same size
pub record SameRings (old new : Client) : Type 0 where
  pub places : new.places ≡ old.places
  pub waiting : deque_capacity new.waiting ≡ deque_capacity old.waiting
  pub outcomes : deque_capacity new.outcomes ≡ deque_capacity old.outcomes
  pub sets : new.sets.room ≡ old.sets.room

-- it has one more request
pub record ClientAccepts (old : Client) (number : ℕ) (request : Request) (new : Client) : Type 0 where
  pub waiting : new.waiting.items ≡ old.waiting.items ++ record { number = number; request = request } ∷ []
  pub outcomes : new.outcomes.items ≡ old.outcomes.items
  pub sets : new.sets.items ≡ old.sets.items
  pub rings : SameRings old new

-- its oldest request was finished with this end, and this entry; its answer may be incomplete, or not
pub record ClientFinishes (old : Client) (done : Completion) (flag : Bool) (entry : Entry) (new : Client) : Type 0 where
  pub oldest : Waiting
  pub waiting : old.waiting.items ≡ oldest ∷ new.waiting.items
  pub outcomes : new.outcomes.items ≡ old.outcomes.items ++ owed.Request oldest.number done flag ∷ []
  pub sets : new.sets.items ≡ old.sets.items
  pub entry_is : entry ≡ Finish oldest.number done.status (length done.bytes.items)
  pub rings : SameRings old new

-- its discovery of this number was answered with this end
pub record ClientAnswers (old : Client) (number run : ℕ) (fault : Option AgentFault) (found : List Device)
    (new : Client) : Type 0 where
  pub waiting : new.waiting.items ≡ old.waiting.items
  pub outcomes : new.outcomes.items ≡ old.outcomes.items ++ owed.Discovery number run fault ∷ []
  pub sets : new.sets.items ≡ old.sets.items ++ found ∷ []
  pub rings : SameRings old new

-- the kind of its oldest outcome
abbrev pub kind_of_owed : Owed → OutcomeKind
kind_of_owed (owed.Request number done flag) = kinds.Request
kind_of_owed (owed.Discovery number run fault) = kinds.Discovery

abbrev pub first_kind_owed : Client → Option OutcomeKind
first_kind_owed k = option_map kind_of_owed (slice_get k.outcomes.items 0)

-- what a look at an outcome shows
abbrev pub value_shown : Oldest → OutcomeValue
value_shown x = outcome_value (outcome_shown x)

-- this was its oldest outcome, and was removed
pub record ClientCollects (old : Client) (outcome : OutcomeValue) (new : Client) : Type 0 where
  pub waiting : new.waiting.items ≡ old.waiting.items
  pub outcomes : owed_values old ≡ outcome ∷ owed_values new
  pub flags : client_flags new ≡ drop 1 (client_flags old)
  pub has_sets : HasSets new
  pub rings : SameRings old new
