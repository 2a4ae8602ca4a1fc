-- What is proved about the machine, for whole runs.
use Rattle.std.specs.Prelude.{◌≡◌, ◌≢◌, ◌⊎◌, ℕ, ◌<◌, ◌≤◌, ◌^◌, true, List, [], ◌∷◌, length, None, MatchOption}
use Rattle.std.specs.List.{AllByRecursion}
use Rattle.rdm_wire.specs.Uid.{has, IsDevice, IsDeviceSet}
use Rattle.rdm_wire.specs.Honest.{Asked, Seen, HonestTo, HonestTrace}
use Rattle.rdm_wire.specs.Honest.Asked.{Unmute, Branch, Mute, Other}
use Rattle.rdm_wire.specs.Honest.Heard.{Failed}
use Rattle.rdm_wire.specs.HonestOver.{HonestOver}
use Rattle.rdm_wire.specs.Noisy.{NoisyTo, NoisyTrace}
use Rattle.rdm_wire.specs.declared.device.Device.{Device}
use Rattle.rdm_agent.specs.Run.{IsReport, FailureIsLast}
use Rattle.rdm_agent.specs.Certificate.{Certificate}
use Rattle.rdm_agent.specs.Cause.{Cause, IsCorruptBy, EndsFailed, AllReported}
use Rattle.rdm_agent.specs.Machine.{AgentState, Runs, start_by, next_of, fault_of, found_uids, open_ranges}
use Rattle.rdm_agent.specs.declared.kind.Kind.{Kind}
use Rattle.rdm_agent.specs.declared.search.Search.{Search}
use Rattle.rdm_agent.specs.declared.limits.TheConstants.{MOST_RANGES, UNMUTES}

-- whatever the line replies, P holds for each agent b that a run reaches by the exchanges x: a run with this search and
-- kind, and with this known set and budget
abbrev pub OfEachRun : Search → (Kind → List ℕ → ℕ → List Seen → AgentState → Type 0) → Type 0
OfEachRun search P =
    (kind : Kind) (known : List ℕ) (budget : ℕ) (x : List Seen) (b : AgentState) →
    IsDeviceSet known → Runs (start_by search kind known budget) x b → P kind known budget x b

-- u is in each of these sets
abbrev pub IsInEach : ℕ → List (List ℕ) → Type 0
IsInEach u sets = AllByRecursion (λ present. has present u ≡ true) sets

-- u is in one of these sets
abbrev pub IsInOne : ℕ → List (List ℕ) → Type 0
IsInOne u [] = ⊥
IsInOne u (present ∷ sets) = (has present u ≡ true) ⊎ IsInOne u sets

-- a branch, or a mute of a device
abbrev pub IsSearch : Asked → Type 0
IsSearch (Branch lo hi) = (lo ≤ hi) × (hi < 2 ^ 48)
IsSearch (Mute u) = IsDevice u
IsSearch Unmute = ⊥
IsSearch Other = ⊥

-- what is asked after this many exchanges: UNMUTES unmutes first, then branches and mutes of devices
abbrev pub IsInOrder : ℕ → Asked → Type 0
IsInOrder before asked = (before < UNMUTES → asked ≡ Unmute) × (UNMUTES ≤ before → IsSearch asked)

-- it asks in this order, counts its exchanges and stays in its budget
abbrev pub AsksInOrder : Search → Type 0
AsksInOrder search = OfEachRun search (λ kind known budget x b.
    MatchOption (next_of b) (Unit {0}) (IsInOrder (length x)) × (b.frames ≡ length x) × (length x ≤ budget))

-- after a failure it asks nothing
abbrev pub EndsAtFailure : Search → Type 0
EndsAtFailure search = OfEachRun search (λ kind known budget x b. FailureIsLast x × (EndsFailed x → next_of b ≡ None))

-- once its budget is used up it asks nothing
abbrev pub EndsAtBudget : Search → Type 0
EndsAtBudget search = OfEachRun search (λ kind known budget x b. length x ≡ budget → next_of b ≡ None)

-- while it goes on, no exchange has failed, and none shows a corrupt UID
abbrev pub GoesOnSoundly : Search → Type 0
GoesOnSoundly search = OfEachRun search (λ kind known budget x b. next_of b ≢ None →
    AllByRecursion (λ e. e.heard ≢ Failed) x × ((u : ℕ) → IsCorruptBy search u x → ⊥))

-- at any moment it has found what it reports, and while it goes on it has found all acknowledged UIDs
abbrev pub FindsAcknowledged : Search → Type 0
FindsAcknowledged search = OfEachRun search (λ kind known budget x b.
    IsReport x b.found × (next_of b ≢ None → AllReported x))

-- at most MOST_RANGES ranges are open
abbrev pub HasFewRanges : Search → Type 0
HasFewRanges search = OfEachRun search (λ kind known budget x b. open_ranges b.phase ≤ MOST_RANGES)

-- at the end it has its certificate, or its fault's cause, and it reports the acknowledged UIDs
abbrev pub EndsCertified : Search → Type 0
EndsCertified search = OfEachRun search (λ kind known budget x b. next_of b ≡ None →
    MatchOption (fault_of b.phase) (Certificate kind known x b.found) (λ f. Cause search budget ⊥ f x)
    × IsReport x b.found)

-- it has a certificate, of any set, only once it has ended without fault
abbrev pub CertificateIsTheEnd : Search → Type 0
CertificateIsTheEnd search = OfEachRun search (λ kind known budget x b. (s : List Device) → Certificate kind known x s
    → (next_of b ≡ None) × (fault_of b.phase ≡ None))

-- on an honest line a run that ends without fault finds the devices
abbrev pub FindsAll : Search → Type 0
FindsAll search = OfEachRun search (λ kind known budget x b. (present : List ℕ) →
    next_of b ≡ None → fault_of b.phase ≡ None → HonestTrace present x → found_uids b ≡ present)

-- if the line is honest to a device, it finds that device, whatever the others do
abbrev pub FindsEach : Search → Type 0
FindsEach search = OfEachRun search (λ kind known budget x b. (u : ℕ) → next_of b ≡ None → fault_of b.phase ≡ None →
    IsDevice u → HonestTo u x → has (found_uids b) u ≡ true)

-- on an honest line only devices are found, whether the run has ended or not, and whatever its fault
abbrev pub FindsNoPhantom : Search → Type 0
FindsNoPhantom search = OfEachRun search (λ kind known budget x b. (present : List ℕ) (u : ℕ) →
    HonestTrace present x → has (found_uids b) u ≡ true → has present u ≡ true)

-- on a noisy line a run that ends without fault finds the devices, however many exchanges were disturbed
abbrev pub FindsAllInNoise : Search → Type 0
FindsAllInNoise search = OfEachRun search (λ kind known budget x b. (present : List ℕ) →
    next_of b ≡ None → fault_of b.phase ≡ None → NoisyTrace present x → found_uids b ≡ present)

-- if a device follows the rules of a noisy line, it finds that device, whatever the others do
abbrev pub FindsEachInNoise : Search → Type 0
FindsEachInNoise search = OfEachRun search (λ kind known budget x b. (u : ℕ) → next_of b ≡ None →
    fault_of b.phase ≡ None → IsDevice u → NoisyTo u x → has (found_uids b) u ≡ true)

-- on a noisy line only devices are found, whether the run has ended or not, and whatever its fault
abbrev pub FindsNoPhantomInNoise : Search → Type 0
FindsNoPhantomInNoise search = OfEachRun search (λ kind known budget x b. (present : List ℕ) (u : ℕ) →
    NoisyTrace present x → has (found_uids b) u ≡ true → has present u ≡ true)

-- on an honest line whose devices come and leave, a run that ends without fault finds each that was always present
abbrev pub FindsStaying : Search → Type 0
FindsStaying search = OfEachRun search (λ kind known budget x b. (sets : List (List ℕ)) (u : ℕ) →
    next_of b ≡ None → fault_of b.phase ≡ None → HonestOver sets x → IsInEach u sets → has (found_uids b) u ≡ true)

-- on such a line only devices that were present at some exchange are found, whether the run has ended or not
abbrev pub FindsNoStranger : Search → Type 0
FindsNoStranger search = OfEachRun search (λ kind known budget x b. (sets : List (List ℕ)) (u : ℕ) →
    HonestOver sets x → has (found_uids b) u ≡ true → IsInOne u sets)
