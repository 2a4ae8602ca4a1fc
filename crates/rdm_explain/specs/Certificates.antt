-- The parts of a certificate, and the first place where each of them fails.
use Rattle.std.specs.Prelude.{◌≡◌, ◌≢◌, ℕ, ◌+◌, ◌<◌, true, List, ◌∷◌, ◌++◌, length}
use Rattle.std.specs.Prelude.{take, map, replicate, Option, Some, None}
use Rattle.std.specs.List.{AllByRecursion, before_first}
use Rattle.rdm_wire.specs.Uid.{has, set_of}
use Rattle.rdm_wire.specs.Devices.{uids_of, device_with}
use Rattle.rdm_wire.specs.declared.device.Device.{Device}
use Rattle.rdm_wire.specs.Lists.{EachAfter}
use Rattle.rdm_wire.specs.Honest.{Seen}
use Rattle.rdm_wire.specs.Honest.Asked.{Unmute}
use Rattle.rdm_wire.specs.Honest.Heard.{Failed}
use Rattle.rdm_agent.specs.Run.{muted_in, acked_in, devices_in, is_branch}
use Rattle.rdm_agent.specs.Certificate.{IsTried, MutesNamed}
use Rattle.rdm_agent.specs.declared.limits.TheConstants.{UNMUTES}
use Rattle.rdm_explain.specs.declared.exchange.Exchange.{Exchange}
use Rattle.rdm_explain.specs.declared.certificate.RunFinding.{RunFinding}
use Rattle.rdm_explain.specs.declared.certificate.KnownFinding.{KnownFinding}
use Rattle.rdm_explain.specs.Exchanges.{seen_all}
use Rattle.rdm_explain.specs.Covers.{FirstUncovered, LastUncovered}

-- the exchanges before this one have P, and those up to it don't, nor do all of them
pub record IsFirstWithout (P : List Seen → Type 0) (xs : List Exchange) (at : ℕ) : Type 0 where
  pub within : at < length xs
  pub before : P (seen_all (take at xs))
  pub here : P (seen_all (take (at + 1) xs)) → ⊥
  pub never : P (seen_all xs) → ⊥

-- the exchanges have P, or this is the first with which they don't
abbrev pub FirstWithout : (List Seen → Type 0) → List Exchange → Option ℕ → Type 0
FirstWithout P xs None = P (seen_all xs)
FirstWithout P xs (Some at) = IsFirstWithout P xs at

-- x is an element that doesn't have P, and each before it does
pub record IsFirstElementWithout {X : Type 0} (P : X → Type 0) (xs : List X) (x : X) : Type 0 where
  pub front : List X
  pub back : List X
  pub whole : xs ≡ front ++ x ∷ back
  pub before : AllByRecursion P front
  pub here : P x → ⊥

-- each element has P, or this is the first that doesn't
abbrev pub FirstElementWithout : {X : Type 0} → (X → Type 0) → List X → Option X → Type 0
FirstElementWithout P xs None = AllByRecursion P xs
FirstElementWithout P xs (Some x) = IsFirstElementWithout P xs x

-- the first n exchanges are unmutes
abbrev pub BeginsByUnmutes : ℕ → List Seen → Type 0
BeginsByUnmutes n x = take n (map (λ e. e.asked) x) ≡ replicate n Unmute

-- of the unmutes that begin a run this is the first that is missing
pub record IsFirstMissing (x : List Seen) (at : ℕ) : Type 0 where
  pub few : at < UNMUTES
  pub before : BeginsByUnmutes at x
  pub here : BeginsByUnmutes (at + 1) x → ⊥
  pub never : BeginsByUnmutes UNMUTES x → ⊥

-- the first of the three unmutes that begin a run that is missing, if any is
abbrev pub FirstMissing : List Exchange → Option ℕ → Type 0
FirstMissing xs None = BeginsByUnmutes UNMUTES (seen_all xs)
FirstMissing xs (Some at) = IsFirstMissing (seen_all xs) at

-- no exchange failed
abbrev pub NoFailure : List Seen → Type 0
NoFailure x = AllByRecursion (λ e. e.heard ≢ Failed) x

-- u is the least UID that was acknowledged and isn't in s, or is in s and wasn't acknowledged
pub record IsFirstMisreported (s : List ℕ) (x : List Seen) (u : ℕ) : Type 0 where
  pub here : has s u ≢ has (acked_in x) u
  pub before : (v : ℕ) → v < u → has s v ≡ has (acked_in x) v
  pub never : s ≡ set_of (acked_in x) → ⊥

-- s is the set of the acknowledged UIDs, or this is the first that it has or lacks wrongly
abbrev pub FirstMisreported : List ℕ → List Exchange → Option ℕ → Type 0
FirstMisreported s xs None = s ≡ set_of (acked_in (seen_all xs))
FirstMisreported s xs (Some u) = IsFirstMisreported s (seen_all xs) u

-- the UIDs that are muted in x are tried in the whole run
abbrev pub AreTried : List Seen → List Seen → Type 0
AreTried whole x = AllByRecursion (IsTried (set_of (acked_in whole)) whole) (muted_in x)

-- a device with the data of its first acknowledgement
abbrev pub IsAsFirstAcked : List Seen → Device → Type 0
IsAsFirstAcked x d = device_with (devices_in x) d.uid ≡ Some d

-- a known UID that is muted before the first branch
abbrev pub IsMutedFirst : List Seen → ℕ → Type 0
IsMutedFirst x u = has (muted_in (before_first is_branch x)) u ≡ true

-- each muted UID is known, or was read before
abbrev pub MutesAreNamed : List ℕ → List Seen → Type 0
MutesAreNamed known x = EachAfter (MutesNamed known) x

-- the parts of the certificate of s that need no known UIDs
pub record ExplainsRun (s : List Device) (xs : List Exchange) (f : RunFinding) : Type 0 where
  pub unmutes : FirstMissing xs f.missing_unmute
  pub no_failure : FirstWithout NoFailure xs f.failure
  pub set : FirstMisreported (uids_of s) xs f.misreported
  pub tried : FirstWithout (AreTried (seen_all xs)) xs f.untried
  pub cleared : FirstUncovered xs f.uncovered
  -- the end of the first range that isn't covered
  pub ends : LastUncovered xs f.uncovered f.uncovered_to
  pub first : FirstElementWithout (IsAsFirstAcked (seen_all xs)) s f.other_data

-- the parts of the certificate that need the UIDs that the run was to mute first
pub record ExplainsKnown (known : List ℕ) (xs : List Exchange) (f : KnownFinding) : Type 0 where
  pub known_first : FirstElementWithout (IsMutedFirst (seen_all xs)) known f.not_muted_first
  pub read_first : FirstWithout (MutesAreNamed known) xs f.unread

-- no part fails
pub record IsComplete (f : RunFinding) : Type 0 where
  pub unmutes : f.missing_unmute ≡ None
  pub no_failure : f.failure ≡ None
  pub set : f.misreported ≡ None
  pub tried : f.untried ≡ None
  pub cleared : f.uncovered ≡ None
  pub first : f.other_data ≡ None

pub record IsKnownComplete (f : KnownFinding) : Type 0 where
  pub known_first : f.not_muted_first ≡ None
  pub read_first : f.unread ≡ None
