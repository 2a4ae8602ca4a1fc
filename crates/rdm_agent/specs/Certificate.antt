-- What a run without fault shows about its set.
use Rattle.std.specs.Prelude.{◌≡◌, ◌≢◌, ◌⊎◌, ℕ, ◌<◌, ◌^◌, true, List, [], take, map, replicate, Some}
use Rattle.std.specs.List.{AllByRecursion, before_first}
use Rattle.rdm_wire.specs.Uid.{IsDevice, has, is_within, set_of}
use Rattle.rdm_wire.specs.Devices.{uids_of}
use Rattle.rdm_wire.specs.declared.device.Device.{Device}
use Rattle.rdm_wire.specs.Lists.{EachAfter}
use Rattle.rdm_wire.specs.Honest.{Seen}
use Rattle.rdm_wire.specs.Honest.Asked.{Unmute}
use Rattle.rdm_wire.specs.Honest.Heard.{Failed}
use Rattle.rdm_agent.specs.Run.{muted_by, muted_in, acked_in, read_in, is_branch, AsFirstAcked}
use Rattle.rdm_agent.specs.Run.{InSuccession, IsSilentBranch, IsLostMute}
use Rattle.rdm_agent.specs.declared.kind.Kind.{Kind}
use Rattle.rdm_agent.specs.declared.kind.Kind.TheVariants.{Full, Incremental}
use Rattle.rdm_agent.specs.declared.limits.TheConstants.{TRIES, UNMUTES}

-- the known UIDs that a run of this kind mutes first
abbrev pub known_of : Kind → List ℕ → List ℕ
known_of Full known = []
known_of Incremental known = known

-- a muted UID is a device's, and acknowledged, or muted TRIES times in a row without acknowledgement
pub record IsTried (s : List ℕ) (x : List Seen) (u : ℕ) : Type 0 where
  pub device : IsDevice u
  pub tried : (has s u ≡ true) ⊎ InSuccession TRIES (IsLostMute u) x

-- u is in a range that was branched TRIES times in a row, each time without a byte
pub record IsCleared (x : List Seen) (u : ℕ) : Type 0 where
  pub lo : ℕ
  pub hi : ℕ
  pub within : is_within lo hi u ≡ true
  pub silent : InSuccession TRIES (IsSilentBranch lo hi) x

-- an exchange mutes a known UID, or one that was read before
abbrev pub MutesNamed : List ℕ → List Seen → Seen → Type 0
MutesNamed known before e = (u : ℕ) → muted_by e ≡ Some u → (has known u ≡ true) ⊎ (has (read_in before) u ≡ true)

-- the search shows that the UIDs of all devices are those of s
pub record SearchShows (kind : Kind) (known : List ℕ) (x : List Seen) (s : List ℕ) : Type 0 where
  -- the unmutes first, and no failure
  pub unmutes : take UNMUTES (map (λ e. e.asked) x) ≡ replicate UNMUTES Unmute
  pub no_failure : AllByRecursion (λ e. e.heard ≢ Failed) x
  -- the set is that of the acknowledged UIDs
  pub set : s ≡ set_of (acked_in x)
  pub tried : AllByRecursion (IsTried s x) (muted_in x)
  -- each other UID of all was in a silent range
  pub cleared : (u : ℕ) → u < 2 ^ 48 → (has s u ≡ true) ⊎ IsCleared x u
  -- known UIDs are muted before the first branch, and each other muted one was read by an earlier branch
  pub known_first : AllByRecursion (λ u. has (muted_in (before_first is_branch x)) u ≡ true) (known_of kind known)
  pub read_first : EachAfter (MutesNamed (known_of kind known)) x

-- the devices of s are those of the search, each with the data of its first acknowledgement
pub record Certificate (kind : Kind) (known : List ℕ) (x : List Seen) (s : List Device) : Type 0 where
  pub search : SearchShows kind known x (uids_of s)
  pub first : AsFirstAcked x s
