-- What a fault shows about its run.
use Rattle.std.specs.Prelude.{◌≡◌, ◌≢◌, ◌⊎◌, ℕ, ◌+◌, ◌≤◌, true, false, ◌&&◌, List, [], ◌∷◌, ◌++◌, length, fold}
use Rattle.std.specs.Prelude.{◌==◌, if◌then◌else◌}
use Rattle.std.specs.List.{AllByRecursion}
use Rattle.rdm_wire.specs.Uid.{IsDevice, has, set_of}
use Rattle.rdm_wire.specs.declared.uid_set.TheConstants.{MOST_DEVICES}
use Rattle.rdm_wire.specs.Lists.{once}
use Rattle.rdm_wire.specs.Honest.{Asked, Heard, Seen, is_acked}
use Rattle.rdm_wire.specs.Honest.Asked.{Unmute, Branch, Mute, Other}
use Rattle.rdm_wire.specs.Honest.Heard.{Failed, Silent, One}
use Rattle.rdm_wire.specs.Noisy.{has_bytes}
use Rattle.rdm_agent.specs.Run.{acked_in, IsLostMute}
use Rattle.rdm_agent.specs.declared.fault.AgentFault.{AgentFault}
use Rattle.rdm_agent.specs.declared.fault.AgentFault.TheVariants.{Corrupt, TooMany, Exhausted, LineFailed, Aborted}
use Rattle.rdm_agent.specs.declared.limits.TheConstants.{TRIES, BAD_ANSWERS}
use Rattle.rdm_agent.specs.declared.search.Search.{Search}
use Rattle.rdm_agent.specs.declared.search.Search.TheVariants.{Steady, Quick}

-- a reply to the branch of u alone that shows neither an empty range nor a device u that wasn't found yet
pub record IsCorruptReply (u : ℕ) (before : List Seen) (heard : Heard) : Type 0 where
  pub not_failed : heard ≢ Failed
  pub not_silent : heard ≢ Silent
  pub not_found : heard ≡ One u → IsDevice u → has (acked_in before) u ≡ true

-- The last branch is of the range of u alone. Either its reply is the last one, and is corrupt. Or its reply is u, and
-- the exchanges after it are TRIES mutes of u, none of them acknowledged and none failed.
pub record IsCorrupt (u : ℕ) (x : List Seen) : Type 0 where
  pub before : List Seen
  pub heard : Heard
  pub mutes : List Seen
  pub whole : x ≡ before ++ record { asked = Branch u u; heard = heard } ∷ mutes
  pub cause : ((mutes ≡ []) × IsCorruptReply u before heard)
      ⊎ ((heard ≡ One u) × (length mutes ≡ TRIES)
      × AllByRecursion (IsLostMute u) mutes × AllByRecursion (λ e. e.heard ≢ Failed) mutes)

-- How often in a row the branch of u alone was answered by bytes, if it was n times before this exchange. Mutes without
-- acknowledgement may come between the branches, and nothing else.
abbrev pub answered_again : ℕ → ℕ → Asked → Heard → ℕ
answered_again u n (Branch lo hi) heard = if has_bytes heard && ((lo == u) && (hi == u)) then n + 1 else 0
answered_again u n (Mute v) heard = if is_acked heard then 0 else n
answered_again u n Unmute heard = 0
answered_again u n Other heard = 0

-- how often in a row it was answered by bytes at the end of a list
abbrev pub answers_in_a_row : ℕ → List Seen → ℕ
answers_in_a_row u x = fold (λ n e. answered_again u n e.asked e.heard) 0 x

-- at some moment of the exchanges this UID, asked alone, had been answered by bytes four times in a row
pub record WasBad (u : ℕ) (x : List Seen) : Type 0 where
  pub before : List Seen
  pub after : List Seen
  pub whole : x ≡ before ++ after
  pub often : 4 ≤ answers_in_a_row u before

-- the same by the run's search: a quick run has asked u alone at least BAD_ANSWERS times in a row
abbrev pub IsCorruptBy : Search → ℕ → List Seen → Type 0
IsCorruptBy Steady u x = IsCorrupt u x
IsCorruptBy Quick u x = IsCorrupt u x × (BAD_ANSWERS ≤ answers_in_a_row u x)

-- a full set of UIDs was acknowledged, and the last exchange acknowledges another
pub record IsOneTooMany (x : List Seen) : Type 0 where
  pub before : List Seen
  pub last : Seen
  pub uid : ℕ
  pub whole : x ≡ before ++ last ∷ []
  pub asked : last.asked ≡ Mute uid
  pub acked : is_acked last.heard ≡ true
  pub full : length (set_of (acked_in before)) ≡ MOST_DEVICES
  pub another : has (acked_in before) uid ≡ false

-- the last event is a failure
pub record EndsFailed (x : List Seen) : Type 0 where
  pub before : List Seen
  pub asked : Asked
  pub whole : x ≡ before ++ record { asked = asked; heard = Failed } ∷ []

-- the budget is used up, and the last reply shows no other cause
pub record IsExhausted (search : Search) (budget : ℕ) (x : List Seen) : Type 0 where
  pub used : length x ≡ budget
  pub not_failed : EndsFailed x → ⊥
  pub not_corrupt : (u : ℕ) → IsCorruptBy search u x → ⊥

-- at most as many UIDs were acknowledged as fit into a set, so all of them are reported
abbrev pub AllReported : List Seen → Type 0
AllReported x = length (once (acked_in x)) ≤ MOST_DEVICES

-- the cause of a fault, for this search and budget; is_aborted says that the run was aborted. Unless the fault is
-- TooMany, all acknowledged UIDs are reported
abbrev pub Cause : Search → ℕ → Type 0 → AgentFault → List Seen → Type 0
Cause search budget is_aborted (Corrupt u) x = IsCorruptBy search u x × AllReported x
Cause search budget is_aborted TooMany x = IsOneTooMany x
Cause search budget is_aborted Exhausted x = IsExhausted search budget x × AllReported x
Cause search budget is_aborted LineFailed x = EndsFailed x × AllReported x
Cause search budget is_aborted Aborted x = is_aborted × AllReported x
