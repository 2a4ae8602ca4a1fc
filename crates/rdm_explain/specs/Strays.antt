-- Bytes that came although no device of two lists was due to send any.
use Rattle.std.specs.Prelude.{◌≡◌, ◌≢◌, ℕ, Bool, true, false, List, [], ◌∷◌, ◌++◌, length, Option}
use Rattle.std.specs.List.{AllByRecursion}
use Rattle.rdm_wire.specs.Uid.{has, is_within}
use Rattle.rdm_wire.specs.Honest.{Asked, LineState, Seen, HonestTo, HonestToStep, before_run}
use Rattle.rdm_wire.specs.Honest.Asked.{Unmute, Branch, Mute, Other}
use Rattle.rdm_wire.specs.Honest.Heard.{Failed, Silent}
use Rattle.rdm_explain.specs.declared.exchange.Exchange.{Exchange}
use Rattle.rdm_explain.specs.declared.sighting.Sighting.{Sighting}
use Rattle.rdm_explain.specs.Exchanges.{seen_of, seen_all}
use Rattle.rdm_explain.specs.Garbled.{StaysMuted}
use Rattle.rdm_explain.specs.Sightings.{Sighted}

-- a line that is honest to u leads by these exchanges from the one state to the other
abbrev pub Leads : ℕ → LineState → List Seen → LineState → Type 0
Leads u old [] end = old ≡ end
Leads u old (e ∷ x) end = (new : LineState) × HonestToStep u old e.asked e.heard new × Leads u new x end

-- on a line that is honest to u, it may be unmuted after these exchanges
pub record MayBeUnmuted (u : ℕ) (x : List Seen) : Type 0 where
  pub muted : ℕ → Bool
  pub end : LineState
  pub leads : Leads u (before_run muted) x end
  pub unmuted : end.muted u ≡ false

-- on a line that is honest to u, it is muted after these exchanges
pub record IsMuted (u : ℕ) (x : List Seen) : Type 0 where
  pub honest : HonestTo u x
  pub muted : MayBeUnmuted u x → ⊥

-- No device is due to answer after these exchanges. Those of `us` are on the line during the whole run: each is outside
-- of the range of a branch, or muted. Those of `ps` come or leave: each is outside, or acknowledged a mute, and no
-- unmute came after that. The UID that is to be muted is in neither list. What comes after other frames is never
-- counted
abbrev pub NobodyIsDue : (us ps : List ℕ) → List Seen → Asked → Type 0
NobodyIsDue us ps x (Branch lo hi) =
    AllByRecursion (λ u. is_within lo hi u ≡ true → IsMuted u x) us
    × AllByRecursion (λ u. is_within lo hi u ≡ true → StaysMuted u x) ps
NobodyIsDue us ps x (Mute u) = (has us u ≡ false) × (has ps u ≡ false)
NobodyIsDue us ps x Unmute = ⊥
NobodyIsDue us ps x Other = ⊥

-- this branch or mute was answered although no device of the lists was due. The line hasn't failed before
pub record IsStray (us ps : List ℕ) (xs : List Exchange) (at : ℕ) : Type 0 where
  pub front : List Exchange
  pub exchange : Exchange
  pub back : List Exchange
  pub whole : xs ≡ front ++ exchange ∷ back
  pub index : length front ≡ at
  pub no_failure : AllByRecursion (λ e. e.heard ≢ Failed) (seen_all front)
  pub not_failed : (seen_of exchange).heard ≢ Failed
  pub not_silent : (seen_of exchange).heard ≢ Silent
  pub nobody : NobodyIsDue us ps (seen_all front) (seen_of exchange).asked

-- no exchange is stray, or this is the first that is, and so many after it are
abbrev pub FirstStray : (us ps : List ℕ) → List Exchange → Option Sighting → Type 0
FirstStray us ps xs found = Sighted (IsStray us ps xs) (length xs) found
