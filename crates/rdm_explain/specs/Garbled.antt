-- Bytes that no honest line allows, whichever devices are on it.
use Rattle.std.specs.Prelude.{◌≡◌, ◌≢◌, ◌⊎◌, ℕ, true, false, List, ◌∷◌, ◌++◌, length, Option}
use Rattle.std.specs.List.{AllByRecursion}
use Rattle.rdm_wire.specs.Uid.{is_broadcast}
use Rattle.rdm_wire.specs.Honest.{Asked, Heard, Seen, is_acked}
use Rattle.rdm_wire.specs.Honest.Asked.{Unmute, Branch, Mute, Other}
use Rattle.rdm_wire.specs.Honest.Heard.{Failed, Silent, One}
use Rattle.rdm_explain.specs.declared.exchange.Exchange.{Exchange}
use Rattle.rdm_explain.specs.declared.sighting.Sighting.{Sighting}
use Rattle.rdm_explain.specs.Exchanges.{seen_of, seen_all}
use Rattle.rdm_explain.specs.Sightings.{Sighted}

-- u acknowledged a mute in these exchanges, and no unmute came after that, so it is muted if it is still there
pub record StaysMuted (u : ℕ) (x : List Seen) : Type 0 where
  pub front : List Seen
  pub mute : Seen
  pub back : List Seen
  pub whole : x ≡ front ++ mute ∷ back
  pub asked : mute.asked ≡ Mute u
  pub acked : is_acked mute.heard ≡ true
  pub no_unmute : AllByRecursion (λ e. e.asked ≢ Unmute) back

-- After these exchanges this isn't what answers the frame. After a branch of one UID alone, it isn't the text of that
-- UID, or the device is muted, or no device has that UID. After a mute, it doesn't acknowledge it. Of what comes after
-- other frames this says nothing
abbrev pub IsNoAnswer : List Seen → Asked → Heard → Type 0
IsNoAnswer x (Branch lo hi) heard = (lo ≡ hi) × ((heard ≢ One lo) ⊎ (StaysMuted lo x ⊎ (is_broadcast lo ≡ true)))
IsNoAnswer x (Mute u) heard = is_acked heard ≡ false
IsNoAnswer x Unmute heard = ⊥
IsNoAnswer x Other heard = ⊥

-- bytes came after these exchanges that don't answer the frame
pub record IsGarbledExchange (x : List Seen) (e : Seen) : Type 0 where
  pub not_failed : e.heard ≢ Failed
  pub not_silent : e.heard ≢ Silent
  pub no_answer : IsNoAnswer x e.asked e.heard

-- this is such an exchange. The line hasn't failed before
pub record IsGarbled (xs : List Exchange) (at : ℕ) : Type 0 where
  pub front : List Exchange
  pub exchange : Exchange
  pub back : List Exchange
  pub whole : xs ≡ front ++ exchange ∷ back
  pub index : length front ≡ at
  pub no_failure : AllByRecursion (λ e. e.heard ≢ Failed) (seen_all front)
  pub garbled : IsGarbledExchange (seen_all front) (seen_of exchange)

-- no exchange is garbled, or this is the first that is, and so many after it are
abbrev pub FirstGarbled : List Exchange → Option Sighting → Type 0
FirstGarbled xs found = Sighted (IsGarbled xs) (length xs) found
