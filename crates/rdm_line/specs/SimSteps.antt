-- Consecutive exchanges of the simulated line.
use Rattle.std.specs.Prelude.{◌≡◌, ◌≢◌, ◌↔◌, ℕ, ◌+◌, ◌<◌, List, [], ◌∷◌, ◌++◌, length, Some, None, true}
use Rattle.std.specs.List.{AllByRecursion}
use Rattle.rdm_wire.specs.Uid.{has}
use Rattle.rdm_wire.specs.Span.{Span}
use Rattle.rdm_wire.specs.Commands.{command_read}
use Rattle.rdm_wire.specs.declared.command.Command.TheVariants.{Branch, Mute}
use Rattle.rdm_wire.specs.Honest.{Seen}
use Rattle.rdm_join.specs.Exchange.{seen_event}
use Rattle.rdm_join.specs.declared.event.LineEvent.TheVariants.{Failed}
use Rattle.rdm_line.specs.Events.{Exchange}
use Rattle.rdm_line.specs.Scenes.{present_at, device_at}
use Rattle.rdm_line.specs.Sim.{SimState, SimStep, is_among, answering}

-- an exchange, and the line's state before it
pub record Step : Type 0 where
  pub before : SimState
  pub exchange : Exchange

-- these steps of the simulated line lead from s to new: each begins where the one before it ended
abbrev pub AreSteps : SimState → List Step → SimState → Type 0
AreSteps s [] new = new ≡ s
AreSteps s (x ∷ xs) new = (x.before ≡ s) × (next : SimState) × SimStep x.before x.exchange next × AreSteps next xs new

-- the devices that are present at an exchange
abbrev pub present_in : Step → List ℕ
present_in x = present_at x.before.devices x.before.exchanges

-- an exchange: what was asked, and what was heard
abbrev pub seen_in : Step → Seen
seen_in x = seen_event x.exchange

-- the scene loses the reply in this exchange
abbrev pub is_lost : Step → Type 0
is_lost x = is_among x.before.exchanges x.before.losses ≡ true

-- no exchange changes when which devices are present, nor which exchanges are lost and fail
pub record KeepsScene (s new : SimState) : Type 0 where
  pub present : (i : ℕ) → present_at new.devices i ≡ present_at s.devices i
  pub losses : new.losses ≡ s.losses
  pub fails : new.fails ≡ s.fails

-- the exchange fails if and only if its number is one of these
abbrev pub FailsAsNamed : List ℕ → Step → Type 0
FailsAsNamed fails x = (x.exchange.1 ≡ Failed) ↔ (is_among x.before.exchanges fails ≡ true)

-- a branch that a device is due to answer is lost
pub record LosesBranch (x : Step) : Type 0 where
  pub range : Span
  pub source : ℕ
  pub tn : ℕ
  pub asks : command_read x.exchange.0.items ≡ Some (Branch range, source, tn)
  pub due : answering x.before.exchanges x.before range ≢ []
  pub lost : is_lost x

-- a mute of a present device is lost
pub record LosesMute (x : Step) : Type 0 where
  pub u : ℕ
  pub source : ℕ
  pub tn : ℕ
  pub asks : command_read x.exchange.0.items ≡ Some (Mute u, source, tn)
  pub due : device_at x.before.exchanges x.before.devices u ≢ None
  pub lost : is_lost x

-- no five consecutive steps have P
abbrev pub NeverFive : (Step → Type 0) → List Step → Type 0
NeverFive P xs =
    (front five back : List Step) → xs ≡ front ++ five ++ back → length five ≡ 5 → AllByRecursion P five → ⊥

-- these steps lose few replies: no five branches and no five mutes in a row
pub record LosesFew (xs : List Step) : Type 0 where
  pub branches : NeverFive LosesBranch xs
  pub mutes : NeverFive LosesMute xs

-- no five of these numbers are consecutive
abbrev pub NoFiveSuccessive : List ℕ → Type 0
NoFiveSuccessive losses = (i : ℕ) → ((j : ℕ) → j < 5 → has losses (i + j) ≡ true) → ⊥
