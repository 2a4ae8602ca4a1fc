-- A tape of events.
use Rattle.std.specs.Prelude.{◌≡◌, ℕ, List, [], ◌∷◌}
use Rattle.rdm_join.specs.declared.event.LineEvent.{LineEvent}
use Rattle.rdm_join.specs.declared.event.LineEvent.TheVariants.{Failed}
use Rattle.rdm_line.specs.Events.{Exchange}
use Rattle.rdm_line.specs.Counting.{IsReturned}

-- the events to come, and how many exchanges have failed
pub record TapeState : Type 0 where
  pub left : List LineEvent
  pub failures : ℕ

-- the next event; after the last one each exchange fails
abbrev pub first_event : List LineEvent → LineEvent
first_event [] = Failed
first_event (event ∷ events) = event

-- the events after the next one
abbrev pub later_events : List LineEvent → List LineEvent
later_events [] = []
later_events (event ∷ events) = events

-- the events come in order, whatever the frames are
pub record TapeStep (old : TapeState) (x : Exchange) (new : TapeState) : Type 0 where
  pub returned : IsReturned (first_event old.left) old.failures x.1 new.failures
  pub left : new.left ≡ later_events old.left
