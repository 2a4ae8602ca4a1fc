-- Lines that count how often they failed.
use Rattle.std.specs.Prelude.{◌≡◌, ℕ, ◌+◌, [], ◌==◌, MatchBool, Option, Some, None}
use Rattle.arrayvec.specs.ArrayVec.{ArrayVec}
use Rattle.rdm_join.specs.declared.event.LineEvent.{LineEvent}
use Rattle.rdm_join.specs.declared.event.LineEvent.TheVariants.{Reply, Failed}
use Rattle.rdm_line.specs.Events.{Exchange}

-- the event of the bytes that came, or of a failure
abbrev pub event_of_bytes : Option (ArrayVec ℕ) → LineEvent
event_of_bytes (Some bytes) = Reply bytes
event_of_bytes None = Failed

-- what an exchange returns for an event, and the count of failures after it. At the greatest count a failure is silence
abbrev pub IsReturned : LineEvent → ℕ → LineEvent → ℕ → Type 0
IsReturned (Reply reply) failures returned counted = (returned ≡ Reply reply) × (counted ≡ failures)
IsReturned Failed failures returned counted =
    MatchBool (failures == 0xffffffffffffffff)
    ((returned ≡ Reply (record { items = [] })) × (counted ≡ failures))
    ((returned ≡ Failed) × (counted ≡ failures + 1))

-- what was asked makes one of its own steps, and its failure is counted
abbrev pub CountedStep : (A : Type 0) → (A → Exchange → A → Type 0) → A → ℕ → Exchange → A → ℕ → Type 0
CountedStep A step old failures (frame, returned) new counted =
    (event : LineEvent) × step old (frame, event) new × IsReturned event failures returned counted
