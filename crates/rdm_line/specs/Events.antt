-- Exchanges of a frame and an event, and how a line's failures count.
use Rattle.std.specs.Prelude.{◌≡◌, ℕ, ◌+◌, List, [], ◌∷◌}
use Rattle.arrayvec.specs.ArrayVec.{ArrayVec}
use Rattle.rdm_join.specs.declared.event.LineEvent.{LineEvent}
use Rattle.rdm_join.specs.declared.event.LineEvent.TheVariants.{Reply, Failed}

-- a frame and what came after it
abbrev pub Exchange : Type 0
Exchange = ArrayVec ℕ × LineEvent

-- each failure is counted, and nothing else
abbrev pub CountsFailure : LineEvent → ℕ → ℕ → Type 0
CountsFailure Failed old new = new ≡ old + 1
CountsFailure (Reply reply) old new = new ≡ old

-- a line makes these exchanges in a row, each by its own step
abbrev pub Makes : (L : Type 0) → (L → Exchange → L → Type 0) → L → List Exchange → L → Type 0
Makes L step old [] new = new ≡ old
Makes L step old (x ∷ xs) new = (next : L) × step old x next × Makes L step next xs new
