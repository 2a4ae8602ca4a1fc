-- The frames in a log.
use Rattle.std.specs.Prelude.{ℕ, List, map}
use Rattle.rdm_log.specs.declared.entry.Entry.{Entry}
use Rattle.arrayvec.specs.ArrayVec.{ArrayVec}
use Rattle.rdm_log.specs.log.Entries.{sends}

-- the frames that were sent
abbrev pub frames_in : List Entry → List (ArrayVec ℕ)
frames_in h = map (λ s. s.frame) (sends h)
