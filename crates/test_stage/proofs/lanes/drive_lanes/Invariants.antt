-- the history of the session's views
use Rattle.rdm_lanes.specs.Workers.{book_of}
use Rattle.test_stage.proofs.lanes.drive_lanes.Given as goal

abbrev pub ghosts-driven : goal.ghosts-driven
ghosts-driven g a = record { book = book_of a.history }
