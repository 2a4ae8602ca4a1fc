-- the history of the session's views
use Rattle.rdm_lanes.specs.Workers.{book_of}
use Rattle.test_stage.proofs.lanes.read_alone.Given as goal

abbrev pub ghosts-reads_alone : goal.ghosts-reads_alone
ghosts-reads_alone g a = record { book = book_of a.history }
