-- the history of the session's views
use Rattle.rdm_lanes.specs.Workers.{book_of}
use Rattle.test_stage.proofs.threads.serve_beside.Given as goal

abbrev pub ghosts-serves_beside : goal.ghosts-serves_beside
ghosts-serves_beside g a = record { book = book_of a.history }
