-- the history of the session's views
use Rattle.rdm_lanes.specs.Workers.{book_of}
use Rattle.test_stage.proofs.threads.serve_bodies.Given as goal

abbrev pub ghosts-serves_twice : goal.ghosts-serves_twice
ghosts-serves_twice g a = record { book = book_of a.history }
