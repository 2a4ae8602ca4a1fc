-- the history of the session's views
use Rattle.rdm_lanes.specs.Workers.{book_of}
use Rattle.test_trials.proofs.tests.laws.rings.serves.Given as goal

abbrev pub ghosts-serves_in : goal.ghosts-serves_in
ghosts-serves_in g a = record { book = book_of a.history }
