-- the history of this session's views
use Rattle.rdm_lanes.specs.Workers.{book_of}
use Rattle.test_threads.proofs.tests.lanes.drained.texts.Given as goal

abbrev pub ghosts-served : goal.ghosts-served
ghosts-served g a = record { book = book_of a.history }
