-- the history of these views
use Rattle.rdm_lanes.specs.Workers.{book_of}
use Rattle.rdm_bench.proofs.views.time.Given as goal

abbrev pub ghosts-time_all : goal.ghosts-time_all
ghosts-time_all g a = record { book = book_of a.history }
