-- the history of this session's views
use Rattle.rdm_lanes.specs.Workers.{book_of}
use Rattle.rdm_bench.proofs.lasting.print.Given as goal

abbrev pub ghosts-print_over : goal.ghosts-print_over
ghosts-print_over g a = record { book = book_of a.history }
