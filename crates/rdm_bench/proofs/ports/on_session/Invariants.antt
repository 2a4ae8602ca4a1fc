-- the blanks pick the ledger, its lists, and the history of the views
use Rattle.rdm_lanes.specs.Workers.{book_of}
use Rattle.rdm_bench.proofs.ports.on_session.Given as goal

abbrev pub ghosts-on_port-L-Ledger-2 : goal.ghosts-on_port-L-Ledger-2
ghosts-on_port-L-Ledger-2 g a = record { name = a.blank.name; parts = a.blank.parts }

abbrev pub ghosts-on_port-L-Named : goal.ghosts-on_port-L-Named
ghosts-on_port-L-Named g a = record { lists = a.blank.lists }

abbrev pub ghosts-on_rings : goal.ghosts-on_rings
ghosts-on_rings g a = record { book = book_of a.history }
