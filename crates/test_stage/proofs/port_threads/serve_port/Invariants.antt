-- the blank picks the ledger and its lists
use Rattle.test_stage.proofs.port_threads.serve_port.Given as goal

abbrev pub ghosts-serves-L-Ledger-2 : goal.ghosts-serves-L-Ledger-2
ghosts-serves-L-Ledger-2 g a = record { name = a.blank.name; parts = a.blank.parts }

abbrev pub ghosts-serves-L-Named : goal.ghosts-serves-L-Named
ghosts-serves-L-Named g a = record { lists = a.blank.lists }
