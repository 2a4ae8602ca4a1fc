-- the blank picks the ledger and its lists
use Rattle.rdm_port.proofs.run.serve_on.Given as goal

abbrev pub ghosts-serve-L-Ledger-2 : goal.ghosts-serve-L-Ledger-2
ghosts-serve-L-Ledger-2 g a = record { name = a.blank.name; parts = a.blank.parts }

abbrev pub ghosts-serve-L-Named : goal.ghosts-serve-L-Named
ghosts-serve-L-Named g a = record { lists = a.blank.lists }

abbrev pub ghosts-serve-2-L-Ledger-2 : goal.ghosts-serve-2-L-Ledger-2
ghosts-serve-2-L-Ledger-2 g a = record { name = a.blank.name; parts = a.blank.parts }

abbrev pub ghosts-serve-2-L-Named : goal.ghosts-serve-2-L-Named
ghosts-serve-2-L-Named g a = record { lists = a.blank.lists }
