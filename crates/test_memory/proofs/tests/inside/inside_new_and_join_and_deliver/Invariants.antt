-- the blank picks the ledger and its lists
use Rattle.test_memory.proofs.tests.inside.inside_new_and_join_and_deliver.Given as goal

abbrev pub ghosts-delivers-L-Ledger-2 : goal.ghosts-delivers-L-Ledger-2
ghosts-delivers-L-Ledger-2 g a = record { name = a.blank.name; parts = a.blank.parts }

abbrev pub ghosts-delivers-L-Named : goal.ghosts-delivers-L-Named
ghosts-delivers-L-Named g a = record { lists = a.blank.lists }
