-- the blank picks the ledger and its lists
use Rattle.test_trials.proofs.tests.laws.mutex.serves.Given as goal

abbrev pub ghosts-serves_on-L-Ledger-2 : goal.ghosts-serves_on-L-Ledger-2
ghosts-serves_on-L-Ledger-2 g a = record { name = a.blank.name; parts = a.blank.parts }

abbrev pub ghosts-serves_on-L-Named : goal.ghosts-serves_on-L-Named
ghosts-serves_on-L-Named g a = record { lists = a.blank.lists }
