-- the blank picks the ledger and its lists
use Rattle.test_stage.proofs.port_job.play_port_again.Given as goal

abbrev pub ghosts-plays_again-L-Ledger-2 : goal.ghosts-plays_again-L-Ledger-2
ghosts-plays_again-L-Ledger-2 g a = record { name = a.blank.name; parts = a.blank.parts }

abbrev pub ghosts-plays_again-L-Named : goal.ghosts-plays_again-L-Named
ghosts-plays_again-L-Named g a = record { lists = a.blank.lists }
