-- the blank picks the ledger and its lists
use Rattle.test_stage.proofs.port.drive_port.Given as goal

abbrev pub ghosts-driven-L-Ledger-2 : goal.ghosts-driven-L-Ledger-2
ghosts-driven-L-Ledger-2 g a = record { name = a.blank.name; parts = a.blank.parts }

abbrev pub ghosts-driven-L-Named : goal.ghosts-driven-L-Named
ghosts-driven-L-Named g a = record { lists = a.blank.lists }
