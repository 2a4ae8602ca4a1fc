-- the blank picks the ledger and its lists
use Rattle.test_stage.proofs.port_job.on_port.Given as goal

abbrev pub ghosts-does-L-Ledger-2 : goal.ghosts-does-L-Ledger-2
ghosts-does-L-Ledger-2 g a = record { name = a.blank.name; parts = a.blank.parts }

abbrev pub ghosts-does-L-Named : goal.ghosts-does-L-Named
ghosts-does-L-Named g a = record { lists = a.blank.lists }
