use Rattle.rdm_port.proofs.branch.encode.Goals as goal

pub returns-in-Err-clause-fault : goal.returns-in-Err-clause-fault
returns-in-Err-clause-fault c u text = let read = (c.in-Err.ensures.ok u).1 text in cc
