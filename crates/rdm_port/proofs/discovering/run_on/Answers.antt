use Rattle.rdm_port.proofs.discovering.run_on.Goals as goal

pub returns-in-Scene-clause-ok : goal.returns-in-Scene-clause-ok
returns-in-Scene-clause-ok g c = rw c.in-Scene.is c.run_in_scene.ensures.ok

pub returns-in-Streams-clause-ok : goal.returns-in-Streams-clause-ok
returns-in-Streams-clause-ok g c = rw c.in-Streams.is c.run_on_line.ensures.ok
