use Rattle.rdm_join.proofs.StandingLemmas.{ended_moves}
use Rattle.rdm_join.proofs.joiner.Joiner.add.Goals as goal

pub returns-in-Ended-clause-stands : goal.returns-in-Ended-clause-stands
returns-in-Ended-clause-stands c = let m = ended_moves c.args.self.now c.in-Ended.status c.requires in
    rw (c.in-Ended.is, c.end.ensures.stands) m.stands

pub returns-in-Ended-clause-step : goal.returns-in-Ended-clause-step
returns-in-Ended-clause-step c = let m = ended_moves c.args.self.now c.in-Ended.status c.requires in
    rw (c.in-Ended.is, c.end.ensures.step) m.step
