use Rattle.rdm_locked.specs.Exchanges.{Records}
use Rattle.rdm_locked.proofs.port.Port.serve.Given as goal

abbrev pub invariant-turns : goal.invariant-turns
invariant-turns g l = Records _ g.X.Line.step l.fn.line l.fn.exchanges.items l.line l.exchanges.items l._turn
