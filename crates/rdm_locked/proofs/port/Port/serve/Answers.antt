use Rattle.rdm_locked.specs.declared.exchange.Exchange.{Exchange}
use Rattle.rdm_locked.proofs.RecordLemmas.{records_more, records_later}
use Rattle.rdm_locked.proofs.port.Port.serve.Goals.{in-Exchange, in-Nothing}
use Rattle.rdm_locked.proofs.port.Port.serve.Goals as goal

pub turns-preserved : goal.turns-preserved
turns-preserved g c =
    let step = g.X.Line.step in
    let was = c.args.exchanges.now.items in
    elim c.match-turn.branch [
      | in-Exchange w ↦
          let x : Exchange = record { frame = w.in-Exchange.frame; event = w.from-event.result } in
          rw (w.line-is, w.exchanges-is, w.push_reserved.ensures.items, c.reserve.ensures.items)
          (records_more _ step c.args.line.now was c.turns.line c.turns.exchanges.items c.turns._turn x
          w.exchange.new.self c.turns.invariant (rw w.from-event.ensures w.exchange.ensures.step))
      | in-Nothing w ↦
          rw (w.line-is, w.exchanges-is, c.reserve.ensures.items)
          (records_later _ step c.args.line.now was c.turns.line c.turns.exchanges.items c.turns._turn
          c.turns.invariant)
    ]
