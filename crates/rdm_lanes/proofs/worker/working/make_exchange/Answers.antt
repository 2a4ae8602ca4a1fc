use Rattle.std.proofs.Common.{◌∙◌, Ok, ap}
use Rattle.rdm_lanes.proofs.ExchangeLemmas.{exchange_made, attempted_full, attempted_nothing, attempted_one}
use Rattle.rdm_lanes.proofs.worker.working.make_exchange.Goals as goal

pub returns-in-Err : goal.returns-in-Err
returns-in-Err g c =
    attempted_full g.X.Line.step c.args.line.now c.args.session.now c.take.new.self c.take.result c.in-Err.field-0
    c.in-Err.is c.take.ensures.adds c.requires

pub returns-in-Ok-None : goal.returns-in-Ok-None
returns-in-Ok-None g c =
    attempted_nothing g.X.Line.step c.args.line.now c.args.session.now c.take.new.self c.take.result
    (c.in-Ok-None.is ∙ ap (λ x. Ok x) c.in-Ok-None.field-0-is) c.take.ensures.adds c.requires

pub returns-in-Ok-Some : goal.returns-in-Ok-Some
returns-in-Ok-Some g c =
    let old = c.args.session.now in
    let new = c.deliver.new.self in
    let frame = c.in-Ok-Some.frame in
    let made = exchange_made old c.take.new.self new frame c.from-event.result c.take.result c.deliver.result
    (c.in-Ok-Some.is ∙ ap (λ x. Ok x) c.in-Ok-Some.field-0-is) c.take.ensures.adds c.deliver.ensures.adds
    c.take.ensures.legal c.deliver.ensures.legal c.requires in
    attempted_one g.X.Line.step c.args.line.now c.exchange.new.self old new frame c.from-event.result made
    (rw c.from-event.ensures c.exchange.ensures.step)
