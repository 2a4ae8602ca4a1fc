use Rattle.std.proofs.Common.{◌≡◌, ◌+◌, ◌≤◌, ◌++◌, ◌∷◌, [], length, take, arith, sym, ap, ◌∙◌}
use Rattle.std.proofs.lemmas.List.{length_push, take_more, take_all}
use Rattle.rdm_log.proofs.PromiseLemmas.ExplainsLemmas.{explains_more}
use Rattle.rdm_log.proofs.PromiseLemmas.EventsPromises.{events_promised}
use Rattle.rdm_queue.proofs.session.Session.run.Goals as goal

pub loop-event-preserved : goal.loop-event-preserved
loop-event-preserved c =
    let i = c.loop-event.event-index in
    let e = c.event-item.result in
    let r = c.answer.result in
    let next : take (i + 1) c.args.events.now ≡ take i c.args.events.now
    ++ e ∷ [] = take_more c.args.events.now i e c.loop-event-test.true
    ∙ ap (λ x. take i c.args.events.now ++ x ∷ []) (sym c.event-item.is) in
    record {
      explains = rw (next, c.push_reserved.ensures.items)
          (explains_more c.args.self.now (take i c.args.events.now) c.loop-event.answers.items c.loop-event.self e r
          c.answer.new.self c.loop-event.invariant.explains c.answer.ensures.answered);
      legal = c.answer.ensures.legal;
      one_each = ap length c.push_reserved.ensures.items ∙ length_push c.loop-event.answers.items r
          ∙ ap (λ n. n + 1) c.loop-event.invariant.one_each;
      room = omega (arith, c.loop-event.invariant.room, c.push_reserved.ensures.capacity);
    }

pub returns-clause-promised : goal.returns-clause-promised
returns-clause-promised c =
    let all : length c.args.events.now ≤ c.loop-event.event-index = c.loop-event-test.false in
    events_promised c.args.self.now c.args.events.now c.loop-event.answers.items c.loop-event.self
    (rw (take_all c.loop-event.event-index c.args.events.now all) at c.loop-event.invariant.explains)
    c.loop-event.invariant.legal
