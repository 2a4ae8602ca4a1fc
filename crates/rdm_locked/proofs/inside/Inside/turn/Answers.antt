use Rattle.std.proofs.Common.{arith}
use Rattle.rdm_locked.proofs.CallLemmas.{grown_counts, take_brings}
use Rattle.rdm_locked.proofs.HistoryLemmas.{keeps_take}
use Rattle.rdm_locked.proofs.inside.Inside.turn.Goals as goal

pub invariant_of-self : goal.invariant_of-self
invariant_of-self g c =
    let me = c.args.self.now in
    let k = me.session in
    let counts = grown_counts k _ c.take.new.self 0 0 c.take.ensures.adds
    (λ block. take_brings k c.take.result block) in
    record {
      counted = omega (arith, counts.calls_are, me.counted);
      clients = omega (arith, counts.clients_are, me.clients);
      parts = me.parts;
      keeps = keeps_take k c.take.new.self c.take.result me.lists.lists me.joined me.keeps c.take.ensures.adds
          c.take.ensures.legal;
    }
