use Rattle.std.proofs.Common.{arith}
use Rattle.rdm_locked.proofs.CallLemmas.{grown_counts, close_brings}
use Rattle.rdm_locked.proofs.HistoryLemmas.{keeps_close}
use Rattle.rdm_locked.proofs.inside.Inside.close.Goals as goal

pub invariant_of-self : goal.invariant_of-self
invariant_of-self g c =
    let me = c.args.self.now in
    let k = me.session in
    let counts = grown_counts k _ c.close.new.self 0 0 c.close.ensures.adds
    (λ block. close_brings k block) in
    record {
      counted = omega (arith, counts.calls_are, me.counted);
      clients = omega (arith, counts.clients_are, me.clients);
      parts = me.parts;
      keeps = keeps_close k c.close.new.self me.lists.lists me.joined me.keeps c.close.ensures.adds
          c.close.ensures.legal;
    }
