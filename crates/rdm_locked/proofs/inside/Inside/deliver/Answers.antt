use Rattle.std.proofs.Common.{arith}
use Rattle.rdm_locked.proofs.CallLemmas.{grown_counts, deliver_brings}
use Rattle.rdm_locked.proofs.HistoryLemmas.{keeps_deliver}
use Rattle.rdm_locked.proofs.inside.Inside.deliver.Goals as goal

pub invariant_of-self : goal.invariant_of-self
invariant_of-self g c =
    let me = c.args.self.now in
    let k = me.session in
    let counts = grown_counts k _ c.deliver.new.self 0 0 c.deliver.ensures.adds
    (λ block. deliver_brings k c.args.event c.deliver.result block) in
    record {
      counted = omega (arith, counts.calls_are, me.counted);
      clients = omega (arith, counts.clients_are, me.clients);
      parts = me.parts;
      keeps = keeps_deliver k c.deliver.new.self c.args.event c.deliver.result me.lists.lists me.joined me.keeps
          c.deliver.ensures.adds c.deliver.ensures.legal;
    }
