use Rattle.std.proofs.Common.{arith}
use Rattle.rdm_locked.proofs.CallLemmas.{grown_counts, pause_brings}
use Rattle.rdm_locked.proofs.HistoryLemmas.{keeps_pause}
use Rattle.rdm_locked.proofs.inside.Inside.pause.Goals as goal

pub invariant_of-self : goal.invariant_of-self
invariant_of-self g c =
    let me = c.args.self.now in
    let k = me.session in
    let counts = grown_counts k _ c.pause.new.self 0 0 c.pause.ensures.adds
    (λ block. pause_brings k c.pause.result block) in
    record {
      counted = omega (arith, counts.calls_are, me.counted);
      clients = omega (arith, counts.clients_are, me.clients);
      parts = me.parts;
      keeps = keeps_pause k c.pause.new.self c.pause.result me.lists.lists me.joined me.keeps c.pause.ensures.adds
          c.pause.ensures.legal;
    }
