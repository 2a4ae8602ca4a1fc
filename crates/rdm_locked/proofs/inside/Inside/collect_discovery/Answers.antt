use Rattle.std.proofs.Common.{arith}
use Rattle.rdm_locked.proofs.CallLemmas.{grown_counts, collect_brings, calls_few}
use Rattle.rdm_locked.proofs.HistoryLemmas.{keeps_discovery}
use Rattle.rdm_locked.proofs.inside.Inside.collect_discovery.Goals as goal

pub add_calls-requires : goal.add_calls-requires
add_calls-requires g c =
    let me = c.args.self.now in
    let k = me.session in
    let after = c.next_discovery.new.self in
    let counts = grown_counts k _ after 1 0 c.in_ok-end.ensures.adds
    (λ block. collect_brings k.opening k.entries c.args.client _ block) in
    rw (c.len_in_all.ensures.all, c.log.ensures.log)
    (omega (arith, counts.calls_are, me.counted, calls_few after.entries))

pub invariant_of-self-2 : goal.invariant_of-self-2
invariant_of-self-2 g c =
    let me = c.args.self.now in
    let k = me.session in
    let counts = grown_counts k _ c.next_discovery.new.self 1 0 c.in_ok-end.ensures.adds
    (λ block. collect_brings k.opening k.entries c.args.client _ block) in
    record {
      counted = rw c.add_calls.ensures.total (omega (arith, counts.calls_are, me.counted));
      clients = omega (arith, counts.clients_are, me.clients);
      parts = me.parts;
      keeps = rw (c.add.ensures.lists, c.add_calls.ensures.history, c.shown-made.ensures)
          (keeps_discovery k c.next_discovery.new.self c.args.client _ _ me.lists.lists me.joined
          c.args.mine.now.history.index c.args.mine.now.history.items me.keeps
          (rw c.add_calls.ensures.history at c.add.ensures.agreed) c.requires.own c.in_ok-end.ensures.adds
          c.next_discovery.ensures.legal);
    }
