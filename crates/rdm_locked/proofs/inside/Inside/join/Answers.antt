use Rattle.std.proofs.Common.{arith}
use Rattle.rdm_log.proofs.LogLemmas.RefusalLemmas.{join_passes}
use Rattle.rdm_log.proofs.PromiseLemmas.BlockLemmas.{join_ok}
use Rattle.rdm_locked.proofs.CallLemmas.{grown_counts, join_brings, join_refused_brings}
use Rattle.rdm_locked.proofs.HistoryLemmas.{keeps_refused, keeps_join}
use Rattle.rdm_locked.proofs.inside.Inside.join.Goals as goal

pub invariant_of-self : goal.invariant_of-self
invariant_of-self g c =
    let me = c.args.self.now in
    let k = me.session in
    let counts = grown_counts k _ c.join_client.new.self 0 0 c.in_err-client.ensures.adds
    (λ block. join_refused_brings k c.args.places _ block) in
    record {
      counted = omega (arith, counts.calls_are, me.counted);
      clients = omega (arith, counts.clients_are, me.clients);
      parts = me.parts;
      keeps = keeps_refused k c.join_client.new.self c.args.places _ me.lists.lists me.joined me.keeps
          c.in_err-client.ensures.adds c.join_client.ensures.legal;
    }

pub invariant_of-self-2 : goal.invariant_of-self-2
invariant_of-self-2 g c =
    let me = c.args.self.now in
    let k = me.session in
    let adds = c.in_ok-client.ensures.adds in
    let counts = grown_counts k _ c.join_client.new.self 0 1 adds
    (λ block. join_brings k c.args.places c.in_ok-client.client block) in
    let passes = join_passes k.opening k.entries c.args.places
    (join_ok k c.args.places c.in_ok-client.client adds.block adds.adds).0 in
    record {
      counted = omega (arith, counts.calls_are, me.counted);
      clients = omega (arith, counts.clients_are, me.clients);
      parts = record {
        one_each = omega (arith, c.split_off.ensures.parts_left, me.parts.one_each);
        few = omega (arith, passes.few_clients, me.clients);
        unused = omega (arith, c.split_off.ensures.amount_left, me.parts.unused);
        left_once = omega (arith, me.parts.left_once);
      };
      keeps = rw c.begin.ensures.lists (keeps_join k c.join_client.new.self c.args.places c.in_ok-client.client
          me.lists.lists me.joined me.keeps adds c.join_client.ensures.legal);
    }
