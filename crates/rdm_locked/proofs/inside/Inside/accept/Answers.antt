use Rattle.std.proofs.Common.{arith}
use Rattle.rdm_log.specs.promises.Blocks.{number_or_fault}
use Rattle.rdm_locked.specs.Clients.{logged}
use Rattle.rdm_locked.proofs.CallLemmas.{grown_counts, work_brings, calls_few}
use Rattle.rdm_locked.proofs.HistoryLemmas.{keeps_work, own_added, own_logged}
use Rattle.rdm_locked.proofs.inside.Inside.accept.Goals as goal

pub add_calls-requires : goal.add_calls-requires
add_calls-requires g c =
    let me = c.args.self.now in
    let k = me.session in
    let after = c.accept-answer.new.self in
    let counts = grown_counts k _ after _ 0 c.accept-answer.ensures.adds
    (λ block. work_brings k c.args.client c.args.work (number_or_fault c.accept-answer.result) block) in
    rw (c.len_in_all.ensures.all, c.log.ensures.log, c.calls_logged.ensures)
    (omega (arith, counts.calls_are, me.counted, calls_few after.entries))

pub invariant_of-self : goal.invariant_of-self
invariant_of-self g c =
    let me = c.args.self.now in
    let k = me.session in
    let counts = grown_counts k _ c.accept-answer.new.self _ 0 c.accept-answer.ensures.adds
    (λ block. work_brings k c.args.client c.args.work (number_or_fault c.accept-answer.result) block) in
    record {
      counted = rw c.add_calls.ensures.total (rw c.calls_logged.ensures
          (omega (arith, counts.calls_are, me.counted)));
      clients = omega (arith, counts.clients_are, me.clients);
      parts = me.parts;
      keeps = rw (c.add.ensures.lists, c.add_calls.ensures.history, c.shown-made.ensures, c.of-asked.ensures)
          (keeps_work k c.accept-answer.new.self c.args.client c.args.work (number_or_fault c.accept-answer.result)
          me.lists.lists me.joined c.args.mine.now.history.index c.args.mine.now.history.items me.keeps
          (rw c.add_calls.ensures.history at c.add.ensures.agreed) c.requires.own c.accept-answer.ensures.adds
          c.accept-answer.ensures.legal);
    }

pub invariant_of-mine-clause-own : goal.invariant_of-mine-clause-own
invariant_of-mine-clause-own g c =
    let mine = c.args.mine.now in
    let answer = number_or_fault c.accept-answer.result in
    own_added _ _ mine.history.items _ (logged c.args.client c.args.work answer)
    (rw c.add_calls.ensures.history at c.add.ensures.index)
    (rw (c.add_calls.ensures.history, c.shown-made.ensures, c.of-asked.ensures) at c.add.ensures.items)
    (own_logged mine.history.index c.args.client c.args.work answer mine.history.items c.requires.own mine.own)
