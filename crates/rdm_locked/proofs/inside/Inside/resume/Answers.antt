use Rattle.std.proofs.Common.{arith}
use Rattle.rdm_locked.proofs.CallLemmas.{grown_counts, resume_brings}
use Rattle.rdm_locked.proofs.HistoryLemmas.{keeps_resume}
use Rattle.rdm_locked.proofs.inside.Inside.resume.Goals as goal

pub invariant_of-self : goal.invariant_of-self
invariant_of-self g c =
    let me = c.args.self.now in
    let k = me.session in
    let counts = grown_counts k _ c.resume.new.self 0 0 c.resume.ensures.adds
    (λ block. resume_brings k c.resume.result block) in
    record {
      counted = omega (arith, counts.calls_are, me.counted);
      clients = omega (arith, counts.clients_are, me.clients);
      parts = me.parts;
      keeps = keeps_resume k c.resume.new.self c.resume.result me.lists.lists me.joined me.keeps c.resume.ensures.adds
          c.resume.ensures.legal;
    }
