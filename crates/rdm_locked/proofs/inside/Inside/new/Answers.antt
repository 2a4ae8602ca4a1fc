use Rattle.std.proofs.Common.{arith, refl, ◌∙◌}
use Rattle.rdm_log.specs.log.Entries.{joins}
use Rattle.rdm_locked.specs.Calls.{count_calls}
use Rattle.rdm_locked.proofs.HistoryLemmas.{keeps_nothing}
use Rattle.rdm_locked.proofs.inside.Inside.new.Goals as goal

pub invariant_of-result : goal.invariant_of-result
unfolding count_calls joins
invariant_of-result g c =
    let session = c.in-Ok.ensures.ok in
    let parts = c.open-calls.ensures.parts ∙ c.requires.may_open.cut.1 in
    record {
      counted = rw (session, c.requires.may_open.empty, c.open-calls.ensures.total) refl;
      clients = rw (session, c.requires.may_open.empty) refl;
      parts = record {
        one_each = omega (arith, parts);
        few = omega arith;
        unused = c.open-calls.ensures.amount;
        left_once = omega arith;
      };
      keeps = rw c.open.ensures (keeps_nothing _ (rw (session, c.requires.may_open.empty) refl));
    }
