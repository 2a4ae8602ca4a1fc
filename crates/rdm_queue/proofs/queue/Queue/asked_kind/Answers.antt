use Rattle.rdm_queue.proofs.Common.{refl, rules, tests, YieldsList-from_slice, Asked, is_full_kind}
use Rattle.std.proofs.lemmas.Iterator.Search.{any_from_yields_List}
use Rattle.rdm_queue.proofs.BodyLemmas.FieldLemmas.{any_asked}
use Rattle.rdm_queue.proofs.queue.Queue.asked_kind.Goals as goal

pub returns-then-any : goal.returns-then-any
returns-then-any c =
    rw (
      ← c.self.view_is,
      any_asked c.self.inside.asked.items,
      ← any_from_yields_List (λ (a : Asked). is_full_kind a.kind) _ _ c.any.result c.any.ensures.ran
          (YieldsList-from_slice c.self.inside.asked.items cc) (λ x b q k. search (rules, tests)),
      c.if-any.true,
    ) refl

pub returns-else-any : goal.returns-else-any
returns-else-any c =
    rw (
      ← c.self.view_is,
      any_asked c.self.inside.asked.items,
      ← any_from_yields_List (λ (a : Asked). is_full_kind a.kind) _ _ c.any.result c.any.ensures.ran
          (YieldsList-from_slice c.self.inside.asked.items cc) (λ x b q k. search (rules, tests)),
      c.if-any.false,
    ) refl
