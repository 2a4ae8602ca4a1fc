use Rattle.rdm_queue.proofs.Common.{◌≡◌, ◌∙◌, [], false, Option, Some, None, option_map, is_some, refl, sym, ap}
use Rattle.rdm_queue.proofs.Common.{false≢true, LogState, oldest_kind}
use Rattle.rdm_log.proofs.PromiseLemmas.OutcomeLemmas.{nothing_uncollected}
use Rattle.rdm_queue.specs.declared.oldest.Oldest.{Oldest}
use Rattle.rdm_queue.specs.promises.Oldest.{kind_shown}
use Rattle.rdm_queue.proofs.BodyLemmas.SessionLemmas.{grown_none}
use Rattle.rdm_queue.proofs.session.Session.collect.Goals as goal

none_shown : (r : Option Oldest) → is_some r ≡ false → option_map kind_shown r ≡ None
none_shown None is = refl
none_shown (Some x) is = absurd (false≢true (sym is))

pub returns-then-is_none-clause-adds : goal.returns-then-is_none-clause-adds
returns-then-is_none-clause-adds c =
    let k = c.args.self.now in
    let same = c.in_default.ensures.unchanged in
    let kind = ap (λ (l : LogState). oldest_kind l.opening l.entries c.args.client.0) (sym same)
    ∙ sym c.oldest.ensures.kind ∙ none_shown c.oldest.result c.if-is_none.ensures in
    record {
      block = [];
      adds = (nothing_uncollected k.opening c.args.client.0 k.entries kind, refl);
      grows = same ∙ grown_none k;
    }
