use Rattle.std.proofs.Common.{subst, ◌∙◌}
use Rattle.rdm_explain.specs.body.Covering.{IsIn, GapEnd}
use Rattle.rdm_explain.proofs.GapEndLemmas.{not_in_covered, last_of}
use Rattle.rdm_explain.proofs.cover.last_after.Goals as goal

pub gap_end-requires : goal.gap_end-requires
gap_end-requires c h =
    not_in_covered c.args.exchanges.now c.args.first c.requires
    (subst (λ l. IsIn l c.args.first) (c.deref.ensures.value ∙ c.in_ok-covered.ensures) h)

pub returns : goal.returns
returns c =
    last_of c.args.exchanges.now c.args.first c.gap_end.result
    (subst (λ l. GapEnd l c.args.first c.gap_end.result) (c.deref.ensures.value ∙ c.in_ok-covered.ensures)
    c.gap_end.ensures)
