use Rattle.std.proofs.Common.{◌∙◌, [], ◌∷◌, ap, length, arith, refl}
use Rattle.std.specs.List.{sum_by}
use Rattle.std.proofs.lemmas.List.Sums.{sum_by-append}
use Rattle.rdm_locked.specs.declared.share.CallShare.{CallShare}
use Rattle.rdm_locked.proofs.FinishLemmas.{merged_more, none_merged, length_last}
use Rattle.rdm_locked.proofs.inside.finish.gather.Goals as goal

pub loop-share-init : goal.loop-share-init
loop-share-init g c = (
  refl,
  omega (arith, c.requires.0),
  c.requires.2,
  refl,
  omega arith,
  none_merged c.args.lists.now.lists c.args.shares.items,
)

pub loop-share-preserved : goal.loop-share-preserved
loop-share-preserved g c =
    let inv = c.loop-share.invariant in
    let x = c.in-Some.field-0 in
    let left = c.pop.new.self.items in
    let sum = ap (sum_by (λ (s : CallShare g.row.L.Denot). s.count)) c.in-Some.ensures.items
    ∙ sum_by-append (λ (s : CallShare g.row.L.Denot). s.count) left (x ∷ []) in
    let long = ap length c.in-Some.ensures.items ∙ length_last left x in (
      omega (arith, inv.0, c.audit.ensures.total),
      omega (arith, inv.1, c.audit.ensures.amount, c.merge.ensures.amount, x.counted),
      omega (arith, c.audit.ensures.parts, c.merge.ensures.apart),
      omega (arith, inv.3, c.audit.ensures.parts, c.merge.ensures.parts, x.one_part, long),
      omega (arith, inv.4, sum),
      merged_more _ _ _ _ _ left x _ _ inv.5 c.in-Some.ensures.items c.add.ensures.agreed x.own
          c.shown-mark.ensures refl c.add.ensures.lists,
    )
