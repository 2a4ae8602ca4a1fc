use Rattle.std.proofs.Common.{ℕ, [], ◌∷◌, length, length-append, get_or, sym, ap, ◌∙◌, arith}
use Rattle.arrayvec.specs.ArrayVec.{ArrayVec}
use Rattle.rdm_line.proofs.OverlayLemmas.{laid_over-nil, one_joined, one_pushed}
use Rattle.rdm_line.proofs.overlay.lay_over.Goals as goal
use Rattle.rdm_line.proofs.overlay.lay_over.Goals.{then-i-len, else-i-len}

pub bytes-init : goal.bytes-init
bytes-init c = record { laid = sym (laid_over-nil _); few = c.requires.all }

pub bytes-preserved : goal.bytes-preserved
bytes-preserved c = elim c.if-i-len.branch [
  | then-i-len w ↦
      let next = one_joined c.args.all.now.items c.args.reply.now c.bytes.i c.bytes.all c.if-i-len.all
      w.deref_mut.result.now c.bytes-test.true c.bytes.invariant.laid (omega arith) w.deref_mut.ensures.value
      w.all-is in
      record { laid = next.0; few = omega (arith, next.1) }
  | else-i-len w ↦
      let items = ap (λ (v : ArrayVec ℕ). v.items) w.all-is ∙ w.push.ensures.items in
      record {
        laid = one_pushed c.args.all.now.items c.args.reply.now c.bytes.i c.bytes.all.items c.if-i-len.all.items
            c.bytes-test.true c.bytes.invariant.laid (omega arith) items;
        few = omega (
          arith,
          ap length items,
          length-append c.bytes.all.items (get_or c.args.reply.now c.bytes.i 0 ∷ []),
        );
      }
]
