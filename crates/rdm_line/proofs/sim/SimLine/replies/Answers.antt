use Rattle.std.proofs.Common.{◌≡◌, ◌+◌, ◌≤◌, ℕ, length, refl, sym, ap, ◌∙◌, subst, arith}
use Rattle.arrayvec.specs.ArrayVec.{ArrayVec}
use Rattle.rdm_line.specs.Overlays.{laid_over}
use Rattle.rdm_line.specs.Sim.{answers_branch, branch_reply_of}
use Rattle.rdm_line.proofs.AnsweringLemmas.{one_answers, one_keeps_silent}
use Rattle.rdm_line.proofs.sim.SimLine.replies.Goals as goal
use Rattle.rdm_line.proofs.sim.SimLine.replies.Goals.{then-answers, else-answers}

pub overflow_add-count : goal.overflow_add-count
overflow_add-count c = let few : length c.as_slice-device-items.result.now ≤ 1024 =
    subst (λ l. length l ≤ 1024) (sym c.as_slice-device-items.ensures.value)
    c.as_slice-device-items.ensures.scene.few in omega arith

pub devices-init : goal.devices-init
devices-init c = record {
  counted = record { counts = refl; lie = c.new-replies.ensures };
  bound = omega arith;
  few = omega (arith, ap length c.new-replies.ensures);
}

pub devices-preserved : goal.devices-preserved
devices-preserved c = elim c.if-answers.branch [
  | then-answers w ↦
      let next = one_answers (answers_branch c.args.exchange c.args.self.now.muted c.args.range)
      c.as_slice-device-items.result.now c.devices.device-index c.devices.count c.devices.replies.items
      c.device-item.result
      c.devices-test.true c.device-item.is (sym c.answers.ensures ∙ w.if-answers.true) c.devices.invariant.counted in
      let items : c.if-answers.replies.items
      ≡ laid_over c.devices.replies.items (branch_reply_of c.device-item.result) =
      ap (λ (v : ArrayVec ℕ). v.items) w.replies-is ∙ w.lay_over.ensures.laid
      ∙ ap (laid_over c.devices.replies.items) (w.deref.ensures.0 ∙ w.write_branch_reply-reply.ensures.text) in
      record {
        counted = record { counts = w.count-is ∙ next.counts; lie = items ∙ next.lie };
        bound = let b : c.devices.count ≤ c.devices.device-index = c.devices.invariant.bound in
            let n : c.if-answers.count ≡ c.devices.count + 1 = w.count-is in omega arith;
        few = subst (λ (v : ArrayVec ℕ). length v.items ≤ 24) (sym w.replies-is) w.lay_over.ensures.few;
      }
  | else-answers w ↦
      let next = one_keeps_silent (answers_branch c.args.exchange c.args.self.now.muted c.args.range)
      c.as_slice-device-items.result.now c.devices.device-index c.devices.count c.devices.replies.items
      c.device-item.result
      c.devices-test.true c.device-item.is (sym c.answers.ensures ∙ w.if-answers.false) c.devices.invariant.counted in
      record {
        counted = record {
          counts = w.count-is ∙ next.counts;
          lie = ap (λ (v : ArrayVec ℕ). v.items) w.replies-is ∙ next.lie;
        };
        bound = let b : c.devices.count ≤ c.devices.device-index = c.devices.invariant.bound in
            let n : c.if-answers.count ≡ c.devices.count = w.count-is in omega arith;
        few = subst (λ (v : ArrayVec ℕ). length v.items ≤ 24) (sym w.replies-is) c.devices.invariant.few;
      }
]
