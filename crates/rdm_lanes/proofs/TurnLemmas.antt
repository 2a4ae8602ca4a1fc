-- What a worker has done for each client, and in all its turns.
use Rattle.rdm_lanes.proofs.Common.{◌≡◌, ◌≤◌, ℕ, ◌+◌, List, length, sym, subst, ◌∙◌, Some, slice_get, inl, inr, arith}
use Rattle.rdm_lanes.proofs.Common.{same_Some, slice_get_within, suc, IsPrefix, DeviceView, LogState, Lane, IsTurn}
use Rattle.rdm_lanes.proofs.Common.{AreTurns, AreDone, DoesAt, Worker}
use Rattle.rdm_lanes.proofs.LaneLemmas.{get-set, same_lanes_set}
use Rattle.rdm_lanes.proofs.WorkLemmas.{alone_none, alone_join}

module _ (Grows : LogState → LogState → Type 0) (Done : ℕ → LogState → Lane → Lane → Type 0)
    (none : (k : LogState) → Grows k k) (join : (a b d : LogState) → Grows a b → Grows b d → Grows a d) where
  pub done_none : (w : Worker) → AreDone Grows Done 0 w w
  done_none w = record {
    each = λ i lane next below was is. absurd (omega (arith, below));
    rest = λ i lane from is. is;
    grows = none w.session;
    steps = alone_none w;
  }

  pub done_more : (n : ℕ) (a b d : Worker) → AreDone Grows Done n a b → DoesAt Grows Done n b d
      → AreDone Grows Done (n + 1) a d
  done_more n a b d all one = record {
    each = λ i lane next below was is.
        elim (get-set b.lanes.items n i one.next next
        (subst (λ (ls : List Lane). slice_get ls i ≡ Some next) one.set is)) [
          | inl e ↦ let mine = same_Some one.lane lane
              (sym (all.rest n one.lane (omega arith) one.was)
              ∙ subst (λ (m : ℕ). slice_get a.lanes.items m ≡ Some lane) e.0 was) in
              record {
                moment = d.session;
                before = join a.session b.session d.session all.grows one.does.grows;
                after = none d.session;
                done = rw (e.0, sym mine, sym e.1) one.does.done;
              }
          | inr e ↦ let before = all.each i lane next (omega (arith, below, e.0)) was e.1 in
              record {
                moment = before.moment;
                before = before.before;
                after = join before.moment b.session d.session before.after one.does.grows;
                done = before.done;
              }
        ];
    rest = λ i lane from is.
        elim (get-set b.lanes.items n i one.next lane
        (subst (λ (ls : List Lane). slice_get ls i ≡ Some lane) one.set is)) [
          | inl e ↦ absurd (omega (arith, from, e.0))
          | inr e ↦ all.rest i lane (omega (arith, from)) e.1
        ];
    grows = join a.session b.session d.session all.grows one.does.grows;
    steps = alone_join a b d all.steps (record {
      lanes = rw one.set (same_lanes_set b.lanes.items n one.lane one.next one.was one.does.step.rings);
      operator = one.operator;
      switches = one.does.step.switches;
    });
  }

  pub done_all : (n : ℕ) (a b : Worker) → length a.lanes.items ≤ n → AreDone Grows Done n a b
      → AreDone Grows Done (length a.lanes.items) a b
  done_all n a b past all = record {
    each = λ i lane next below was is. all.each i lane next (omega (arith, below, past)) was is;
    rest = λ i lane from is.
        absurd (omega (arith, from, all.steps.lanes.long, slice_get_within b.lanes.items i lane is));
    grows = all.grows;
    steps = all.steps;
  }

pub turns_more : (n : ℕ) (a b d : LogState) (x y z : List DeviceView) → AreTurns n a x b y → IsTurn b d z
    → IsPrefix y z → AreTurns (n + 1) a x d z
turns_more n a b d x y z are turn kept = subst (λ (m : ℕ). AreTurns m a x d z) same next
  where
    same : suc n ≡ n + 1
    same = omega arith

    next : AreTurns (suc n) a x d z
    next = (b, y, are, turn, kept)
