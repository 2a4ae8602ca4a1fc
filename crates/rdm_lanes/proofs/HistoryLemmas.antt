-- The step that adds a view keeps the rule of the history.
use Rattle.rdm_lanes.proofs.Common.{◌≡◌, ℕ, ◌+◌, ◌<◌, ◌==◌, Bool, true, false, List, [], ◌∷◌, ◌++◌, length, refl, ap}
use Rattle.rdm_lanes.proofs.Common.{sym, subst, arith, inl, length-append, None, append-nil, nat_tests, IsPrefix}
use Rattle.rdm_lanes.proofs.Common.{DeviceView, last_view_run, AreViews}
use prog.Atomic.{either}
use Rattle.logbook.specs.Pages.{Cell, cell, keeps, no_nib, step, Moves, Goes}
use Rattle.rdm_lanes.specs.body.History.{IsKept, Adds}
use Rattle.rdm_lanes.proofs.Fronts.{prefix_whole}
use Rattle.rdm_lanes.proofs.ViewFacts.{views_more}

abbrev pub shown : List DeviceView → List DeviceView
shown log = []

abbrev pub moved : List DeviceView → List DeviceView → ℕ → Type 0
moved xs ys n = Unit {0}

adds_goes : (log v : List DeviceView) (e : DeviceView) (old : ℕ) → length v ≡ old → last_view_run v < e.run
    → AreViews log → IsPrefix v log
    → (b : Bool) → (length log == old) ≡ b
    → Goes IsKept shown moved 0 (v, (no_nib, None)) (λ n. either (n == old) (old + 1) n)
    (Adds (step 0 old (old + 1) e) (v, (no_nib, None))) ((length log, true) ∷ (0, true) ∷ []) log
adds_goes log v e old len less are pre true is =
    let here : length log ≡ old = grind (arith, nat_tests) in
    let same : v ≡ log = prefix_whole v log pre (omega arith) in
    let are_more : AreViews (log ++ e ∷ []) = views_more log e are
    (subst (λ (l : List DeviceView). last_view_run l < e.run) same less) in
    let n : either (length log == old) (old + 1) (length log)
    ≡ length (log ++ e ∷ []) = rw is (omega (arith, length-append log (e ∷ []))) in (
      keeps,
      e ∷ [],
      None,
      tt,
      record { words = ap (λ (k : ℕ). (k, true) ∷ (0, true) ∷ []) n; are = are_more },
      inl (refl, refl),
      rw is (ap (λ w. w ++ e ∷ []) (sym same), are_more),
    )
adds_goes log v e old len less are pre false is =
    let all : log ++ [] ≡ log = append-nil log in
    let are_same : AreViews (log ++ []) = subst AreViews (sym all) are in
    let n : either (length log == old) (old + 1) (length log) ≡ length (log ++ []) = rw is (ap length (sym all)) in (
      keeps,
      [],
      None,
      tt,
      record { words = ap (λ (k : ℕ). (k, true) ∷ (0, true) ∷ []) n; are = are_same },
      inl (refl, refl),
      rw is (ap length all, are_same),
    )

-- whatever the history is, the step adds the view to all that was seen, or finds that the history is longer
pub adds_moves : (v : List DeviceView) (e : DeviceView) (old : ℕ) → length v ≡ old → last_view_run v < e.run
    → Moves IsKept shown moved 0 (v, (no_nib, None)) (λ n. either (n == old) (old + 1) n)
    (Adds (step 0 old (old + 1) e) (v, (no_nib, None)))
adds_moves v e old len less cs log kept pre away =
    let P : List Cell → Type 0 = λ c. (0 < length c) × ((cell c 0).1 ≡ true)
    × Goes IsKept shown moved 0 (v, (no_nib, None)) (λ n. either (n == old) (old + 1) n)
    (Adds (step 0 old (old + 1) e) (v, (no_nib, None))) c log in
    subst P (sym kept.words) (omega arith, refl, adds_goes log v e old len less kept.are pre (length log == old) refl)
