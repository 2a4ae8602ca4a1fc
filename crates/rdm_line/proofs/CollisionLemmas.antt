-- The collisions to come.
use Rattle.std.proofs.Common.{◌≡◌, ℕ, zero, suc, ◌+◌, ◌<◌, ◌≤◌, List, [], ◌∷◌, length, drop, refl, ap, ◌∙◌, arith}
use Rattle.rdm_line.specs.Sim.{later_collisions}
use Rattle.rdm_line.specs.declared.collision.Collision.{Collision}

-- the next one, and the last one again
pub later-next : (cs : List Collision) (i : ℕ) → i + 1 < length cs → drop (i + 1) cs ≡ later_collisions (drop i cs)
later-next [] i lt = absurd (omega arith)
later-next (c ∷ []) i lt = absurd (omega arith)
later-next (c ∷ d ∷ cs) zero lt = refl
later-next (c ∷ d ∷ cs) (suc i) lt = ap (λ n. drop n (c ∷ d ∷ cs)) (more i) ∙ later-next (d ∷ cs) i (omega arith)
  where
    more : (n : ℕ) → suc n + 1 ≡ suc (n + 1)
    more n = omega arith

pub later-last : (cs : List Collision) (i : ℕ) → length cs ≤ i + 1 → drop i cs ≡ later_collisions (drop i cs)
later-last [] zero past = refl
later-last [] (suc i) past = refl
later-last (c ∷ []) zero past = refl
later-last (c ∷ []) (suc i) past = later-last [] i (omega arith)
later-last (c ∷ d ∷ cs) zero past = absurd (omega arith)
later-last (c ∷ d ∷ cs) (suc i) past = later-last (d ∷ cs) i (omega arith)
