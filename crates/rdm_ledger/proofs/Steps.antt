-- The ghost side of each step. Assumes `Logic`.
use Rattle.std.proofs.Common.{◌≡◌, ℕ, zero, suc, ◌+◌, List, [], ◌∷◌, ◌++◌, length, set, refl, sym, ap, subst, arith}
use Rattle.std.specs.Prelude.{slice_get, Some}
use mathlib.Core.Option.{some, some-injective, some-ne-none}
use lib.ListN.{get_elem?}
use seplogic.Ra.Ura.{Ura}
use base.Fraction.{full_share}
use base.Share.{quarter, three_quarters}
use base.Stored.{Gv, Coded, coded_list, code_map}
use base.Logic.{SProp, ent, sep, ex, all, guard, upd, emp, via, all_e, upd_i}
use base.Fml.{Fml}
use base.Shift.{Keyless}
use types.Logic.{Logic, sem}
use types.Owned.{basic}
use types.Keyed.{entries_from, entries_new, entries_take, entry_keyless, entries_keyless}
use types.Kit.{‵, raw, ◌⊛◌, given, later, ◌$◌, ◌∵◌, !, qed, by, move, split, join, fpick, fpack, learn, check}
use types.Kit.{suffices, settle, done, use1, use2, updating, await, now, rewrite}
use Rattle.atomic_table.specs.Seated.{halved, seen, unused, roster}
use Rattle.atomic_table.proofs.Roster.{resets, moves, Moved}
use Rattle.rdm_ledger.specs.Owned.{no_items, blank_owns, book_owns, share_owns}

pub found : {V : Type 0} (vs : List V) (k : ℕ) (v : V) → get_elem? vs k ≡ some v → slice_get vs k ≡ Some v
found [] k v at = absurd (some-ne-none v (sym at))
found (w ∷ ws) zero v at = ap Some (some-injective w v at)
found (w ∷ ws) (suc k) v at = found ws k v at

roster_keyless : {V : Type 0} (c : V → Gv) (δ k : ℕ) (vs : List V) → Keyless (roster c δ k vs)
roster_keyless c δ k [] = λ d. entries_keyless halved δ k (λ _. (full_share, c d))
roster_keyless c δ k (v ∷ vs) = (entry_keyless halved δ k _, roster_keyless c δ (suc k) vs)

pub blank_keyless : (δ : ℕ) → Keyless (blank_owns δ)
unfolding blank_owns
blank_keyless δ = entries_keyless halved δ 0 (λ _. (full_share, no_items))

pub book_keyless : {V : Type 0} (c : V → Gv) (δ : ℕ) (vs : List V) → Keyless (book_owns c δ vs)
unfolding book_owns
book_keyless c δ vs = roster_keyless c δ 0 vs

pub share_keyless : {V : Type 0} (c : V → Gv) (δ k : ℕ) (v : V) → Keyless (share_owns c δ k v)
unfolding share_owns
share_keyless c δ k v = entry_keyless halved δ k _

module _ {M : Type 1} {𝓤 : Ura M} (𝓛 : Logic 𝓤) where
  open 𝓛 use {H}

  abbrev Pr : Type 2
  Pr = SProp 𝓤

  abbrev ◌⊢◌ : Pr → Pr → Type 1
  P ⊢ Q = ent 𝓤 P Q

  abbrev ◌∗◌ : Pr → Pr → Pr
  P ∗ Q = sep 𝓤 P Q

  infix 26 ◌⊢◌
  infixr 35 ◌∗◌
  abbrev ⟦◌⟧ : Fml → Pr
  ⟦ P ⟧ = sem 𝓛 P

  -- a new ledger
  pub begins : emp 𝓤 ⊢ H.⇛ (ex 𝓤 (λ (δ : ℕ). ⟦ blank_owns δ ⟧))
  unfolding blank_owns
  begins = via 𝓤 _ (entries_new halved 𝓛 0 (λ _. (full_share, no_items))) (basic 𝓛 _)

  -- its book has no list
  pub opens : {E : Type 0} (cv : Coded E) (δ : ℕ) → ⟦ blank_owns δ ⟧ ⊢ ⟦ book_owns (coded_list cv).code δ [] ⟧
  unfolding blank_owns book_owns
  opens {E} cv δ = qed 𝓛 (‵ (entries_from halved δ 0 (λ _. (full_share, no_items))) ∷ []) ∵
      rewrite ! 0 (λ (z : Gv). ‵ (entries_from halved δ 0 (λ _. (full_share, z))))
      (sym (code_map cv.code (λ (g : Gv). g) cv.code (λ x. refl) [])) refl $
      fpack ! (List E) (unused (coded_list cv).code δ 0) [] $ done !

  module _ {V : Type 0} (cv : Coded V) (δ : ℕ) where
    abbrev c : V → Gv
    c = cv.code

    abbrev R : ℕ → V → Fml
    R k v = seen c δ k three_quarters v

    enrols_at : (vs : List V) (k j : ℕ) (u : V) → j ≡ k + length vs
        → ⟦ roster c δ k vs ⟧ ⊢ upd 𝓤 (⟦ roster c δ k (vs ++ u ∷ []) ⟧ ∗ ⟦ R j u ⟧)
    enrols_at [] k j u e =
        let is : j ≡ k = omega arith in let Z : Pr = ⟦ roster c δ k (u ∷ []) ⟧ ∗ ⟦ R j u ⟧ in
        qed 𝓛 (‵ (roster c δ k []) ∷ []) ∵ fpick ! (λ d.
        use1 𝓛 (‵ (seen c δ k full_share d) ⊛
        ‵ (unused c δ (suc k) d)) (entries_take halved 𝓛 δ k (λ _. (full_share, c d))) $ split ! $
        use1 𝓛 (raw (upd 𝓤 (⟦ seen c δ k quarter u ⟧ ∗ ⟦ R k u ⟧))) (resets 𝓛 cv δ k d u) $
        settle 𝓛 Z (‵ (seen c δ k quarter u) ⊛ ‵ (R k u)) $ split ! $ suffices ! _ (upd_i 𝓤 Z) $
        rewrite ! 1 (λ (m : ℕ). ‵ (R m u)) (sym is) refl $
        move ! (2 ∷ []) $ fpack ! V (unused c δ (suc k)) d $ move ! (1 ∷ 0 ∷ []) $ join ! $ done !)
    enrols_at (w ∷ ws) k j u e =
        let Z : Pr = ⟦ roster c δ k (w ∷ (ws ++ u ∷ [])) ⟧ ∗ ⟦ R j u ⟧ in
        qed 𝓛 (‵ (seen c δ k quarter w) ∷ ‵ (roster c δ (suc k) ws) ∷ []) ∵ move ! (1 ∷ []) $
        use1 𝓛 (raw (upd 𝓤 (⟦ roster c δ (suc k) (ws ++ u ∷ []) ⟧ ∗ ⟦ R j u ⟧))) (enrols_at ws (suc k) j u (omega
        arith)) $
        settle 𝓛 Z (‵ (roster c δ (suc k) (ws ++ u ∷ [])) ⊛ ‵ (R j u)) $ split ! $ suffices ! _ (upd_i 𝓤 Z) $
        move ! (2 ∷ 0 ∷ []) $ join ! $ done !

    -- a new list, in two halves
    pub enrols : (vs : List V) (u : V)
        → ⟦ book_owns c δ vs ⟧ ⊢ H.⇛ (⟦ book_owns c δ (vs ++ u ∷ []) ⟧ ∗ ⟦ share_owns c δ (length vs) u ⟧)
    unfolding book_owns share_owns
    enrols vs u = via 𝓤 _ (enrols_at vs 0 (length vs) u (omega arith)) (basic 𝓛 _)

    -- both halves of a list agree, and change
    pub adds : (vs : List V) (k : ℕ) (v u : V)
        → ⟦ book_owns c δ vs ⟧ ∗ ⟦ share_owns c δ k v ⟧
        ⊢ H.⇛ (guard 𝓤 (slice_get vs k ≡ Some v) (⟦ book_owns c δ (set vs k u) ⟧ ∗ ⟦ share_owns c δ k u ⟧))
    unfolding book_owns share_owns
    adds vs k v u =
        qed 𝓛 (‵ (roster c δ 0 vs) ∷ ‵ (R k v) ∷ []) ∵ updating ! $
        use2 𝓛 (given (get_elem? vs k ≡ some v) (raw (all 𝓤 (Moved 𝓛 cv δ 0 vs k k)))) (moves 𝓛 cv δ vs 0 k k v
        (omega arith)) $
        learn ! (λ at. use1 𝓛 (later (‵ (roster c δ 0 (set vs k u)) ⊛ ‵ (R k u)))
        (via 𝓤 _ (all_e 𝓤 (Moved 𝓛 cv δ 0 vs k k) u) (basic 𝓛 _)) $ await ! tt $ split ! $
        now ! $ check ! (found vs k v at) $ done !)
