-- The machine values of a `Handle`. Assumes `Logic`.
use Rattle.rdm_handles.proofs.Common.{◌≡◌, ℕ, ◌<◌, ◌^◌, Bool, true, false, ◌&&◌, ◌==◌, List, [], ◌∷◌, ◌++◌, refl, sym}
use Rattle.rdm_handles.proofs.Common.{◌∙◌, true-eqb, Ura, w32, Val, vbool, vint, vstruct, vcons, vnil, of_list, Fml}
use Rattle.rdm_handles.proofs.Common.{ent, never, fst∗, Logic, sem, Item, Goal, Seq, Step, step, ‵, ◌$◌, drop, fsplit}
use Rattle.rdm_handles.proofs.Common.{fjoin, fpick, fpack, feq_i, feq_l, rewrite, use1, RattleType, Valss, RawPtr, bool}
use Rattle.rdm_handles.proofs.Common.{u32, shows, lone, Ptr, ptr_val, block_ptr, null_ptr, in_a_block, nothing, within}
use Rattle.rdm_handles.proofs.Common.{shape, box_owns, frees, Handle}
use mir.Raw.{raw as bare}
use denote.Laws.{Is}
use denote.Plain.{uint_Makes}
use denote.Steps.{owned, facts}
use Rattle.rdm_agent.specs.Machine.{start}
use Rattle.rdm_agent.specs.declared.kind.Kind.TheVariants.{Full}
use Rattle.rdm_agent.specs.declared.search.Search.TheVariants.{Steady}
use Rattle.rdm_log.specs.log.LogState.{blank_log}
use Rattle.rdm_queue.specs.body.State.{first_state}
use Rattle.rdm_handles.specs.Owned.{handle_owns}
use Rattle.rdm_handles.specs.Handles.{is_open_as}
use Rattle.rdm_handles.specs.contracts.handle.Handle as handle

abbrev pub word : Ptr → Bool → ℕ → Val
word p y k = vstruct (vcons (ptr_val p) (vcons (vbool y) (vcons (vint w32 k) vnil)))

-- a closed handle
abbrev pub any_handle : Handle
any_handle = record {
  at = null_ptr;
  is_open = false;
  kind = 0;
  controller = first_state (record { config = record { source = 0; places = 0; budget = 0 }; search = Steady });
  session = blank_log 0;
  log = blank_log 0;
  discovery = record { agent = start Full [] 0; source = 0; tn = 0 };
}

-- what a handle owns, by whether it is open and its kind
abbrev pub owns_as : Handle → Bool → ℕ → Fml
owns_as h y k = handle_owns y k h.at h.controller h.session h.log h.discovery

pub open_and_of : (h : Handle) (n : ℕ) → is_open_as n h ≡ true → (h.is_open ≡ true) × (h.kind ≡ n)
open_and_of h n = both h.is_open
  where
    both : (y : Bool) → ◌≡◌ {A = Bool} (y && (h.kind == n)) true → (y ≡ true) × (h.kind ≡ n)
    both true is = (refl, true-eqb h.kind n (sym is))
    both false is = absurd (cc)

module _ {M : Type 1} {𝓤 : Ura M} {𝓛 : Logic 𝓤} {K : Type 0} {Γ : List (Item 𝓤)} {G : Goal 𝓤 𝓛.H} where
  pub handle_in : K → (h : Handle) → h.kind < 2 ^ 32
      → Step K 𝓛 (‵ (handle.the_row.own_val h (word h.at h.is_open h.kind ∷ [])) ∷ Γ) G
      (‵ (owns_as h h.is_open h.kind) ∷ Γ) G
  handle_in t h fits = step (λ k. let v : Val = word h.at h.is_open h.kind in
      nothing t $ owned t u32 (Is u32) (uint_Makes 𝓛 w32) h.kind (vint w32 h.kind ∷ []) (refl, fits) $ fjoin t
      $ feq_i t (List Val) (vbool h.is_open ∷ []) (vbool h.is_open ∷ []) refl $ fjoin t
      $ feq_i t (List Val) (ptr_val h.at ∷ []) (ptr_val h.at ∷ []) refl $ fjoin t
      $ feq_i t (List Val) (v ∷ []) (v ∷ []) refl $ fjoin t $
      fpack t (Valss (RawPtr ∷ bool ∷ u32 ∷ []))
      (within (shape handle.the_type) (h.at, (h.is_open, (h.kind, tt))) (v ∷ []))
      (ptr_val h.at ∷ [], (vbool h.is_open ∷ [], (vint w32 h.kind ∷ [], tt))) $ fjoin t $ k)

  pub handle_out : K → (h : Handle) (vs : List Val)
      → (vs ≡ word h.at h.is_open h.kind ∷ [] → Seq K 𝓛 (‵ (owns_as h h.is_open h.kind) ∷ Γ) G)
      → Seq K 𝓛 (‵ (handle.the_row.own_val h vs) ∷ Γ) G
  handle_out t h vs k =
      fsplit t $ fpick t (λ vss. fsplit t $ feq_l t (λ ev. fsplit t $ feq_l t (λ ep. fsplit t $ feq_l t (λ eb.
      fsplit t $
      facts t u32 (Is u32) (shows 𝓛 u32) h.kind vss.1.1.0 (λ ek. drop t $
      k (ev ∙ (λ i. vstruct (of_list (ep i ++ (eb i ++ (ek.0 i ++ [])))) ∷ [])))))))

  -- an open handle of this kind owns a value of this type in a block
  pub open_in_block : K → (R : RattleType) (n : ℕ) (x : R.Denot) (h : Handle) → is_open_as n h ≡ true
      → ent 𝓤 (sem 𝓛 (owns_as h true n)) (sem 𝓛 (box_owns frees R h.at x))
      → ((b o : ℕ) → word h.at h.is_open h.kind ≡ word (block_ptr b o) true n
      → Seq K 𝓛 (‵ (box_owns frees R (block_ptr b o) x) ∷ Γ) G)
      → Seq K 𝓛 (‵ (owns_as h h.is_open h.kind) ∷ Γ) G
  open_in_block t R n x h is same k = let both = open_and_of h n is in
      rewrite t 0 (λ (u : Bool × ℕ). ‵ (owns_as h u.0 u.1)) (λ i. (both.0 i, both.1 i)) refl $
      use1 𝓛 (‵ (box_owns frees R h.at x)) same $
      in_a_block t h.at (λ at. box_owns frees R at x)
      (fst∗ 𝓤 (never 𝓤) (sem 𝓛 (frees (bare (lone R.mir)) null_ptr)))
      (λ b o e. k b o (λ i. word (e i) (both.0 i) (both.1 i)))
