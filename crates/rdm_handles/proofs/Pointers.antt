-- The machine values of a `Loose`: a pointer and its allocator. Assumes `Logic`.
use Rattle.rdm_handles.proofs.Common.{◌≡◌, ℕ, List, [], ◌∷◌, ◌++◌, refl, ap, ◌∙◌, Ura, dnil, Val, vptr, vstruct, vcons}
use Rattle.rdm_handles.proofs.Common.{vnil, of_list, never, fst∗, Logic, sem, Item, Goal, Seq, Step, step, ‵, ◌$◌, move}
use Rattle.rdm_handles.proofs.Common.{drop, fsplit, fjoin, fpick, fpack, feq_i, feq_l, RattleType, Valss, RawPtr, lone}
use Rattle.rdm_handles.proofs.Common.{Ptr, block_ptr, null_ptr, ptr_val, in_a_block, nothing, layout, within, shape}
use Rattle.rdm_handles.proofs.Common.{handle_tells, Good, box_owns}
use mathlib.Core.Bool.{true, ◌&&◌}
use lib.Dec.{T}
use mir.Syntax.{impl, tnil}
use mir.Raw.{raw as bare}
use mir.Val.{has_ty, WT}
use denote.Param.Laws.{Laws}
use Rattle.core.specs.declared.alloc.Allocator.{Ghosts}
use Rattle.core.proofs.alloc.Calls.{Al}
use Rattle.std_alloc.proofs.ResultValues.{and_tt}
use Rattle.rdm_handles.specs.contracts.loose.Loose as loose

-- a struct of two values
abbrev pub two : Val → Val → Val
two v w = vstruct (vcons v (vcons w vnil))

-- the same, of lists that have one value each
abbrev pub laid : List Val → List Val → List Val
laid vs ws = vstruct (of_list (vs ++ (ws ++ []))) ∷ []

module _ (R Z : RattleType) (L : Laws Z) (g : Ghosts Z.Denot) where
  abbrev pub Row : RattleType
  Row = loose.the_row R Z g

  -- the allocator, none of whose methods is called
  abbrev quiet : Al
  quiet = record { row = Z; laws = L; g = g; d = impl [] tnil dnil; drops = impl [] tnil dnil }

  abbrev owned : Z.Denot → Ptr → R.Denot → base.Fml.Fml
  owned a p x = box_owns (g.dealloc_token a) R p x

  pub fits : (b o : ℕ) (h : Val) → Good (layout Z) h → T (has_ty (layout Z) h && true) × WT (two (vptr b o) h)
  fits b o h good = (and_tt (has_ty (layout Z) h) good.0, (tt, (good.1, tt)))

  module _ {M : Type 1} {𝓤 : Ura M} {𝓛 : Logic 𝓤} {K : Type 0} {Γ : List (Item 𝓤)} {G : Goal 𝓤 𝓛.H} where
    -- by value it is what its pointer owns, which isn't null, and the allocator
    pub unpacked : K → (d : Row.Denot) (vs : List Val)
        → ((b o : ℕ) (h : Val) → d.at ≡ block_ptr b o → vs ≡ two (vptr b o) h ∷ [] → Good (layout Z) h
        → Seq K 𝓛 (‵ (owned d.alloc (block_ptr b o) d.value) ∷ ‵ (Z.own_val d.alloc (h ∷ [])) ∷ Γ) G)
        → Seq K 𝓛 (‵ (Row.own_val d vs) ∷ Γ) G
    unpacked t d vs k =
        fsplit t $ fpick t (λ vss. fsplit t $ feq_l t (λ ev. fsplit t $ feq_l t (λ ep. fsplit t $
        handle_tells quiet t d.alloc vss.1.0 (λ h eh good. move t (1 ∷ []) $ drop t $ move t (1 ∷ []) $
        in_a_block t d.at (λ p. owned d.alloc p d.value)
        (fst∗ 𝓤 (never 𝓤) (sem 𝓛 (g.dealloc_token d.alloc (bare (lone R.mir)) null_ptr))) (λ b o e.
        k b o h e (ev ∙ ((λ i. laid (ep i) (eh i)) ∙ ap (λ (p : Ptr). two (ptr_val p) h ∷ []) e)) good)))))

    pub put_together : K → (b o : ℕ) (h : Val) (a : Z.Denot) (x : R.Denot)
        → Step K 𝓛 (‵ (Row.own_val (record { at = block_ptr b o; alloc = a; value = x }) (two (vptr b o) h ∷ [])) ∷ Γ) G
        (‵ (owned a (block_ptr b o) x) ∷ ‵ (Z.own_val a (h ∷ [])) ∷ Γ) G
    put_together t b o h a x = step (λ s. let v : Val = two (vptr b o) h in
        nothing t $ move t (2 ∷ 0 ∷ []) $ fjoin t $
        feq_i t (List Val) (vptr b o ∷ []) (vptr b o ∷ []) refl $ fjoin t $
        feq_i t (List Val) (v ∷ []) (v ∷ []) refl $ fjoin t $
        fpack t (Valss (RawPtr ∷ Z ∷ [])) (within (shape (loose.the_type R Z g)) (block_ptr b o, (a, tt)) (v ∷ []))
        (vptr b o ∷ [], (h ∷ [], tt)) $ fjoin t $ s)
