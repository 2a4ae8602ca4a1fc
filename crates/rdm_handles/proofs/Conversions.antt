-- A handle is made of a box's pointer, and made a pointer again, whatever it holds. Assumes `Logic`.
use Rattle.rdm_handles.proofs.Common.{◌≡◌, ◌^◌, T, ltb, eq-eqb, List, [], ◌∷◌, ◌++◌, refl, sym, subst, ◌∙◌, lit<, Ura}
use Rattle.rdm_handles.proofs.Common.{w32, Val, vptr, SProp, ent, emp, id⊢, Fml, ftrue, WpFn, Logic, sem, ‵, raw, ◌⊛◌}
use Rattle.rdm_handles.proofs.Common.{◌$◌, ◌∵◌, !, qed, by, move, keep, split, join, fsplit, fjoin, rewrite, suffices}
use Rattle.rdm_handles.proofs.Common.{use0, use1, stop, fld, lit, of_opd, no_more, and_then, returns, enter, alloc_all}
use Rattle.rdm_handles.proofs.Common.{pass_all, free_all, look_at, get, get_in, sets, agg, sub, whole, fact, fact_i}
use Rattle.rdm_handles.proofs.Common.{tables, RattleType, owns, Ptr, block_ptr, lone, types_at, plain, nothing, heard}
use Rattle.rdm_handles.proofs.Common.{layout, Stays, stay_dropped, walk_of, Goes-blank, proved_at, leaves, box_owns}
use Rattle.rdm_handles.proofs.Common.{frees, Handle}
use mathlib.Core.Bool.{true}
use mir.Syntax.{Fn, Callee, int, opd_true, place, field, copy, assign, rv_opd, aggregate, seq, return, ty_ptr}
use mir.Syntax.{local, value_local}
use base.Logic.{sep}
use prog.Model.{Model}
use prog.Wp.{Closed}
use types.Run.{true_lit}
use contract.Running.{Running}
use denote.Exit.{yes}
use denote.Triple.Clauses.{Clauses, Ended, closing}
use denote.Triple.Spec.{Meets}
use denote.Triple.Walked.{Goes-dropped}
use Rattle.core.proofs.cell.Inside.{one}
use Rattle.std.specs.contracts.alloc.Global as heap
use Rattle.std.proofs.alloc.Global.TheLaws as heap_laws
use Rattle.std.specs.contracts.impls.GlobalAllocator.TheImpl.{ghosts}
use Rattle.rdm_handles.specs.Handles.{HandleKind, holds, a_controller, a_session, a_log, a_discovery}
use Rattle.rdm_handles.specs.contracts.handle.Handle as handle
use Rattle.rdm_handles.proofs.Pointers.{two, Row, fits, unpacked, put_together}
use Rattle.rdm_handles.proofs.Handles.{word, any_handle, owns_as, handle_in, handle_out, open_in_block}

-- the pointer of a box of a value of this type
abbrev pub Pointer : RattleType → RattleType
Pointer R = Row R heap.the_row heap_laws.the_row_laws ghosts

-- a kind of handle, with handles that hold a value, and what is so for each kind
pub record Form : Type 1 where
  pub kind : HandleKind
  pub holding : kind.row.Denot → Handle
  pub is_small : T (ltb kind.number (2 ^ 32))
  pub is_held : (p : Ptr) (x : kind.row.Denot)
      → kind.held (record (holding x) { at = p; is_open = true; kind = kind.number }) ≡ x
  pub same : (h : Handle) → ◌≡◌ {A = Fml} (owns_as h true kind.number) (box_owns frees kind.row h.at (kind.held h))

-- an open handle of this kind
abbrev pub filled : (k : Form) → Ptr → k.kind.row.Denot → Handle
filled k p x = record (k.holding x) { at = p; is_open = true; kind = k.kind.number }

module _ (k : Form) where
  abbrev pub of_ended : Ended
  of_ended = record {
    signature = record {
      lifetimes = 0;
      outlives = [];
      params = plain (λ _. Pointer k.kind.row) ∷ [];
      result = plain (λ _. handle.the_row);
    };
    kept = (yes, tt);
  }

  abbrev pub of_code : Fn
  of_code = record {
    lifetimes = 0;
    outlives = [];
    ty_params = [];
    givens = 0;
    params = 1;
    locals = local (lone handle.the_row.mir) value_local ∷ local (lone (Pointer k.kind.row).mir) value_local
        ∷ local ty_ptr value_local ∷ local ty_ptr value_local ∷ [];
    body = seq (assign (place 2 []) (rv_opd (copy (place 1 (field 0 ∷ [])))))
        (seq (assign (place 3 []) (rv_opd (copy (place 2 []))))
        (seq (assign (place 0 []) (aggregate (copy (place 3 []) ∷ opd_true ∷ int w32 k.kind.number ∷ []))) return));
  }

  abbrev pub into_ended : Ended
  into_ended = record {
    signature = record {
      lifetimes = 0;
      outlives = [];
      params = plain (λ _. handle.the_row) ∷ plain (λ _. heap.the_row) ∷ [];
      result = plain (λ _. Pointer k.kind.row);
    };
    kept = (yes, (yes, tt));
  }

  abbrev pub into_code : Fn
  into_code = record {
    lifetimes = 0;
    outlives = [];
    ty_params = [];
    givens = 0;
    params = 2;
    locals = local (lone (Pointer k.kind.row).mir) value_local ∷ local (lone handle.the_row.mir) value_local
        ∷ local (lone heap.the_row.mir) value_local ∷ local ty_ptr value_local ∷ local ty_ptr value_local ∷ [];
    body = seq (assign (place 3 []) (rv_opd (copy (place 1 (field 0 ∷ [])))))
        (seq (assign (place 4 []) (rv_opd (copy (place 3 []))))
        (seq (assign (place 0 []) (aggregate (copy (place 4 []) ∷ copy (place 2 []) ∷ []))) return));
  }

  module _ {M : Type 1} (𝓤 : Ura M) (𝓛 : Logic 𝓤) where
    abbrev pub of_clauses : Clauses 𝓤 of_ended
    of_clauses = λ κs args. record {
      ghost = Unit {0};
      requires = λ _. emp 𝓤;
      ensures = λ _ result _. sep 𝓤 (fact 𝓤 (holds k.kind result ≡ true))
          (fact 𝓤 (k.kind.held result ≡ args.0.value));
    }

    abbrev pub into_clauses : Clauses 𝓤 into_ended
    into_clauses = λ κs args. record {
      ghost = Unit {0};
      requires = λ _. fact 𝓤 (holds k.kind args.0 ≡ true);
      ensures = λ _ result _. fact 𝓤 (result.value ≡ k.kind.held args.0);
    }

    module _ (𝓜 : Model 𝓤 𝓛.H) (𝓡 : Running 𝓤 𝓛.H 𝓜) (name : Callee) where
      pub of_meets : Closed 𝓤 𝓛.H (tables 𝓤 𝓛.H 𝓜 𝓡 𝓡.env).C (tables 𝓤 𝓛.H 𝓜 𝓡 𝓡.env).Λ name of_code
          → Meets 𝓛 of_ended.signature ((tables 𝓤 𝓛.H 𝓜 𝓡 𝓡.env).C name) (closing 𝓛 of_ended of_clauses)
      of_meets closed =
          let H = 𝓛.H in let 𝓣 = tables 𝓤 H 𝓜 𝓡 𝓡.env in let c = of_clauses in let fn = of_code in
          let R : RattleType = k.kind.row in let Z : RattleType = heap.the_row in let LZ = heap_laws.the_row_laws in
          let hs : Stays of_ended.signature.params of_ended.kept = (stay_dropped (plain (λ _. Pointer R)) yes, tt) in
          proved_at 𝓛 of_ended hs c 𝓜 𝓡 (Goes-blank 𝓛 0 (plain (λ _. Pointer R)) yes (λ κs x f. tt), tt) name fn closed
          (λ z are.
          let κs = z.0.0 in let v = z.0.3.0 in let Post : Val → SProp 𝓤 = (walk_of 𝓛 of_ended hs c).post z in
          let Run : List Val → SProp 𝓤 = λ ws. WpFn 𝓤 H 𝓣.C 𝓣.Λ fn ws Post in
          qed 𝓛
          ((‵ ftrue ⊛ ‵ (owns (types_at of_ended.signature.params κs) z.0.3 z.0.4)) ∷ raw ((c κs z.0.3).requires z.1)
          ∷ []) ∵
          split ! $ move ! (1 ∷ []) $ fsplit ! $
          unpacked R Z LZ ghosts ! v z.0.4.0 (λ b o h e ws good.
          let w : Val = two (vptr b o) h in let typed = fits R Z LZ ghosts b o h good in
          let x : Handle = filled k (block_ptr b o) v.value in
          let is_held : k.kind.held x ≡ v.value = k.is_held (block_ptr b o) v.value in
          let is_open : holds k.kind x ≡ true = eq-eqb k.kind.number k.kind.number refl in
          suffices ! (Run (w ∷ []))
          (subst (λ (us : List Val). ent 𝓤 (Run (w ∷ [])) (Run us)) (sym (λ i. ws i ++ [])) (id⊢ 𝓤 (Run (w ∷ [])))) $
          enter ! 𝓣.C 𝓣.Λ fn (w ∷ []) Post $ alloc_all ! (λ l. pass_all ! refl (typed, tt) $
          sets ! (of_opd ! (get_in ! (fld ! refl (stop !)) (sub ! 0 refl (whole !)))) refl (tt, tt) $
          sets ! (of_opd ! (get ! refl)) refl (tt, tt) $
          sets !
          (agg ! (and_then ! (get ! refl) (and_then ! (true_lit !) (and_then ! (lit ! k.is_small) (no_more !))))) refl
          (tt, (tt, (tt, (record { fits = lit< k.is_small }, tt)))) $
          rewrite ! 0 (λ (y : R.Denot). ‵ (box_owns frees R (block_ptr b o) y)) (sym is_held) refl $
          use1 𝓛 (‵ (owns_as x true k.kind.number))
          (subst (λ (F : Fml). ent 𝓤 (sem 𝓛 F) (sem 𝓛 (owns_as x true k.kind.number))) (k.same x) (id⊢ 𝓤 _)) $
          handle_in ! x (lit< k.is_small) $
          use0 𝓛 (raw (fact 𝓤 (k.kind.held x ≡ v.value)))
          (fact_i 𝓤 (k.kind.held x ≡ v.value) (emp 𝓤) is_held) $
          use0 𝓛 (raw (fact 𝓤 (holds k.kind x ≡ true)))
          (fact_i 𝓤 (holds k.kind x ≡ true) (emp 𝓤) is_open) $
          join ! $ nothing ! $ nothing ! $ fjoin ! $
          returns ! (look_at ! 0 refl) $ free_all ! refl $ keep ! (5 ∷ 0 ∷ 2 ∷ 1 ∷ []) $
          by ! (leaves 𝓛 of_ended hs c z (word (block_ptr b o) true k.kind.number) x (tt, tt) (tt, tt)))))

      pub into_meets : Closed 𝓤 𝓛.H (tables 𝓤 𝓛.H 𝓜 𝓡 𝓡.env).C (tables 𝓤 𝓛.H 𝓜 𝓡 𝓡.env).Λ name into_code
          → Meets 𝓛 into_ended.signature ((tables 𝓤 𝓛.H 𝓜 𝓡 𝓡.env).C name) (closing 𝓛 into_ended into_clauses)
      into_meets closed =
          let H = 𝓛.H in let 𝓣 = tables 𝓤 H 𝓜 𝓡 𝓡.env in let c = into_clauses in let fn = into_code in
          let R : RattleType = k.kind.row in let Z : RattleType = heap.the_row in let LZ = heap_laws.the_row_laws in
          let hs : Stays into_ended.signature.params
          into_ended.kept = (stay_dropped (plain (λ _. handle.the_row)) yes, (stay_dropped (plain (λ _. Z)) yes, tt)) in
          proved_at 𝓛 into_ended hs c 𝓜 𝓡 (
            Goes-blank 𝓛 0 (plain (λ _. handle.the_row)) yes (λ κs x f. tt),
            (Goes-dropped 𝓛 0 (plain (λ _. Z)) yes (λ κs x f. refl), tt),
          ) name fn closed (λ z are.
          let κs = z.0.0 in let d = z.0.3.0 in let a = z.0.3.1.0 in
          let Post : Val → SProp 𝓤 = (walk_of 𝓛 into_ended hs c).post z in
          let Run : List Val → SProp 𝓤 = λ ws. WpFn 𝓤 H 𝓣.C 𝓣.Λ fn ws Post in
          let hv = one (layout Z) z.0.4.1.0 ((LZ.lawful 𝓛).typed a z.0.4.1.0 are.1.0) in let h = hv.0 in
          qed 𝓛
          ((‵ ftrue ⊛ ‵ (owns (types_at into_ended.signature.params κs) z.0.3 z.0.4)) ∷ raw ((c κs z.0.3).requires z.1)
          ∷ []) ∵
          move ! (1 ∷ []) $ heard ! (holds k.kind d ≡ true) (λ is.
          split ! $ move ! (1 ∷ []) $ fsplit ! $ move ! (1 ∷ []) $ fsplit ! $ move ! (2 ∷ []) $
          handle_out ! d z.0.4.0 (λ ws. open_in_block ! R k.kind.number (k.kind.held d) d is
          (subst (λ (F : Fml). ent 𝓤 (sem 𝓛 (owns_as d true k.kind.number)) (sem 𝓛 F)) (k.same d) (id⊢ 𝓤 _))
          (λ b o opened.
          move ! (1 ∷ []) $ rewrite ! 0 (λ (us : List Val). ‵ (Z.own_val a us)) hv.1 refl $ move ! (1 ∷ []) $
          let w : Val = word (block_ptr b o) true k.kind.number in let typed = fits R Z LZ ghosts b o h hv.2 in
          suffices ! (Run (w ∷ h ∷ [])) (subst (λ (us : List Val). ent 𝓤 (Run (w ∷ h ∷ [])) (Run us))
          (sym (λ i. (ws ∙ (λ j. opened j ∷ [])) i ++ (hv.1 i ++ []))) (id⊢ 𝓤 (Run (w ∷ h ∷ [])))) $
          enter ! 𝓣.C 𝓣.Λ fn (w ∷ h ∷ []) Post $
          alloc_all ! (λ l. pass_all ! refl ((tt, (tt, (tt, (record { fits = lit< k.is_small }, tt)))), (hv.2, tt)) $
          sets ! (of_opd ! (get_in ! (fld ! refl (stop !)) (sub ! 0 refl (whole !)))) refl (tt, tt) $
          sets ! (of_opd ! (get ! refl)) refl (tt, tt) $
          sets ! (agg ! (and_then ! (get ! refl) (and_then ! (get ! refl) (no_more !)))) refl typed $
          put_together R Z LZ ghosts ! b o h a (k.kind.held d) $
          use0 𝓛 (raw (fact 𝓤 (k.kind.held d ≡ k.kind.held d)))
          (fact_i 𝓤 (k.kind.held d ≡ k.kind.held d) (emp 𝓤) refl) $
          nothing ! $ nothing ! $ fjoin ! $ nothing ! $ fjoin ! $
          returns ! (look_at ! 0 refl) $ free_all ! refl $ keep ! (4 ∷ 0 ∷ 2 ∷ 1 ∷ []) $
          by ! (leaves 𝓛 into_ended hs c z (two (vptr b o) h)
          (record { at = block_ptr b o; alloc = a; value = k.kind.held d }) (tt, (tt, tt)) (tt, (tt, tt))))))))

abbrev pub controllers : Form
controllers = record {
  kind = a_controller;
  holding = λ x. record any_handle { controller = x };
  is_small = tt;
  is_held = λ _ _. refl;
  same = λ _. refl;
}

abbrev pub sessions : Form
sessions = record {
  kind = a_session;
  holding = λ x. record any_handle { session = x };
  is_small = tt;
  is_held = λ _ _. refl;
  same = λ _. refl;
}

abbrev pub logs : Form
logs = record {
  kind = a_log;
  holding = λ x. record any_handle { log = x };
  is_small = tt;
  is_held = λ _ _. refl;
  same = λ _. refl;
}

abbrev pub discoveries : Form
discoveries = record {
  kind = a_discovery;
  holding = λ x. record any_handle { discovery = x };
  is_small = tt;
  is_held = λ _ _. refl;
  same = λ _. refl;
}
