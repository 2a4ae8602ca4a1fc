-- `kind` reads a field through a `&mut`.
use Rattle.rdm_handles.proofs.Common.{List, [], ◌∷◌, refl, sym, ◌^◌, named, w32, Val, vint, ftrue, flft, full_share}
use Rattle.rdm_handles.proofs.Common.{tables, ‵, ◌⊛◌, ◌$◌, ◌∵◌, !, qed, done, move, keep, split, join, fsplit3, fjoin}
use Rattle.rdm_handles.proofs.Common.{feq_i, rewrite, suffices, frame, group, stop, fld, load, of_opd, returns, enter}
use Rattle.rdm_handles.proofs.Common.{alloc_all, pass_all, free_all, look_at, through, sets, whole, sub, look_in, shows}
use Rattle.rdm_handles.proofs.Common.{cell_at, MutRef, mut_vals, mut_Tells, plain, nothing, opens, closes, peeks, says}
use Rattle.rdm_handles.proofs.Common.{Stays, stay_ref, walk_of, ends_at, Goes-ref, proved}
use types.Kit.{flt_i}
use Rattle.rdm_handles.specs.contracts.handle.Handle.{the_row as R}
use Rattle.rdm_handles.proofs.handle.Handle.TheLaws.{lowers}
use Rattle.rdm_handles.specs.contracts.handle.Handle.kind as f
use Rattle.rdm_handles.proofs.handle.Handle.kind.Statement.{statement}
use Rattle.rdm_handles.proofs.handle.Handle.kind.Code as code

abbrev stayed : Stays f.ended.signature.params f.ended.kept
stayed = (stay_ref (0 ∷ []) tt (plain (λ _. R)), tt)

pub kind_spec : {M : Type 1} → statement M
kind_spec 𝓤 𝓛 𝓜 𝓡 wired =
    let c = f.clauses 𝓛 𝓜.mem 𝓡.returns in let W = walk_of 𝓛 f.ended stayed c in let 𝓣 = tables 𝓤 𝓛.H 𝓜 𝓡 𝓡.env in
    proved 𝓛 f.ended stayed c 𝓜 𝓡 (Goes-ref 𝓛 1 0 tt (plain (λ _. R)), tt)
    f.Key.name code.function (code.unfolded 𝓤 𝓛.H 𝓜 𝓡 wired)
    (λ κs. (mut_vals, tt)) (λ κs. (mut_Tells (named 0) κs.0 R, tt)) (λ κs qs bounds a _ are.
    let b = a.0.ref_ptr.0 in let o = a.0.ref_ptr.1 in let h = a.0.now in let vs = mut_vals a.0 in
    let y : W.Ghost = ((κs, qs, bounds, a, (vs, tt)), tt) in
    qed 𝓛 (((‵ (flft κs.0 qs.0) ⊛ ‵ ftrue) ⊛ ‵ ((MutRef (named 0) κs.0 R).own_val a.0 vs) ⊛ ‵ ftrue) ∷ ‵ ftrue ∷ []) ∵
    split ! $ split ! $ move ! (2 ∷ []) $ split ! $ keep ! (0 ∷ 2 ∷ []) $
    enter ! _ _ _ _ _ $ alloc_all ! (λ l. pass_all ! refl ((tt, tt), tt) $
    fsplit3 ! $ move ! (1 ∷ 2 ∷ 3 ∷ []) $ opens ! tt R b o (λ us.
    move ! (1 ∷ []) $ peeks ! R _ (shows 𝓛 R) h us (λ is.
    let word = lowers.val_is h us is in let Cell = λ (ws : List Val). ‵ (cell_at full_share R.mir ws b o) in
    -- [what the handle owns; the struct's cell; the open borrow, in three entries]
    rewrite ! 1 Cell word refl $
    sets ! (of_opd ! (load ! (through ! refl (fld ! refl (stop !))) (look_in ! 1 (sub ! 2 refl (whole !))))) refl
    (tt, record { fits = is.0.1.1.1.1.0.1 }) $
    rewrite ! 1 Cell (sym word) refl $ move ! (1 ∷ []) $ closes ! tt R h us b o $
    returns ! (look_at ! 0 refl) $ free_all ! refl $ move ! (3 ∷ []) $
    suffices ! _ (ends_at 𝓛 f.ended stayed c y (vint w32 h.kind) h.kind (h, tt) (tt, tt)) $ says ! (refl, refl) $
    group ! 3 $ nothing ! $ move ! (1 ∷ 0 ∷ []) $ join ! $ nothing ! $ move ! (2 ∷ 0 ∷ []) $ join ! $ frame !
    $ frame ! $ flt_i ! h.kind (2 ^ 32) is.0.1.1.1.1.0.1 $
    feq_i ! (List Val) (vint w32 h.kind ∷ []) (vint w32 h.kind ∷ []) refl $ fjoin ! $ done !))))
