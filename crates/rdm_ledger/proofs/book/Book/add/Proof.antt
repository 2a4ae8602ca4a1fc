-- `add` changes both halves of a list.
use Rattle.std.proofs.Common.{◌≡◌, ℕ, ◌+◌, Bool, true, false, List, [], ◌∷◌, ◌++◌, length, set, sym, refl, ap, ◌∙◌}
use Rattle.std.proofs.Common.{subst, arith}
use Rattle.std.specs.Prelude.{slice_get, Some}
use mir.Syntax.{a_type, dcons, dnil, named}
use mir.Val.{Val, vunit, vptr, vstruct, vcons, vnil}
use mir.MapTy.{inst_fn}
use base.Logic.{SProp, emp, id⊢}
use base.Fml.{Fml, ftrue, fsep, flft}
use base.Stored.{coded_list}
use types.Logic.{sem}
use types.Kit.{‵, raw, ◌⊛◌, some, given, later, ◌$◌, ◌∵◌, !, qed, by, move, keep, drop, split, join, fsplit, fsplit3}
use types.Kit.{fjoin, fjoin3, pick, learn, use0, use1, use2, await, rewrite, feq_i}
use types.Run.{of_opd, unit_lit, no_more, and_then, returns, enter}
use types.ByLocal.{alloc_all, pass_all, free_all, look_at, get, sets}
use types.Part.{agg}
use contract.Monad.{fact, fact_i}
use contract.Running.{tables}
use denote.Exit.{yes, no}
use denote.RattleType.{RattleType, owns}
use denote.Signature.{types_at, plain}
use denote.Builtin.{RefOf, unit}
use denote.Ref.{mut_vals, mut_Tells, shr_vals, shr_Tells}
use denote.Steps.{nothing, opens, closes}
use denote.Param.{param, bounded}
use denote.Struct.Tuple.{Tuple}
use denote.Triple.Walked.{Stays, stay_dropped, stay_ref, walk_of, Goes-dropped, Goes-ref}
use Rattle.core.proofs.ledger.Walks.{tells_all}
use Rattle.atomic_table.proofs.Walks.{proved}
use Rattle.logbook.proofs.Fields.{token, Token, token_told, token_made, ends}
use Rattle.rdm_ledger.specs.Owned.{blank_owns, book_owns, share_owns}
use Rattle.rdm_ledger.proofs.Steps as steps
use Rattle.rdm_ledger.specs.contracts.book.Items as Items
use Rattle.rdm_ledger.specs.contracts.book.Book as Book
use Rattle.rdm_ledger.specs.contracts.book.Share as Share
use Rattle.rdm_ledger.specs.contracts.book.Book.add.{ended, clauses}
use Rattle.rdm_ledger.specs.contracts.book.Book.add.Key.{name as #self}
use Rattle.rdm_ledger.proofs.book.Book.add.Statement.{statement}
use Rattle.rdm_ledger.proofs.book.Book.add.Code as code

pub add_spec : {M : Type 1} → statement M
add_spec 𝓤 𝓛 𝓜 𝓡 wired T L _ _ g d _ =
    let H = 𝓛.H in let 𝓣 = tables 𝓤 H 𝓜 𝓡 𝓡.env in let T' : RattleType = param 0 T in
    let L' : RattleType = param 1 L in let En = ended T L g d in
    let inst = bounded (a_type ∷ a_type ∷ []) (T, (L, tt)) (dcons d dnil) in let fn = inst_fn inst code.function in
    let c = clauses T L g d 𝓛 𝓜.mem 𝓡.returns in
    let cv = coded_list T'.coded in let B : RattleType = Book.the_row T' L' g in
    let S : RattleType = Share.the_row T' L' g in let P : RattleType = Items.the_row T' in
    let hs : Stays En.signature.params En.kept = (
      stay_ref (0 ∷ []) tt (plain (λ _.
          B)),
      (
        stay_ref (1 ∷ []) tt (plain (λ _. S)),
        (
          stay_dropped (RefOf (2 ∷ []) tt (plain (λ _. P)) (λ _.
              tt)) yes,
          tt,
        ),
      ),
    ) in
    proved 𝓛 En hs c 𝓜 𝓡 (
      Goes-ref 𝓛 5 0 tt (plain (λ _. B)),
      (
        Goes-ref 𝓛 5 1 tt (plain (λ _.
            S)),
        (
          Goes-dropped 𝓛 5 (RefOf (2 ∷ []) tt (plain (λ _. P)) (λ _. tt)) yes (λ κs x f.
              refl),
          tt,
        ),
      ),
    ) (#self inst) fn (code.unfolded 𝓤 H 𝓜 𝓡 wired (T, (L, tt)) d)
    (λ κs. (mut_vals, (mut_vals, (shr_vals, tt)))) (λ κs. (
      mut_Tells (named 0) κs.0 B,
      (
        mut_Tells (named 1) κs.1.0 S,
        (
          shr_Tells (named 2) κs.1.1.0 P,
          tt,
        ),
      ),
    )) (λ κs qs bounds a gh are.
    let r = a.0 in let s = a.1.0 in let m = a.1.1.0 in let h : B.Denot = r.now in let k : S.Denot = s.now in
    let h' : B.Denot = record { of = record {}; lists = set h.lists k.index (k.items ++ m.now.items) } in
    let k' : S.Denot = record { of = record {}; index = k.index; items = k.items ++ m.now.items } in
    let u : Val = vptr r.ref_ptr.0 r.ref_ptr.1 in let v : Val = vptr s.ref_ptr.0 s.ref_ptr.1 in
    let w : Val = vptr m.ref_ptr.0 m.ref_ptr.1 in
    let y : (walk_of 𝓛 En hs c).Ghost = ((κs, qs, bounds, a, (u ∷ [], (v ∷ [], (w ∷ [], tt)))), gh) in
    let Post : Val → SProp 𝓤 = (walk_of 𝓛 En hs c).post y in
    let toks : Fml = fsep (flft κs.0 qs.0) (fsep (flft κs.1.0 qs.1.0) (fsep (flft κs.1.1.0 qs.1.1.0) (fsep (flft
    κs.1.1.1.0 qs.1.1.1.0) (fsep (flft κs.1.1.1.1.0 qs.1.1.1.1.0) ftrue)))) in
    qed 𝓛 ((‵ toks ⊛ ‵ (owns (types_at En.signature.params κs) a y.0.4)) ∷ raw ((c κs a).requires gh) ∷ []) ∵ keep !
    (0 ∷ []) $ split ! $
    fsplit ! $ move ! (1 ∷ []) $ fsplit ! $ move ! (3 ∷ []) $ fsplit ! $ fsplit3 ! $ move ! (3 ∷ []) $ fsplit ! $
    fsplit3 ! $ keep ! (1 ∷ 2 ∷ 5 ∷ 6 ∷ 7 ∷ 8 ∷ 9 ∷ []) $
    enter ! 𝓣.C 𝓣.Λ fn (u ∷ v ∷ w ∷ []) Post $
    alloc_all ! (λ l. pass_all ! refl ((tt, tt), ((tt, tt), ((tt, tt), tt))) $
    move ! (2 ∷ 3 ∷ 6 ∷ []) $ opens ! tt B r.ref_ptr.0 r.ref_ptr.1 (λ cs. move ! (1 ∷ []) $ fsplit ! $
    move ! (6 ∷ 7 ∷ 8 ∷ []) $ opens ! tt S s.ref_ptr.0 s.ref_ptr.1 (λ ds. move ! (1 ∷ []) $ fsplit ! $
    move ! (7 ∷ 1 ∷ []) $
    use2 𝓛 (later (given (slice_get h.lists k.index ≡ Some k.items) (‵ (book_owns cv.code g.lists h'.lists) ⊛
    ‵ (share_owns cv.code g.lists k'.index k'.items)))) (steps.adds 𝓛 cv g.lists h.lists k.index k.items
    k'.items) $
    await ! tt $ learn ! (λ agreed. split ! $ move ! (2 ∷ 1 ∷ []) $ fjoin ! $ move ! (6 ∷ 1 ∷ []) $ fjoin ! $
    move ! (2 ∷ 1 ∷ 3 ∷ 4 ∷ 5 ∷ []) $ closes ! tt S k' ds s.ref_ptr.0 s.ref_ptr.1 $
    move ! (4 ∷ 3 ∷ 5 ∷ 6 ∷ 7 ∷ []) $ closes ! tt B h' cs r.ref_ptr.0 r.ref_ptr.1 $
    sets ! (of_opd ! (unit_lit !)) refl (tt, tt) $ feq_i ! (List Val) (vunit ∷ []) (vunit ∷ []) refl $
    move ! (6 ∷ 7 ∷ []) $ fjoin ! $ move ! (4 ∷ 0 ∷ []) $ fjoin ! $ nothing ! $ nothing ! $ fjoin ! $
    feq_i ! (List Val) (v ∷ []) (v ∷ []) refl $ move ! (0 ∷ 6 ∷ 7 ∷ []) $ fjoin3 ! $ fjoin ! $
    feq_i ! (List Val) (u ∷ []) (u ∷ []) refl $ move ! (0 ∷ 4 ∷ 5 ∷ []) $ fjoin3 ! $ fjoin ! $
    returns ! (look_at ! 0 refl) $ free_all ! refl $ keep ! (1 ∷ 0 ∷ 2 ∷ []) $
    by ! (ends 𝓛 En hs c y vunit tt (h', (k', (tt, tt))) (tt, (tt, (tt, tt)))
    (tells_all 𝓤 ((slice_get h.lists k.index ≡ Some k.items) ∷ (k'.items ≡ k'.items) ∷ (k'.index ≡ k'.index) ∷
    (h'.lists ≡ h'.lists) ∷ []) (agreed, (refl, (refl, refl))))))))))
