-- `begin` cuts the next entry in two.
use Rattle.std.proofs.Common.{◌≡◌, ℕ, ◌+◌, Bool, true, false, List, [], ◌∷◌, ◌++◌, length, set, sym, refl, ap, ◌∙◌}
use Rattle.std.proofs.Common.{subst, arith}
use Rattle.std.specs.Prelude.{slice_get, Some}
use mir.Syntax.{a_type, dcons, dnil, named}
use mir.Val.{Val, vunit, vptr, vstruct, vcons, vnil}
use mir.MapTy.{inst_fn}
use base.Logic.{SProp, emp, id⊢}
use base.Fml.{Fml, ftrue, fsep, flft}
use base.Stored.{coded_list}
use types.Logic.{sem}
use types.Kit.{‵, raw, ◌⊛◌, some, given, later, ◌$◌, ◌∵◌, !, qed, by, move, keep, drop, split, join, fsplit, fsplit3}
use types.Kit.{fjoin, fjoin3, pick, learn, use0, use1, use2, await, rewrite, feq_i}
use types.Run.{of_opd, unit_lit, no_more, and_then, returns, enter}
use types.ByLocal.{alloc_all, pass_all, free_all, look_at, get, sets}
use types.Part.{agg}
use contract.Monad.{fact, fact_i}
use contract.Running.{tables}
use denote.Exit.{yes, no}
use denote.RattleType.{RattleType, owns}
use denote.Signature.{types_at, plain}
use denote.Builtin.{RefOf, unit}
use denote.Ref.{mut_vals, mut_Tells, shr_vals, shr_Tells}
use denote.Steps.{nothing, opens, closes}
use denote.Param.{param, bounded}
use denote.Struct.Tuple.{Tuple}
use denote.Triple.Walked.{Stays, stay_dropped, stay_ref, walk_of, Goes-dropped, Goes-ref}
use Rattle.core.proofs.ledger.Walks.{tells_all}
use Rattle.atomic_table.proofs.Walks.{proved}
use Rattle.logbook.proofs.Fields.{token, Token, token_told, token_made, ends}
use Rattle.rdm_ledger.specs.Owned.{blank_owns, book_owns, share_owns}
use Rattle.rdm_ledger.proofs.Steps as steps
use Rattle.rdm_ledger.specs.contracts.book.Book as Book
use Rattle.rdm_ledger.specs.contracts.book.Share as Share
use Rattle.rdm_ledger.specs.contracts.book.Book.begin.{ended, clauses}
use Rattle.rdm_ledger.specs.contracts.book.Book.begin.Key.{name as #self}
use Rattle.rdm_ledger.proofs.book.Book.begin.Statement.{statement}
use Rattle.rdm_ledger.proofs.book.Book.begin.Code as code

pub begin_spec : {M : Type 1} → statement M
begin_spec 𝓤 𝓛 𝓜 𝓡 wired T L _ _ g d _ =
    let H = 𝓛.H in let 𝓣 = tables 𝓤 H 𝓜 𝓡 𝓡.env in let T' : RattleType = param 0 T in
    let L' : RattleType = param 1 L in let En = ended T L g d in
    let inst = bounded (a_type ∷ a_type ∷ []) (T, (L, tt)) (dcons d dnil) in let fn = inst_fn inst code.function in
    let c = clauses T L g d 𝓛 𝓜.mem 𝓡.returns in
    let cv = coded_list T'.coded in let All : RattleType = Tuple (T' ∷ L' ∷ []) in
    let B : RattleType = Book.the_row T' L' g in
    let hs : Stays En.signature.params En.kept = (stay_ref (0 ∷ []) tt (plain (λ _. B)), tt) in
    proved 𝓛 En hs c 𝓜 𝓡 (
      Goes-ref 𝓛 3 0 tt (plain (λ _.
          B)),
      tt,
    ) (#self inst) fn (code.unfolded 𝓤 H 𝓜 𝓡 wired (T, (L, tt)) d)
    (λ κs. (mut_vals, tt)) (λ κs. (mut_Tells (named 0) κs.0 B, tt)) (λ κs qs bounds a gh are.
    let b : ℕ = a.0.ref_ptr.0 in let o : ℕ = a.0.ref_ptr.1 in let h : B.Denot = a.0.now in
    let h' : B.Denot = record { of = record {}; lists = h.lists ++ [] ∷ [] } in
    let r : (Share.the_row T' L' g).Denot = record { of = record {}; index = length h.lists; items = [] } in
    let y : (walk_of 𝓛 En hs c).Ghost = ((κs, qs, bounds, a, (vptr b o ∷ [], tt)), gh) in
    let Post : Val → SProp 𝓤 = (walk_of 𝓛 En hs c).post y in
    let toks : Fml = fsep (flft κs.0 qs.0) (fsep (flft κs.1.0 qs.1.0) (fsep (flft κs.1.1.0 qs.1.1.0) ftrue)) in
    qed 𝓛 ((‵ toks ⊛ ‵ (owns (types_at En.signature.params κs) a y.0.4)) ∷ raw ((c κs a).requires gh) ∷ []) ∵ keep !
    (0 ∷ []) $ split ! $
    fsplit ! $ move ! (2 ∷ []) $ fsplit ! $ fsplit3 ! $ keep ! (1 ∷ 2 ∷ 4 ∷ 5 ∷ []) $
    enter ! 𝓣.C 𝓣.Λ fn (vptr b o ∷ []) Post $ alloc_all ! (λ l. pass_all ! refl ((tt, tt), tt) $
    opens ! tt B b o (λ ts. move ! (1 ∷ []) $ fsplit ! $ move ! (1 ∷ []) $
    use1 𝓛 (later (‵ (book_owns cv.code g.lists h'.lists) ⊛
    ‵ (share_owns cv.code g.lists r.index r.items))) (steps.enrols 𝓛 cv g.lists h.lists []) $ await ! tt $
    split ! $
    move ! (2 ∷ 0 ∷ []) $ fjoin ! $ move ! (2 ∷ 0 ∷ 3 ∷ 4 ∷ 5 ∷ []) $ closes ! tt B h' ts b o $
    feq_i ! (List Val) (vptr b o ∷ []) (vptr b o ∷ []) refl $ fjoin3 ! $ nothing ! $ move ! (1 ∷ 0 ∷ []) $ fjoin ! $
    move ! (1 ∷ 3 ∷ []) $ fjoin ! $ move ! (2 ∷ []) $
    use0 𝓛 (‵ ((Token All).own_val (record {}, tt) (token ∷ []))) (token_made All 𝓛) $ fjoin ! $
    sets ! (agg ! (no_more !)) refl (tt, tt) $
    sets ! (agg ! (and_then ! (get ! refl) (no_more !))) refl (tt, (tt, tt)) $
    returns ! (look_at ! 0 refl) $ free_all ! refl $ keep ! (1 ∷ 2 ∷ 0 ∷ []) $
    by ! (ends 𝓛 En hs c y token r (h', tt) (
      tt,
      tt,
    ) (tells_all 𝓤 ((r.index ≡ r.index) ∷ (r.items ≡ r.items) ∷ (h'.lists ≡ h'.lists) ∷ []) (
      refl,
      (
        refl,
        refl,
      ),
    ))))))
