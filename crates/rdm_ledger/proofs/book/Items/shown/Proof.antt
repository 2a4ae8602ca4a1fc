-- `shown` makes a token.
use Rattle.std.proofs.Common.{◌≡◌, ℕ, ◌+◌, Bool, true, false, List, [], ◌∷◌, ◌++◌, length, set, sym, refl, ap, ◌∙◌}
use Rattle.std.proofs.Common.{subst, arith}
use Rattle.std.specs.Prelude.{slice_get, Some}
use mir.Syntax.{a_type, dcons, dnil, named}
use mir.Val.{Val, vunit, vptr, vstruct, vcons, vnil}
use mir.MapTy.{inst_fn}
use base.Logic.{SProp, emp, id⊢}
use base.Fml.{Fml, ftrue, fsep, flft}
use base.Stored.{coded_list}
use types.Logic.{sem}
use types.Kit.{‵, raw, ◌⊛◌, some, given, later, ◌$◌, ◌∵◌, !, qed, by, move, keep, drop, split, join, fsplit, fsplit3}
use types.Kit.{fjoin, fjoin3, pick, learn, use0, use1, use2, await, rewrite, feq_i}
use types.Run.{of_opd, unit_lit, no_more, and_then, returns, enter}
use types.ByLocal.{alloc_all, pass_all, free_all, look_at, get, sets}
use types.Part.{agg}
use contract.Monad.{fact, fact_i}
use contract.Running.{tables}
use denote.Exit.{yes, no}
use denote.RattleType.{RattleType, owns}
use denote.Signature.{types_at, plain}
use denote.Builtin.{RefOf, unit}
use denote.Ref.{mut_vals, mut_Tells, shr_vals, shr_Tells}
use denote.Steps.{nothing, opens, closes}
use denote.Param.{param, bounded}
use denote.Struct.Tuple.{Tuple}
use denote.Triple.Walked.{Stays, stay_dropped, stay_ref, walk_of, Goes-dropped, Goes-ref}
use Rattle.core.proofs.ledger.Walks.{tells_all}
use Rattle.atomic_table.proofs.Walks.{proved}
use Rattle.logbook.proofs.Fields.{token, Token, token_told, token_made, ends}
use Rattle.rdm_ledger.specs.Owned.{blank_owns, book_owns, share_owns}
use Rattle.rdm_ledger.proofs.Steps as steps
use denote.Triple.Entry.{alive}
use Rattle.rdm_ledger.specs.contracts.book.Items as Items
use Rattle.rdm_ledger.specs.contracts.book.Items.shown.{ended, clauses}
use Rattle.rdm_ledger.specs.contracts.book.Items.shown.Key.{name as #self}
use Rattle.rdm_ledger.proofs.book.Items.shown.Statement.{statement}
use Rattle.rdm_ledger.proofs.book.Items.shown.Code as code

pub shown_spec : {M : Type 1} → statement M
shown_spec 𝓤 𝓛 𝓜 𝓡 wired T X Y Z W _ _ _ _ _ g d _ =
    let H = 𝓛.H in let 𝓣 = tables 𝓤 H 𝓜 𝓡 𝓡.env in let T' : RattleType = param 0 T in let En = ended T X Y Z W g d in
    let X' : RattleType = param 1 X in let Y' : RattleType = param 2 Y in let Z' : RattleType = param 3 Z in
    let inst = bounded (a_type ∷ a_type ∷ a_type ∷ a_type ∷ a_type ∷ []) (
      T,
      (
        X,
        (
          Y,
          (
            Z,
            (
              W,
              tt,
            ),
          ),
        ),
      ),
    ) (dcons d dnil) in let fn = inst_fn inst code.function in
    let c = clauses T X Y Z W g d 𝓛 𝓜.mem 𝓡.returns in
    let hs : Stays En.signature.params En.kept = (
      stay_dropped (RefOf (0 ∷ []) tt (plain (λ _. X')) (λ _.
          tt)) yes,
      (
        stay_dropped (RefOf (1 ∷ []) tt (plain (λ _. Y')) (λ _.
            tt)) yes,
        (stay_dropped (RefOf (2 ∷ []) tt (plain (λ _. Z')) (λ _. tt)) yes, tt),
      ),
    ) in
    proved 𝓛 En hs c 𝓜 𝓡 (
      Goes-dropped 𝓛 8 (RefOf (0 ∷ []) tt (plain (λ _. X')) (λ _. tt)) yes (λ κs x f.
          refl),
      (
        Goes-dropped 𝓛 8 (RefOf (1 ∷ []) tt (plain (λ _. Y')) (λ _. tt)) yes (λ κs x f.
            refl),
        (Goes-dropped 𝓛 8 (RefOf (2 ∷ []) tt (plain (λ _. Z')) (λ _. tt)) yes (λ κs x f. refl), tt),
      ),
    )
    (#self inst) fn (code.unfolded 𝓤 H 𝓜 𝓡 wired (T, (X, (Y, (Z, (W, tt))))) d)
    (λ κs. (shr_vals, (shr_vals, (shr_vals, tt)))) (λ κs. (
      shr_Tells (named 0) κs.0 X',
      (
        shr_Tells (named 1) κs.1.0 Y',
        (
          shr_Tells (named 2) κs.1.1.0 Z',
          tt,
        ),
      ),
    )) (λ κs qs bounds a gh are.
    let u : Val = vptr a.0.ref_ptr.0 a.0.ref_ptr.1 in let v : Val = vptr a.1.0.ref_ptr.0 a.1.0.ref_ptr.1 in
    let w : Val = vptr a.1.1.0.ref_ptr.0 a.1.1.0.ref_ptr.1 in
    let y : (walk_of 𝓛 En hs c).Ghost = ((κs, qs, bounds, a, (u ∷ [], (v ∷ [], (w ∷ [], tt)))), gh) in
    let Post : Val → SProp 𝓤 = (walk_of 𝓛 En hs c).post y in
    let r : (Items.the_row T').Denot = record { of = record {}; items = g.shown a.0.now a.1.0.now a.1.1.0.now } in
    qed 𝓛 ((raw (alive 𝓛 En.signature κs qs) ⊛
    ‵ (owns (types_at En.signature.params κs) a y.0.4)) ∷ raw ((c κs a).requires gh) ∷ []) ∵ keep ! (0 ∷ []) $
    split ! $ keep ! (0 ∷ []) $
    enter ! 𝓣.C 𝓣.Λ fn (u ∷ v ∷ w ∷ []) Post $
    alloc_all ! (λ l. pass_all ! refl ((tt, tt), ((tt, tt), ((tt, tt), tt))) $
    sets ! (agg ! (no_more !)) refl (tt, tt) $
    sets ! (agg ! (and_then ! (get ! refl) (no_more !))) refl (tt, (tt, tt)) $
    returns ! (look_at ! 0 refl) $ free_all ! refl $
    nothing ! $ nothing ! $ fjoin ! $ nothing ! $ fjoin ! $ nothing ! $ fjoin ! $
    nothing ! $ use0 𝓛 (‵ ((Token T').own_val (record {}, tt) (token ∷ []))) (token_made T' 𝓛) $ fjoin ! $
    keep ! (2 ∷ 1 ∷ 0 ∷ []) $
    by ! (ends 𝓛 En hs c y token r (tt, (tt, (tt, tt))) (tt, (tt, (tt, tt))) (fact_i 𝓤 _ (emp 𝓤) refl))))
