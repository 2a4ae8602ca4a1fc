-- `closed` makes a handle that owns nothing, at null.
use Rattle.rdm_handles.proofs.Common.{◌≡◌, [], ◌∷◌, refl, lit<, Val, SProp, emp, ftrue, ‵, raw, ◌⊛◌, ◌$◌, ◌∵◌, !, qed}
use Rattle.rdm_handles.proofs.Common.{by, keep, split, use0, lit, no_more, and_then, returns, enter, alloc_all}
use Rattle.rdm_handles.proofs.Common.{pass_all, free_all, look_at, sets, agg, fact, fact_i, tables, owns, types_at}
use Rattle.rdm_handles.proofs.Common.{null_ptr, nothing, walk_of, proved_at, leaves}
use mathlib.Core.Bool.{false}
use types.Run.{false_lit}
use Rattle.rdm_handles.proofs.Handles.{word, any_handle, handle_in}
use Rattle.rdm_handles.specs.contracts.handle.Handle.closed as f
use Rattle.rdm_handles.proofs.handle.Handle.closed.Statement.{statement}
use Rattle.rdm_handles.proofs.handle.Handle.closed.Code as code

pub closed_spec : {M : Type 1} → statement M
closed_spec 𝓤 𝓛 𝓜 𝓡 wired =
    let H = 𝓛.H in let 𝓣 = tables 𝓤 H 𝓜 𝓡 𝓡.env in let En = f.ended in let c = f.clauses 𝓛 𝓜.mem 𝓡.returns in
    let fn = code.function in
    proved_at 𝓛 En tt c 𝓜 𝓡 tt f.Key.name fn (code.unfolded 𝓤 H 𝓜 𝓡 wired) (λ z are.
    let κs = z.0.0 in let Post : Val → SProp 𝓤 = (walk_of 𝓛 En tt c).post z in
    qed 𝓛 ((‵ ftrue ⊛ ‵ (owns (types_at En.signature.params κs) z.0.3 z.0.4)) ∷ raw ((c κs z.0.3).requires z.1) ∷ []) ∵
    split ! $
    enter ! 𝓣.C 𝓣.Λ fn [] Post $ alloc_all ! (λ l. pass_all ! refl tt $
    sets ! (agg ! (and_then ! (lit ! tt) (and_then ! (false_lit !) (and_then ! (lit ! tt) (no_more !))))) refl
    (tt, (record { fits = lit< tt }, (tt, (record { fits = lit< tt }, tt)))) $
    nothing ! $ handle_in ! any_handle (lit< tt) $
    use0 𝓛 (raw (fact 𝓤 (false ≡ false))) (fact_i 𝓤 (false ≡ false) (emp 𝓤) refl) $ nothing ! $
    returns ! (look_at ! 0 refl) $ free_all ! refl $ keep ! (3 ∷ 0 ∷ 2 ∷ 1 ∷ []) $
    by ! (leaves 𝓛 En tt c z (word null_ptr false 0) any_handle tt tt)))
