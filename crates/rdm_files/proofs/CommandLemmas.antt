-- Items that pass a test, one after another.
use Rattle.std.proofs.Common.{◌≡◌, ℕ, zero, suc, ◌+◌, ◌<◌, ◌++◌, ◌∷◌, [], List, length, take, get_or, Bool, true, false}
use Rattle.std.proofs.Common.{Some, refl, sym, ap, ◌∙◌, subst, arith}
use Rattle.std.specs.Prelude.{if◌then◌else◌, option_and_then}
use Rattle.std.specs.Option.{option_map_or}
use Rattle.std.proofs.lemmas.List.{take_more}
use Rattle.serde_json.specs.Data.{Data, Items}
use Rattle.serde_json.specs.Find.{get, as_array}
use Rattle.serde_json.specs.View.{view, items_view}
use Rattle.serde_json.specs.declared.value.Value.{Value}
use Rattle.rdm_files.specs.Commands.{any_item, any_under}

if_here : (b rest : Bool) → b ≡ true → (if b then true else rest) ≡ true
if_here true rest h = refl
if_here false rest h = cc

if_later : (b rest : Bool) → rest ≡ true → (if b then true else rest) ≡ true
if_later true rest h = refl
if_later false rest h = h

if_neither : (b x y : Bool) → (if b then true else x) ≡ false → (x ≡ false → y ≡ false)
    → (if b then true else y) ≡ false
if_neither true x y none more = cc
if_neither false x y none more = more none

-- an item that passes
pub any_at : (p : Data → Bool) (vs : List Value) (i : ℕ) (v : Value) → i < length vs → v ≡ get_or vs i v
    → p (view v) ≡ true → any_item p (items_view vs) ≡ true
any_at p [] i v lt is passes = absurd (omega (arith, lt))
any_at p (w ∷ ws) zero v lt is passes =
    if_here (p (view w)) (any_item p (items_view ws)) (ap (λ u. p (view u)) (sym is) ∙ passes)
any_at p (w ∷ ws) (suc i) v lt is passes =
    if_later (p (view w)) (any_item p (items_view ws)) (any_at p ws i v (omega (arith, lt)) is passes)

-- one more item that doesn't
any_more : (p : Data → Bool) (vs : List Value) (v : Value) → any_item p (items_view vs) ≡ false → p (view v) ≡ false
    → any_item p (items_view (vs ++ v ∷ [])) ≡ false
any_more p [] v none here = rw here refl
any_more p (w ∷ ws) v none here =
    if_neither (p (view w)) (any_item p (items_view ws)) (any_item p (items_view (ws ++ v ∷ []))) none
    (λ rest. any_more p ws v rest here)

pub any_next : (p : Data → Bool) (vs : List Value) (i : ℕ) (v : Value) → i < length vs → v ≡ get_or vs i v
    → any_item p (items_view (take i vs)) ≡ false → p (view v) ≡ false
    → any_item p (items_view (take (i + 1) vs)) ≡ false
any_next p vs i v lt is none here =
    let more = take_more vs i v lt ∙ ap (λ w. take i vs ++ w ∷ []) (sym is) in
    subst (λ us. any_item p (items_view us) ≡ false) (sym more) (any_more p (take i vs) v none here)

-- the list under a key
pub any_in : (key : List ℕ) (p : Data → Bool) (d e : Data) (items : Items) (b : Bool) → Some e ≡ get key d
    → Some items ≡ as_array e → any_item p items ≡ b → any_under key p d ≡ b
any_in key p d e items b has list is =
    ap (λ o. option_map_or (any_item p) (option_and_then as_array o) false) (sym has)
    ∙ ap (λ o. option_map_or (any_item p) o false) (sym list) ∙ is
