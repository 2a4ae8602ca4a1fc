-- Lists of values, read one after another, and texts that say nothing.
use Rattle.std.proofs.Common.{◌≡◌, ℕ, zero, suc, ◌+◌, ◌<◌, ◌≤◌, List, [], ◌∷◌, ◌++◌, length, take, get_or}
use Rattle.std.proofs.Common.{Option, Some, None, Result, Ok, Err, false, refl, sym, ap, ◌∙◌, subst, arith}
use Rattle.std.specs.Prelude.{IsErrAnd, MatchOption}
use Rattle.std.proofs.lemmas.List.{take_all, take_more}
use Rattle.std.proofs.lemmas.Option.{same_Some}
use Rattle.hex.proofs.HexLemmas.{decode_sized-twice, decode_of-ok}
use Rattle.serde_json.specs.Data.{Data, no_items}
use Rattle.serde_json.specs.Find.{get, as_array, as_str}
use Rattle.serde_json.specs.View.{view, items_view}
use Rattle.serde_json.specs.declared.value.Value.{Value}
use Rattle.rdm_wire.specs.UidText.{UidText}
use Rattle.rdm_wire.proofs.UidLemmas.{text_once}
use Rattle.hex.specs.Hex.{decode_of, decode_sized}
use Rattle.rdm_files.specs.Forms.{is_memory, Reads, Each, IsListOf, IsWhole, IsUid, IsOwnUid, IsFourDigits, Has}
use Rattle.rdm_files.specs.Forms.{MayHave, MayGive}
use Rattle.rdm_files.specs.declared.scene.fault.SceneFault.{SceneFault}

-- one more item
pub each_more : {A : Type 0} (P : Data → A → Type 0) (vs : List Value) (xs : List A) (v : Value) (x : A)
    → Each P (items_view vs) xs → P (view v) x → Each P (items_view (vs ++ v ∷ [])) (xs ++ x ∷ [])
each_more P [] [] v x all here = (here, tt)
each_more P [] (y ∷ ys) v x all here = absurd all
each_more P (w ∷ ws) [] v x all here = absurd all
each_more P (w ∷ ws) (y ∷ ys) v x all here = (all.0, each_more P ws ys v x all.1 here)

-- as many as there are items
pub each_many : {A : Type 0} (P : Data → A → Type 0) (vs : List Value) (xs : List A) → Each P (items_view vs) xs
    → length xs ≡ length vs
each_many P [] [] all = refl
each_many P [] (y ∷ ys) all = absurd all
each_many P (w ∷ ws) [] all = absurd all
each_many P (w ∷ ws) (y ∷ ys) all = ap suc (each_many P ws ys all.1)

-- one of the items
pub each_at : {A : Type 0} (P : Data → A → Type 0) (vs : List Value) (xs : List A) (i : ℕ) (v : Value) → i < length vs
    → v ≡ get_or vs i v → Each P (items_view vs) xs → (x : A) × P (view v) x
each_at P [] xs i v lt is all = absurd (omega (arith, lt))
each_at P (w ∷ ws) [] i v lt is all = absurd all
each_at P (w ∷ ws) (y ∷ ys) zero v lt is all = (y, subst (λ t. P (view t) y) (sym is) all.0)
each_at P (w ∷ ws) (y ∷ ys) (suc i) v lt is all = each_at P ws ys i v (omega (arith, lt)) is all.1

-- the items before the one at i, and that one
pub each_next : {A : Type 0} (P : Data → A → Type 0) (vs : List Value) (xs : List A) (i : ℕ) (v : Value) (x : A)
    → i < length vs → v ≡ get_or vs i v → Each P (items_view (take i vs)) xs → P (view v) x
    → Each P (items_view (take (i + 1) vs)) (xs ++ x ∷ [])
each_next P vs xs i v x lt is all here =
    let more = take_more vs i v lt ∙ ap (λ w. take i vs ++ w ∷ []) (sym is) in
    subst (λ us. Each P (items_view us) (xs ++ x ∷ [])) (sym more) (each_more P (take i vs) xs v x all here)

-- the items of a list that is read as such
pub listed_items : {A : Type 0} (P : Data → A → Type 0) (least most : ℕ) (d : Data) (vs : List Value) (xs : List A)
    → Some (items_view vs) ≡ as_array d → IsListOf A P least most d xs → Each P (items_view vs) xs
listed_items P least most d vs xs is list =
    subst (λ ds. Each P ds xs) (same_Some list.items (items_view vs) (sym list.is_list ∙ sym is)) list.each

-- a list of items that were read to the end
pub list_of : {A : Type 0} (P : Data → A → Type 0) (least most : ℕ) (d : Data) (vs : List Value) (i : ℕ) (xs : List A)
    → Some (items_view vs) ≡ as_array d → length vs ≡ i → least ≤ length vs → length vs ≤ most
    → Each P (items_view (take i vs)) xs → IsListOf A P least most d xs
list_of P least most d vs i xs is all low high read =
    let each = subst (λ ws. Each P (items_view ws) xs) (take_all i vs (omega (arith, all))) read in
    let many = each_many P vs xs each in record {
      items = items_view vs;
      is_list = sym is;
      each = each;
      at_least = omega (arith, many, low);
      at_most = omega (arith, many, high);
    }

-- an item that says nothing makes a list that says nothing
pub no_list : {A : Type 0} (P : Data → A → Type 0) (least most : ℕ) (d : Data) (vs : List Value) (i : ℕ) (v : Value)
    → Some (items_view vs) ≡ as_array d → i < length vs → v ≡ get_or vs i v → ((x : A) → P (view v) x → ⊥)
    → (xs : List A) → IsListOf A P least most d xs → ⊥
no_list P least most d vs i v is lt at none xs list =
    let one = each_at P vs xs i v lt at (listed_items P least most d vs xs is list) in none one.0 one.1

-- how many items a list has
pub list_many : {A : Type 0} (P : Data → A → Type 0) (least most : ℕ) (d : Data) (vs : List Value)
    → Some (items_view vs) ≡ as_array d → (xs : List A) → IsListOf A P least most d xs → length xs ≡ length vs
list_many P least most d vs is xs list = each_many P vs xs (listed_items P least most d vs xs is list)

-- a text that spells no UID
pub no_uid : (d : Data) (text : List ℕ) → Some text ≡ as_str d → ((u : ℕ) → UidText text u → ⊥) → (u : ℕ) → IsUid d u
    → ⊥
no_uid d text is none u h =
    none u (subst (λ t. UidText t u) (same_Some h.text text (sym h.is_text ∙ sym is)) h.spells)

-- no items
pub each_none : {A : Type 0} (P : Data → A → Type 0) (xs : List A) → xs ≡ [] → Each P no_items xs
each_none P [] is = tt
each_none P (x ∷ xs) is = cc

-- a text that isn't four digits: they decode to two bytes, and so into room for two
pub no_digits : (d : Data) (text : List ℕ) → Some text ≡ as_str d
    → ((bytes : List ℕ) → decode_sized text 2 ≡ Ok bytes → ⊥) → (n : ℕ) → IsFourDigits d n → ⊥
no_digits d text is none n h =
    let digits = ap decode_of (same_Some text h.text (is ∙ h.is_text)) ∙ h.digits in
    none (h.high ∷ h.low ∷ []) (decode_sized-twice text 2 (decode_of-ok text (h.high ∷ h.low ∷ []) digits).2 ∙ digits)

-- a fault that is passed on
pub passed : {A : Type 0} (r : Result A SceneFault) (fault : SceneFault) (P : A → Type 0) → IsErrAnd r (λ e. e ≡ fault)
    → (is_memory fault ≡ false → (x : A) → P x → ⊥) → Reads r P
passed (Ok x) fault P is none = absurd is
passed (Err e) fault P is none = λ other. none (ap is_memory (sym is) ∙ other)

-- a text spells one UID
pub one_uid : (d : Data) (u v : ℕ) → IsUid d u → IsUid d v → u ≡ v
one_uid d u v a b =
    text_once b.text u v (subst (λ t. UidText t u) (same_Some a.text b.text (sym a.is_text ∙ b.is_text)) a.spells)
    b.spells

-- what one value says at most
abbrev pub SaysOne : {A : Type 0} → (Data → A → Type 0) → Type 0
SaysOne {A} P = (d : Data) (x y : A) → P d x → P d y → x ≡ y

pub one_whole : (least most : ℕ) → SaysOne (IsWhole least most)
one_whole least most d m n a b = same_Some m n (sym a.number ∙ b.number)

pub one_own_uid : SaysOne IsOwnUid
one_own_uid d u v a b = one_uid d u v a.uid b.uid

-- so does a key
pub one_has : {A : Type 0} (key : List ℕ) (P : Data → A → Type 0) → SaysOne P → SaysOne (Has key P)
one_has key P one d x y a b = by_option (get key d) a b
  where
    by_option : (o : Option Data) → MatchOption o ⊥ (λ v. P v x) → MatchOption o ⊥ (λ v. P v y) → x ≡ y
    by_option None a b = absurd a
    by_option (Some v) a b = one v x y a b

pub one_may_have : {A : Type 0} (key : List ℕ) (P : Data → A → Type 0) (default : A) → SaysOne P
    → SaysOne (MayHave key P default)
one_may_have key P default one d x y a b = by_option (get key d) a b
  where
    by_option : (o : Option Data) → MatchOption o (x ≡ default) (λ v. P v x) → MatchOption o (y ≡ default) (λ v. P v y)
        → x ≡ y
    by_option None a b = a ∙ sym b
    by_option (Some v) a b = one v x y a b

pub one_may_give : {A : Type 0} (key : List ℕ) (P : Data → A → Type 0) → SaysOne P → SaysOne (MayGive key P)
one_may_give {A = A} key P one d x y a b = by_option (get key d) x y a b
  where
    by_option : (o : Option Data) (s t : Option A) → MatchOption o (s ≡ None) (λ v. MatchOption s ⊥ (P v))
        → MatchOption o (t ≡ None) (λ v. MatchOption t ⊥ (P v)) → s ≡ t
    by_option None s t a b = a ∙ sym b
    by_option (Some v) None t a b = absurd a
    by_option (Some v) (Some s) None a b = absurd b
    by_option (Some v) (Some s) (Some t) a b = ap Some (one v s t a b)

-- an item of a list, with those before it
pub record IsCut {A : Type 0} (P : Data → A → Type 0) (before : List Value) (v : Value) (xs : List A) : Type 0 where
  pub front : List A
  pub here : A
  pub back : List A
  pub whole : xs ≡ front ++ here ∷ back
  pub each : Each P (items_view before) front
  pub says : P (view v) here

pub cut_at : {A : Type 0} (P : Data → A → Type 0) (vs : List Value) (xs : List A) (i : ℕ) (v : Value) → i < length vs
    → v ≡ get_or vs i v → Each P (items_view vs) xs → IsCut P (take i vs) v xs
cut_at P [] xs i v lt is all = absurd (omega (arith, lt))
cut_at P (w ∷ ws) [] i v lt is all = absurd all
cut_at P (w ∷ ws) (y ∷ ys) zero v lt is all = record {
  front = [];
  here = y;
  back = ys;
  whole = refl;
  each = tt;
  says = subst (λ t. P (view t) y) (sym is) all.0;
}
cut_at P (w ∷ ws) (y ∷ ys) (suc i) v lt is all =
    let rest = cut_at P ws ys i v (omega (arith, lt)) is all.1 in record {
      front = y ∷ rest.front;
      here = rest.here;
      back = rest.back;
      whole = ap (λ l. y ∷ l) rest.whole;
      each = (all.0, rest.each);
      says = rest.says;
    }

-- a key that is absent has no value
pub absent : (key : List ℕ) {A : Type 0} (P : Data → A → Type 0) (d : Data) (x : A) → get key d ≡ None → Has key P d x
    → ⊥
absent key P d x none has = subst (λ o. MatchOption o ⊥ (λ v. P v x)) none has

-- a key with the same default
pub by_default : {A : Type 0} (key : List ℕ) (P : Data → A → Type 0) (a b : A) (d : Data) (x : A) → a ≡ b
    → MayHave key P a d x → MayHave key P b d x
by_default key P a b d x same h = subst (λ e. MayHave key P e d x) same h
