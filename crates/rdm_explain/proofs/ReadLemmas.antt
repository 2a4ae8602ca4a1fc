-- What is read off exchanges, one after another.
use Rattle.std.proofs.Common.{◌≡◌, ℕ, ◌+◌, ◌<◌, Bool, true, false, ◌||◌, List, [], ◌∷◌, ◌++◌, Option, length, take}
use Rattle.std.proofs.Common.{drop, refl, sym, ap, ◌∙◌, subst, get_or}
use Rattle.std.specs.Prelude.{◌==◌, filter_map}
use Rattle.std.proofs.lemmas.List.{map-append, take_more, drop_more, take-append-drop}
use Rattle.std.proofs.lemmas.List.Folds.{list_any-append}
use Rattle.std.proofs.lemmas.List.Elements.{filter_map-append}
use Rattle.rdm_explain.specs.declared.uids.Uids.{Uids}
use Rattle.rdm_explain.specs.body.Trees.{in_tree, Holds, Gains}
use Rattle.rdm_wire.specs.Uid.{has}
use Rattle.rdm_wire.specs.Honest.{Seen}
use Rattle.rdm_explain.specs.declared.exchange.Exchange.{Exchange}
use Rattle.rdm_explain.specs.Exchanges.{seen_of, seen_all}
use Rattle.rdm_explain.specs.Certificates.{IsFirstWithout}

-- the exchanges with one more
pub seen_more : (xs : List Exchange) (i : ℕ) (e : Exchange) → i < length xs → e ≡ get_or xs i e
    → seen_all (take (i + 1) xs) ≡ seen_all (take i xs) ++ seen_of e ∷ []
seen_more xs i e within read =
    ap seen_all (take_more xs i e within ∙ ap (λ x. take i xs ++ x ∷ []) (sym read))
    ∙ map-append seen_of (take i xs) (e ∷ [])

-- what all exchanges have, and their fronts too
pub fronts_have : (P : List Seen → Type 0) → ((x y : List Seen) → P (x ++ y) → P x) → (xs : List Exchange) (n : ℕ)
    → P (seen_all xs) → P (seen_all (take n xs))
fronts_have P shorter xs n all =
    shorter (seen_all (take n xs)) (seen_all (drop n xs))
    (subst P (ap seen_all (sym (take-append-drop n xs)) ∙ map-append seen_of (take n xs) (drop n xs)) all)

-- the first exchange with which they don't have it
pub first_without : (P : List Seen → Type 0) → ((x y : List Seen) → P (x ++ y) → P x) → (xs : List Exchange) (at : ℕ)
    (e : Exchange) → at < length xs → e ≡ get_or xs at e → P (seen_all (take at xs))
    → (P (seen_all (take at xs) ++ seen_of e ∷ []) → ⊥) → IsFirstWithout P xs at
first_without P shorter xs at e within read before here = record {
  within = within;
  before = before;
  here = λ p. here (subst P (seen_more xs at e within read) p);
  never = λ p. here (subst P (seen_more xs at e within read) (fronts_have P shorter xs (at + 1) p));
}

-- the UIDs read off one more exchange
pub has_one_more : (f : Seen → Option ℕ) (xs : List Exchange) (i : ℕ) (e : Exchange) → i < length xs → e ≡ get_or xs i e
    → (u : ℕ) → has (filter_map f (seen_all (take (i + 1) xs))) u
    ≡ (has (filter_map f (seen_all (take i xs))) u || has (filter_map f (seen_of e ∷ [])) u)
has_one_more f xs i e within read u =
    ap (λ l. has (filter_map f l) u) (seen_more xs i e within read)
    ∙ ap (λ l. has l u) (filter_map-append f (seen_all (take i xs)) (seen_of e ∷ []))
    ∙ list_any-append (λ v. u == v) (filter_map f (seen_all (take i xs))) (filter_map f (seen_of e ∷ []))

or_assoc : (a b c : Bool) → ((a || b) || c) ≡ (a || (b || c))
or_assoc true b c = refl
or_assoc false b c = refl

pub names_more : (f : Seen → Option ℕ) (known : List ℕ) (xs : List Exchange) (i : ℕ) (e : Exchange) (old new : Uids)
    → i < length xs → e ≡ get_or xs i e
    → ((u : ℕ) → in_tree old u ≡ (has known u || has (filter_map f (seen_all (take i xs))) u))
    → Gains (filter_map f (seen_of e ∷ [])) old new
    → (u : ℕ) → in_tree new u ≡ (has known u || has (filter_map f (seen_all (take (i + 1) xs))) u)
names_more f known xs i e old new within read before gains u =
    gains u ∙ ap (λ b. b || has (filter_map f (seen_of e ∷ [])) u) (before u)
    ∙ or_assoc (has known u) (has (filter_map f (seen_all (take i xs))) u) (has (filter_map f (seen_of e ∷ [])) u)
    ∙ ap (λ b. has known u || b) (sym (has_one_more f xs i e within read u))

pub holds_more : (f : Seen → Option ℕ) (xs : List Exchange) (i : ℕ) (e : Exchange) (old new : Uids)
    → i < length xs → e ≡ get_or xs i e → Holds (filter_map f (seen_all (take i xs))) old
    → Gains (filter_map f (seen_of e ∷ [])) old new → Holds (filter_map f (seen_all (take (i + 1) xs))) new
holds_more f xs i e old new within read before gains u =
    gains u ∙ ap (λ b. b || has (filter_map f (seen_of e ∷ [])) u) (before u)
    ∙ sym (has_one_more f xs i e within read u)

-- the exchanges before one, that one, and the others
pub seen_split : (xs : List Exchange) (i : ℕ) (e : Exchange) → i < length xs → e ≡ get_or xs i e
    → seen_all xs ≡ seen_all (take i xs) ++ seen_of e ∷ seen_all (drop (i + 1) xs)
seen_split xs i e within read =
    ap seen_all (sym (take-append-drop i xs)
    ∙ ap (λ l. take i xs ++ l) (drop_more xs i e within ∙ ap (λ x. x ∷ drop (i + 1) xs) (sym read)))
    ∙ map-append seen_of (take i xs) (e ∷ drop (i + 1) xs)
