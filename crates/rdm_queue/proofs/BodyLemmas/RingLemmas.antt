-- One client's rings changed, and whose shares all rings then have.
use Rattle.rdm_queue.proofs.Common.{◌≡◌, ℕ, zero, suc, ◌+◌, ◌<◌, ◌≤◌, cond, List, [], ◌∷◌, ◌++◌, length, set, get_or}
use Rattle.rdm_queue.proofs.Common.{Some, slice_get, refl, sym, ap, ◌∙◌, subst, inl, inr, filter, arith, ◌⊎◌, ◌==◌}
use Rattle.rdm_queue.proofs.Common.{AllByRecursion, cases_eq, cases_lt, eq-eqb, ne_eqb, get_or-set_same}
use Rattle.rdm_queue.proofs.Common.{get_or-set_other, get_or_past, filter-append, Client, AreShares, rings_from}
use Rattle.rdm_queue.proofs.Common.{places_of, HasRings, index_within}
use Rattle.std.proofs.lemmas.List.{set-get_or, append-nil}
use Rattle.rdm_queue.specs.body.Rings.{SameRings}

-- a client's ring among all rings
ring_from : {X : Type 0} (ring : ℕ → Client → List X) (from : ℕ) (clients : List Client) (i : ℕ) (k : Client)
    → slice_get clients i ≡ Some k → get_or (rings_from ring from clients) i [] ≡ ring (from + i) k
unfolding rings_from
ring_from ring from [] i k at = cc
ring_from ring from (l ∷ clients) zero k at = let same : l ≡ k = cc in rw same (ap (λ n. ring n k) (omega arith))
ring_from ring from (l ∷ clients) (suc i) k at =
    ring_from ring (from + 1) clients i k at ∙ ap (λ n. ring n k) (omega arith)

pub ring_of : {X : Type 0} (ring : ℕ → Client → List X) (clients : List Client) (i : ℕ) (k : Client)
    → slice_get clients i ≡ Some k → get_or (rings_from ring 0 clients) i [] ≡ ring i k
ring_of ring clients i k at = ring_from ring 0 clients i k at ∙ ap (λ n. ring n k) (omega arith)

length-rings : {X : Type 0} (ring : ℕ → Client → List X) (from : ℕ) (clients : List Client)
    → length (rings_from ring from clients) ≡ length clients
unfolding rings_from
length-rings ring from [] = refl
length-rings ring from (k ∷ clients) = ap suc (length-rings ring (from + 1) clients)

pub ring_past : {X : Type 0} (ring : ℕ → Client → List X) (clients : List Client) (i : ℕ) → length clients ≤ i
    → get_or (rings_from ring 0 clients) i [] ≡ []
ring_past ring clients i past =
    get_or_past (rings_from ring 0 clients) i [] (omega (arith, length-rings ring 0 clients))

pub ring_within : {X : Type 0} (ring : ℕ → Client → List X) (clients : List Client) (i : ℕ) (k : Client)
    → slice_get clients i ≡ Some k → i < length (rings_from ring 0 clients)
ring_within ring clients i k at = let within = index_within clients i k at in omega (arith, length-rings ring 0 clients)

rings_set : {X : Type 0} (ring : ℕ → Client → List X) (from : ℕ) (clients : List Client) (i : ℕ) (k : Client)
    → rings_from ring from (set clients i k) ≡ set (rings_from ring from clients) i (ring (from + i) k)
unfolding rings_from
rings_set ring from [] i k = refl
rings_set ring from (l ∷ clients) zero k = ap (λ n. ring n k ∷ rings_from ring (from + 1) clients) (omega arith)
rings_set ring from (l ∷ clients) (suc i) k =
    ap (λ rings. ring from l ∷ rings)
    (rings_set ring (from + 1) clients i k
    ∙ ap (λ n. set (rings_from ring (from + 1) clients) i (ring n k)) (omega arith))

-- a client's ring changed, and one that stayed
pub ring_changed : {X : Type 0} (ring : ℕ → Client → List X) (clients : List Client) (i : ℕ) (k : Client)
    (items : List X) → ring i k ≡ items → rings_from ring 0 (set clients i k) ≡ set (rings_from ring 0 clients) i items
ring_changed ring clients i k items is =
    rings_set ring 0 clients i k
    ∙ ap (λ list. set (rings_from ring 0 clients) i list) (ap (λ n. ring n k) (omega arith) ∙ is)

pub ring_stayed : {X : Type 0} (ring : ℕ → Client → List X) (clients : List Client) (i : ℕ) (k l : Client)
    → slice_get clients i ≡ Some k → ring i l ≡ ring i k
    → rings_from ring 0 (set clients i l) ≡ rings_from ring 0 clients
ring_stayed ring clients i k l at same =
    ring_changed ring clients i l (get_or (rings_from ring 0 clients) i []) (same ∙ sym (ring_of ring clients i k at))
    ∙ set-get_or (rings_from ring 0 clients) i []

rings_push : {X : Type 0} (ring : ℕ → Client → List X) (from : ℕ) (clients : List Client) (k : Client)
    → rings_from ring from (clients ++ k ∷ []) ≡ rings_from ring from clients ++ ring (from + length clients) k ∷ []
unfolding rings_from
rings_push ring from [] k = ap (λ n. ring n k ∷ []) (omega arith)
rings_push ring from (l ∷ clients) k =
    ap (λ rings. ring from l ∷ rings)
    (rings_push ring (from + 1) clients k
    ∙ ap (λ n. rings_from ring (from + 1) clients ++ ring n k ∷ []) (omega arith))

-- one client more, whose ring is empty
pub shares_more : {X : Type 0} (client : X → ℕ) (ring : ℕ → Client → List X) (clients : List Client) (k : Client)
    (all : List X) → ((i : ℕ) → ring i k ≡ []) → AreShares client (rings_from ring 0 clients) all
    → AreShares client (rings_from ring 0 (clients ++ k ∷ [])) all
shares_more {X} client ring clients k all none shares c =
    ap (λ rings. get_or rings c []) (rings_push ring 0 clients k)
    ∙ (ap (λ list. get_or (rings_from ring 0 clients ++ list ∷ []) c []) (none (0 + length clients))
    ∙ (no_more (rings_from ring 0 clients) c ∙ shares c))
  where
    no_more : (lists : List (List X)) (i : ℕ) → get_or (lists ++ [] ∷ []) i [] ≡ get_or lists i []
    no_more [] zero = refl
    no_more [] (suc i) = refl
    no_more (list ∷ lists) zero = refl
    no_more (list ∷ lists) (suc i) = no_more lists i

-- a share that isn't empty is in one of the lists
share_within : {X : Type 0} (lists : List (List X)) (c : ℕ) (x : X) (rest : List X) → get_or lists c [] ≡ x ∷ rest
    → c < length lists
share_within lists c x rest at = by_length (cases_lt c (length lists))
  where
    none : [] ≡ x ∷ rest → ⊥
    none h = cc

    by_length : (c < length lists) ⊎ (length lists ≤ c) → c < length lists
    by_length (inl here) = here
    by_length (inr past) = absurd (none (sym (get_or_past lists c [] past) ∙ at))

-- one more at the end of a client's share and of all
pub shares_push : {X : Type 0} (client : X → ℕ) (lists : List (List X)) (all : List X) (x : X)
    → AreShares client lists all → client x < length lists
    → AreShares client (set lists (client x) (get_or lists (client x) [] ++ x ∷ [])) (all ++ x ∷ [])
shares_push {X} client lists all x shares within c =
    by_client (cases_eq c (client x)) ∙ sym (filter-append (λ y. c == client y) all (x ∷ []))
  where
    by_client : (c ≡ client x) ⊎ (c ≡ client x → ⊥)
        → get_or (set lists (client x) (get_or lists (client x) [] ++ x ∷ [])) c [] ≡ filter (λ y. c == client y) all
        ++ cond (c == client x) (x ∷ []) []
    by_client (inl same) =
        rw (eq-eqb c (client x) same, ← same)
        (get_or-set_same lists c (get_or lists c [] ++ x ∷ []) [] (subst (λ n. n < length lists) (sym same) within)
        ∙ ap (λ l. l ++ x ∷ []) (shares c))
    by_client (inr other) =
        rw (ne_eqb c (client x) other, append-nil (filter (λ y. c == client y) all))
        (get_or-set_other lists (client x) c (get_or lists (client x) [] ++ x ∷ []) [] other ∙ shares c)

-- the first of all removed
pub shares_rest : {X : Type 0} (client : X → ℕ) (lists : List (List X)) (all : List X) (x : X) (rest : List X)
    → AreShares client lists (x ∷ all) → get_or lists (client x) [] ≡ x ∷ rest
    → AreShares client (set lists (client x) rest) all
shares_rest {X} client lists all x rest shares first c = by_client (cases_eq c (client x))
  where
    tail : (ys zs : List X) → x ∷ ys ≡ x ∷ zs → ys ≡ zs
    tail ys zs h = cc

    own : rest ≡ filter (λ y. client x == client y) all
    own = tail rest (filter (λ y. client x == client y) all)
        (sym first ∙ (shares (client x) ∙ rw (eq-eqb (client x) (client x) refl) refl))

    by_client : (c ≡ client x) ⊎ (c ≡ client x → ⊥)
        → get_or (set lists (client x) rest) c [] ≡ filter (λ y. c == client y) all
    by_client (inl same) =
        rw same (get_or-set_same lists (client x) rest [] (share_within lists (client x) x rest first) ∙ own)
    by_client (inr other) =
        get_or-set_other lists (client x) c rest [] other ∙ (shares c ∙ rw (ne_eqb c (client x) other) refl)

-- a client's places and the sizes of its rings stay
pub same_sizes : (k l : Client) → HasRings k → SameRings k l → HasRings l
same_sizes k l has same = record {
  waiting = same.waiting ∙ (has.waiting ∙ sym same.places);
  outcomes = same.outcomes ∙ (has.outcomes ∙ ap (λ n. n + 4) (sym same.places));
  sets = same.sets ∙ has.sets;
}

pub all_set : {X : Type 0} (P : X → Type 0) (xs : List X) (i : ℕ) (x : X) → AllByRecursion P xs → P x
    → AllByRecursion P (set xs i x)
all_set P [] i x all one = tt
all_set P (y ∷ xs) zero x all one = (one, all.1)
all_set P (y ∷ xs) (suc i) x all one = (all.0, all_set P xs i x all.1 one)

pub places_stayed : (clients : List Client) (i : ℕ) (k l : Client) → slice_get clients i ≡ Some k → l.places ≡ k.places
    → places_of (set clients i l) ≡ places_of clients
places_stayed [] i k l at same = refl
places_stayed (m ∷ clients) zero k l at same = let here : m ≡ k = cc in rw (same, here) refl
places_stayed (m ∷ clients) (suc i) k l at same = ap (λ ns. m.places ∷ ns) (places_stayed clients i k l at same)

-- an element put where it is
pub set_same : {X : Type 0} (xs : List X) (i : ℕ) (x : X) → slice_get xs i ≡ Some x → set xs i x ≡ xs
set_same [] i x at = refl
set_same (y ∷ xs) zero x at = let here : y ≡ x = cc in rw here refl
set_same (y ∷ xs) (suc i) x at = ap (λ l. y ∷ l) (set_same xs i x at)
