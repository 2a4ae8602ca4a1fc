-- Merging the clients' shares of a list whose numbers rise gives the list.
use Rattle.rdm_queue.proofs.Common.{◌≡◌, ℕ, suc, ◌+◌, ◌-◌, ◌<◌, ◌≤◌, Bool, true, false, cond, List, [], ◌∷◌, length}
use Rattle.rdm_queue.proofs.Common.{get_or, refl, sym, ap, ◌∙◌, inl, inr, filter, map, zero-add, arith, ◌⊎◌, ◌==◌, not}
use Rattle.rdm_queue.proofs.Common.{nat_lt, AllByRecursion, cases_Bool, eq-eqb, ne_eqb, eqb-true, lt-ltb, IsAscending}
use Rattle.rdm_queue.proofs.Common.{merged, AreShares}
use Rattle.std.proofs.lemmas.Bool.{eqb-false, le-ltb}
use Rattle.std.proofs.lemmas.List.Elements.{filter_agree}
use Rattle.rdm_queue.specs.body.Merged.{put_in, put_all}

pub all_passed : {X : Type 0} (number : X → ℕ) (P : ℕ → Type 0) (p : X → Bool) (xs : List X)
    → AllByRecursion P (map number xs) → AllByRecursion P (map number (filter p xs))
all_passed number P p [] all = tt
all_passed {X} number P p (x ∷ xs) all = by_test (p x) (all_passed number P p xs all.1)
  where
    by_test : (b : Bool) → AllByRecursion P (map number (filter p xs))
        → AllByRecursion P (map number (cond b (x ∷ filter p xs) (filter p xs)))
    by_test true rest = (all.0, rest)
    by_test false rest = rest

rising_passed : {X : Type 0} (number : X → ℕ) (p : X → Bool) (xs : List X) → IsAscending (map number xs)
    → IsAscending (map number (filter p xs))
rising_passed number p [] rising = tt
rising_passed {X} number p (x ∷ xs) rising = by_test (p x) (rising_passed number p xs rising.1)
  where
    by_test : (b : Bool) → IsAscending (map number (filter p xs))
        → IsAscending (map number (cond b (x ∷ filter p xs) (filter p xs)))
    by_test true rest = (all_passed number (λ n. number x < n) p xs rising.0, rest)
    by_test false rest = rest

-- what has a lower number than all comes first
put_first : {X : Type 0} (number : X → ℕ) (x : X) (ys : List X) → AllByRecursion (λ n. number x < n) (map number ys)
    → put_in number x ys ≡ x ∷ ys
unfolding put_in
put_first number x [] all = refl
put_first number x (y ∷ ys) all = let less : number x < number y = all.0 in rw (lt-ltb (number x) (number y) less) refl

put_behind : {X : Type 0} (number : X → ℕ) (y : X) (xs ys : List X) → AllByRecursion (λ n. number y < n) (map number xs)
    → put_all number xs (y ∷ ys) ≡ y ∷ put_all number xs ys
unfolding put_in put_all
put_behind number y [] ys all = refl
put_behind number y (x ∷ xs) ys all =
    let more : number y < number x = all.0 in
    rw (put_behind number y xs ys all.1, le-ltb (number x) (number y) (omega arith)) refl

-- those that pass a test, put among the others
put_back : {X : Type 0} (number : X → ℕ) (p : X → Bool) (xs : List X) → IsAscending (map number xs)
    → put_all number (filter p xs) (filter (λ x. not (p x)) xs) ≡ xs
unfolding put_all
put_back number p [] rising = refl
put_back {X} number p (x ∷ xs) rising = by_test (p x) (put_back number p xs rising.1)
  where
    those : List X
    those = filter p xs

    others : List X
    others = filter (λ y. not (p y)) xs

    by_test : (b : Bool) → put_all number those others ≡ xs
        → put_all number (cond b (x ∷ those) those) (cond (not b) (x ∷ others) others) ≡ x ∷ xs
    by_test true same = rw same (put_first number x xs rising.0)
    by_test false same =
        put_behind number x those others (all_passed number (λ n. number x < n) p xs rising.0) ∙ ap (λ l. x ∷ l) same

-- for those that don't pass a weaker test
filter_both : {X : Type 0} (p q : X → Bool) (xs : List X) → ((x : X) → p x ≡ true → q x ≡ true)
    → filter p (filter q xs) ≡ filter p xs
filter_both p q [] weaker = refl
filter_both {X} p q (x ∷ xs) weaker = by_test (cases_Bool (p x)) (cases_Bool (q x)) (filter_both p q xs weaker)
  where
    no : {A : Type 0} → q x ≡ true → q x ≡ false → A
    no a b = cc

    by_test : (p x ≡ true) ⊎ (p x ≡ false) → (q x ≡ true) ⊎ (q x ≡ false) → filter p (filter q xs) ≡ filter p xs
        → filter p (filter q (x ∷ xs)) ≡ filter p (x ∷ xs)
    by_test (inl yes_) (inl here) same = rw (here, yes_, same) refl
    by_test (inl yes_) (inr gone) same = no (weaker x yes_) gone
    by_test (inr isnt) (inl here) same = rw (here, isnt) same
    by_test (inr isnt) (inr gone) same = rw (gone, isnt) same

-- the clients of these are from k on
later : {X : Type 0} (client : X → ℕ) (k : ℕ) (xs : List X) → AllByRecursion (λ x. k ≤ client x) xs
    → AllByRecursion (λ x. k + 1 ≤ client x) (filter (λ x. not (k == client x)) xs)
later client k [] all = tt
later {X} client k (x ∷ xs) all = by_test (cases_Bool (k == client x)) (later client k xs all.1)
  where
    above : k ≤ client x → (k ≡ client x → ⊥) → k + 1 ≤ client x
    above p q = omega arith

    by_test : ((k == client x) ≡ true) ⊎ ((k == client x) ≡ false)
        → AllByRecursion (λ y. k + 1 ≤ client y) (filter (λ y. not (k == client y)) xs)
        → AllByRecursion (λ y. k + 1 ≤ client y) (filter (λ y. not (k == client y)) (x ∷ xs))
    by_test (inl same) rest = rw same rest
    by_test (inr other) rest = rw other (above all.0 (eqb-false k (client x) other), rest)

merged_from : {X : Type 0} (client number : X → ℕ) (k : ℕ) (lists : List (List X)) (all : List X)
    → IsAscending (map number all) → ((c : ℕ) → get_or lists c [] ≡ filter (λ x. (c + k) == client x) all)
    → AllByRecursion (λ x. k ≤ client x) all → merged number lists ≡ all
unfolding merged
merged_from client number k [] [] rising shares from = refl
merged_from {X} client number k [] (x ∷ xs) rising shares from =
    absurd (none ((client x - k) + k) (let p : k ≤ client x = from.0 in omega arith) (shares (client x - k)))
  where
    none : (c : ℕ) → c ≡ client x → [] ≡ filter (λ y. c == client y) (x ∷ xs) → ⊥
    none c own h = let n : [] ≡ x ∷ filter (λ y. c == client y) xs = rw (eq-eqb c (client x) own) at h in cc
merged_from {X} client number k (list ∷ lists) all rising shares from =
    ap (λ l. put_all number l (merged number lists)) own
    ∙ (ap (λ l. put_all number (filter (λ x. k == client x) all) l)
    (merged_from client number (k + 1) lists others (rising_passed number (λ x. not (k == client x)) all rising)
    shares_left (later client k all from)) ∙ put_back number (λ x. k == client x) all rising)
  where
    others : List X
    others = filter (λ x. not (k == client x)) all

    own : list ≡ filter (λ x. k == client x) all
    own = shares 0 ∙ rw zero-add refl

    not_k : (c : ℕ) (x : X) → ((c + (k + 1)) == client x) ≡ true → not (k == client x) ≡ true
    not_k c x at =
        let same : c + (k + 1) ≡ client x = eqb-true (c + (k + 1)) (client x) at in
        rw (ne_eqb k (client x) (omega arith)) refl

    shares_left : (c : ℕ) → get_or lists c [] ≡ filter (λ x. (c + (k + 1)) == client x) others
    shares_left c =
        shares (suc c)
        ∙ (filter_agree (λ x. (suc c + k) == client x) (λ x. (c + (k + 1)) == client x)
        (λ x. ap (λ n. n == client x) (omega arith)) all
        ∙ sym (filter_both (λ x. (c + (k + 1)) == client x) (λ x. not (k == client x)) all (not_k c)))

pub merged_shares : {X : Type 0} (client number : X → ℕ) (lists : List (List X)) (all : List X)
    → IsAscending (map number all) → AreShares client lists all → merged number lists ≡ all
merged_shares {X} client number lists all rising shares =
    merged_from client number 0 lists all rising
    (λ c. shares c
    ∙ filter_agree (λ x. c == client x) (λ x. (c + 0) == client x) (λ x. ap (λ n. n == client x) (omega arith)) all)
    (each all)
  where
    each : (xs : List X) → AllByRecursion (λ x. 0 ≤ client x) xs
    each [] = tt
    each (x ∷ xs) = (omega arith, each xs)

-- how many elements a merged list has
length-put_in : {X : Type 0} (number : X → ℕ) (x : X) (ys : List X) → length (put_in number x ys) ≡ suc (length ys)
unfolding put_in
length-put_in number x [] = refl
length-put_in {X} number x (y ∷ ys) = by_test (nat_lt (number x) (number y)) (length-put_in number x ys)
  where
    by_test : (b : Bool) → length (put_in number x ys) ≡ suc (length ys)
        → length (cond b (x ∷ y ∷ ys) (y ∷ put_in number x ys)) ≡ suc (suc (length ys))
    by_test true rest = refl
    by_test false rest = ap suc rest

pub length-put_all : {X : Type 0} (number : X → ℕ) (xs ys : List X)
    → length (put_all number xs ys) ≡ length xs + length ys
unfolding put_all
length-put_all number [] ys = omega arith
length-put_all number (x ∷ xs) ys =
    let rest = length-put_all number xs ys in length-put_in number x (put_all number xs ys) ∙ omega arith
