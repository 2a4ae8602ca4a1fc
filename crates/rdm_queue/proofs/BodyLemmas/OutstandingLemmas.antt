-- What all clients have outstanding together.
use Rattle.rdm_queue.proofs.Common.{◌≡◌, ℕ, zero, suc, ◌+◌, ◌-◌, ◌*◌, ◌<◌, ◌≤◌, Bool, true, false, cond, not, List, []}
use Rattle.rdm_queue.proofs.Common.{◌∷◌, ◌++◌, length, drop, get_or, set, Some, slice_get, refl, sym, ap, subst, inl}
use Rattle.rdm_queue.proofs.Common.{inr, length-append, filter, map, sum, arith, ◌⊎◌, ◌≢◌, ◌==◌, slice_index, eq-eqb}
use Rattle.rdm_queue.proofs.Common.{ne_eqb, cases_eq, cases_lt, length-map, get_or-set_same, get_or-set_other}
use Rattle.rdm_queue.proofs.Common.{get_or_past, sum_by-cons, filter-append, slice_get_first, OutcomeValue}
use Rattle.rdm_queue.proofs.Common.{StateInvariant, QueueState, owed_to, owes, is_discovery}
use Rattle.std.proofs.lemmas.List.Sums.{sum_by-set}
use Rattle.rdm_log.proofs.LogLemmas.Counts.{count}
use Rattle.rdm_queue.specs.body.State.{uncollected}

count-same : (c x : ℕ) (xs : List ℕ) → c ≡ x → count c (x ∷ xs) ≡ 1 + count c xs
count-same c x xs same = rw (eq-eqb c x same) omega arith

count-other : (c x : ℕ) (xs : List ℕ) → c ≢ x → count c (x ∷ xs) ≡ count c xs
count-other c x xs other = rw (ne_eqb c x other) refl

-- a list in which each number occurs at most as often as its place allows is no longer than the sum of all places
few_in_all : (places xs : List ℕ) → ((c : ℕ) → count c xs ≤ get_or places c 0) → length xs ≤ sum places
few_in_all places [] few = omega arith
few_in_all places (x ∷ xs) few =
    by_index (cases_lt x (length places))
    (λ (less : List ℕ) (fewer : (c : ℕ) → count c xs ≤ get_or less c 0). few_in_all less xs fewer)
  where
    one : 1 + count x xs ≤ get_or places x 0
    one = subst (λ (n : ℕ). n ≤ get_or places x 0) (count-same x x xs refl) (few x)

    less : List ℕ
    less = set places x (get_or places x 0 - 1)

    at : (c : ℕ) → x < length places → (c ≡ x) ⊎ (c ≡ x → ⊥) → count c xs ≤ get_or less c 0
    at c here (inl same) =
        subst (λ (d : ℕ). count d xs ≤ get_or less d 0) (sym same)
        (rw (get_or-set_same places x (get_or places x 0 - 1) 0 here) (omega (arith, one)))
    at c here (inr other) =
        rw (get_or-set_other places x c (get_or places x 0 - 1) 0 other)
        (subst (λ (n : ℕ). n ≤ get_or places c 0) (count-other c x xs other) (few c))

    none : {n : ℕ} → n ≡ 0 → 1 + count x xs ≤ n → ⊥
    none e p = omega arith

    counted : {s t m n : ℕ} → n ≤ s → s + m ≡ t + (m - 1) → 1 + count x xs ≤ m → suc n ≤ t
    counted a b c = omega arith

    by_index : (x < length places) ⊎ (length places ≤ x)
        → ((rest : List ℕ) → ((c : ℕ) → count c xs ≤ get_or rest c 0) → length xs ≤ sum rest)
        → length (x ∷ xs) ≤ sum places
    by_index (inr past) all = absurd (none (get_or_past places x 0 past) one)
    by_index (inl here) all =
        counted (all less (λ c. at c here (cases_eq c x))) (sum_by-set (λ n. n) places x (get_or places x 0 - 1) 0 here)
        one

pub length-filter_map : {X Y : Type 0} (f : X → Y) (p : Y → Bool) (xs : List X)
    → length (filter p (map f xs)) ≡ length (filter (λ x. p (f x)) xs)
length-filter_map f p [] = refl
length-filter_map {X} {Y} f p (x ∷ xs) = by_test (p (f x)) (length-filter_map f p xs)
  where
    by_test : (b : Bool) → length (filter p (map f xs)) ≡ length (filter (λ y. p (f y)) xs)
        → length (cond b (f x ∷ filter p (map f xs)) (filter p (map f xs)))
        ≡ length (cond b (x ∷ filter (λ y. p (f y)) xs) (filter (λ y. p (f y)) xs))
    by_test true same = ap suc same
    by_test false same = same

-- a list of clients' things, of which none has more than its place allows
few_of : {X : Type 0} (client : X → ℕ) (xs : List X) (places : List ℕ)
    → ((c : ℕ) → length (filter (λ x. c == client x) xs) ≤ get_or places c 0) → length xs ≤ sum places
few_of client xs places few =
    subst (λ (n : ℕ). n ≤ sum places) (length-map xs client)
    (few_in_all places (map client xs)
    (λ c. subst (λ (n : ℕ). n ≤ get_or places c 0) (sym (length-filter_map client (λ d. c == d) xs)) (few c)))

more_left : (n m t : ℕ) → n + m ≤ t → n ≤ t
more_left n m t p = omega arith

-- no more wait than all places
pub waiting-le : (s : QueueState) → StateInvariant s → length s.waiting ≤ sum s.places
waiting-le s held = few_of (λ a. a.client) s.waiting s.places (λ c. more_left _ _ _ (held.few c))

-- at most four discoveries wait for each client
sum_fours : (ns : List ℕ) → sum (map (λ (n : ℕ). 4) ns) ≡ 4 * length ns
sum_fours [] = refl
sum_fours (n ∷ ns) =
    let rest = sum_fours ns in let here = sum_by-cons (λ (m : ℕ). m) 4 (map (λ (m : ℕ). 4) ns) in omega arith

pub asked-le : (s : QueueState) → StateInvariant s → length s.asked ≤ 4 * length s.places
asked-le s held =
    let few = few_of (λ a. a.client) s.asked (map (λ (n : ℕ). 4) s.places) (λ c. more_left _ _ _ (held.few_asks c)) in
    omega (arith, sum_fours s.places)

-- four for each client that has joined
pub fours : (ns : List ℕ) (c : ℕ) → get_or (map (λ (n : ℕ). 4) ns) c 0 ≤ 4
fours [] c = omega arith
fours (n ∷ ns) zero = omega arith
fours (n ∷ ns) (suc c) = fours ns c

pub four : (ns : List ℕ) (c : ℕ) → c < length ns → ◌≡◌ {A = ℕ} (get_or (map (λ (n : ℕ). 4) ns) c 0) 4
four [] c within = absurd (omega arith)
four (n ∷ ns) zero within = refl
four (n ∷ ns) (suc c) within = four ns c (omega arith)

-- the outcomes are of requests and of discoveries
pub both_kinds : (ds : List OutcomeValue)
    → length (filter (λ d. not (is_discovery d)) ds) + length (filter is_discovery ds) ≡ length ds
both_kinds [] = refl
both_kinds (d ∷ ds) = by_test (is_discovery d) (both_kinds ds)
  where
    requests : List OutcomeValue
    requests = filter (λ (e : OutcomeValue). not (is_discovery e)) ds

    discoveries : List OutcomeValue
    discoveries = filter is_discovery ds

    by_test : (b : Bool) → length requests + length discoveries ≡ length ds
        → length (cond (not b) (d ∷ requests) requests) + length (cond b (d ∷ discoveries) discoveries)
        ≡ suc (length ds)
    by_test true same = omega arith
    by_test false same = omega arith

-- a client is owed no more than its places and four
pub owed-le : (s : QueueState) (c : ℕ) → StateInvariant s → length (owed_to c s) ≤ slice_index s.places c + 4
owed-le s c held =
    let few = held.few c in let asks = held.few_asks c in let most = fours s.places c in
    let both = both_kinds (owed_to c s) in omega arith

-- how many outcomes are in all clients' lists
abbrev pub in_all : List (List OutcomeValue) → ℕ
in_all lists = sum (map (λ ds. length ds) lists)

pub in_all-cons : (ds : List OutcomeValue) (lists : List (List OutcomeValue))
    → in_all (ds ∷ lists) ≡ length ds + in_all lists
in_all-cons ds lists = sum_by-cons (λ (n : ℕ). n) (length ds) (map (λ (es : List OutcomeValue). length es) lists)

-- client c's list without its first outcome, and with one more
abbrev pub removed_at : List (List OutcomeValue) → ℕ → List (List OutcomeValue)
removed_at lists c = set lists c (drop 1 (get_or lists c []))

abbrev pub put_at : List (List OutcomeValue) → ℕ → OutcomeValue → List (List OutcomeValue)
put_at lists c d = set lists c (get_or lists c [] ++ d ∷ [])

sum_lengths : (lists : List (List OutcomeValue)) (places : List ℕ) → length lists ≡ length places
    → ((c : ℕ) → length (get_or lists c []) ≤ get_or places c 0 + 4)
    → in_all lists ≤ sum places + 4 * length places
sum_lengths [] [] same each = omega arith
sum_lengths [] (n ∷ places) same each = absurd (omega arith)
sum_lengths (ds ∷ lists) [] same each = absurd (omega arith)
sum_lengths (ds ∷ lists) (n ∷ places) same each =
    let rest = sum_lengths lists places (omega arith) (λ c. each (suc c)) in
    let first : length ds ≤ n + 4 = each 0 in
    let rights = sum_by-cons (λ (m : ℕ). m) n places in
    omega (arith, in_all-cons ds lists)

pub uncollected-le : (s : QueueState) → StateInvariant s → uncollected s ≤ sum s.places + 4 * length s.places
uncollected-le s held = sum_lengths s.owed s.places held.owed_for_each (λ c. owed-le s c held)

-- at most three entries are reserved for each place, and for each of a client's four discoveries
pub reserved_le : (s : QueueState) → StateInvariant s
    → 2 * (length s.waiting + length s.asked) + uncollected s ≤ 3 * (s.greatest + 64)
reserved_le s held =
    let waiting = waiting-le s held in let asked = asked-le s held in let owed = uncollected-le s held in
    omega (arith, held.few_places, held.few_clients)

-- one more outcome for a client
pub owes-own : (s : QueueState) (c : ℕ) (d : OutcomeValue) → c < length s.owed
    → get_or (owes c d s) c [] ≡ owed_to c s ++ d ∷ []
owes-own s c d within = get_or-set_same s.owed c (owed_to c s ++ d ∷ []) [] within

pub owes-other : (s : QueueState) (c n : ℕ) (d : OutcomeValue) → (n ≡ c → ⊥) → get_or (owes c d s) n [] ≡ owed_to n s
owes-other s c n d other = get_or-set_other s.owed c n (owed_to c s ++ d ∷ []) [] other

pub owes-count : (p : OutcomeValue → Bool) (s : QueueState) (c n : ℕ) (d : OutcomeValue) → c < length s.owed
    → length (filter p (get_or (owes c d s) n [])) ≡ length (filter p (owed_to n s)) + cond (n == c) (cond (p d) 1 0) 0
owes-count p s c n d within = by_client (cases_eq n c)
  where
    one : (b : Bool) → length (cond b (d ∷ []) []) ≡ cond b 1 0
    one true = refl
    one false = refl

    by_client : (n ≡ c) ⊎ (n ≡ c → ⊥)
        → length (filter p (get_or (owes c d s) n []))
        ≡ length (filter p (owed_to n s)) + cond (n == c) (cond (p d) 1 0) 0
    by_client (inl same) =
        rw (
          same,
          owes-own s c d within,
          filter-append p (owed_to c s) (d ∷ []),
          length-append (filter p (owed_to c s)) (filter p (d ∷ [])),
          eq-eqb c c refl,
        )
        (ap (λ m. length (filter p (owed_to c s)) + m) (one (p d)))
    by_client (inr other) = rw (owes-other s c n d other, ne_eqb n c other) (omega arith)

-- the first of a list removed
pub without_first : {X : Type 0} (client : X → ℕ) (n : ℕ) (xs : List X) (x : X) → slice_get xs 0 ≡ Some x
    → length (filter (λ y. n == client y) (drop 1 xs)) + cond (n == client x) 1 0
    ≡ length (filter (λ y. n == client y) xs)
without_first {X} client n xs x at =
    rw (slice_get_first xs x at) (by_test (n == client x) (filter (λ y. n == client y) (drop 1 xs)))
  where
    by_test : (b : Bool) (ys : List X) → length ys + cond b 1 0 ≡ length (cond b (x ∷ ys) ys)
    by_test true ys = omega arith
    by_test false ys = omega arith

-- one more at the end
pub one_more : {X : Type 0} (client : X → ℕ) (n : ℕ) (xs : List X) (x : X)
    → length (filter (λ y. n == client y) (xs ++ x ∷ []))
    ≡ length (filter (λ y. n == client y) xs) + cond (n == client x) 1 0
one_more {X} client n xs x =
    rw (
      filter-append (λ y. n == client y) xs (x ∷ []),
      length-append (filter (λ y. n == client y) xs) (filter (λ y. n == client y) (x ∷ [])),
    )
    (ap (λ m. length (filter (λ y. n == client y) xs) + m) (by_test (n == client x)))
  where
    by_test : (b : Bool) → length (cond b (x ∷ []) []) ≡ cond b 1 0
    by_test true = refl
    by_test false = refl
