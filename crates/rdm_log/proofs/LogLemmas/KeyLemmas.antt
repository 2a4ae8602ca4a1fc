-- Which keys are open after one was opened or closed.
use Rattle.rdm_log.proofs.Common.{◌≡◌, ℕ, Bool, true, false, List, [], ◌∷◌, ◌++◌, drop, refl, sym, ap, ◌∙◌, ◌⊎◌}
use Rattle.rdm_log.proofs.Common.{inl, inr, or_left}
use Rattle.rdm_log.proofs.Common.{◌==◌, ◌&&◌, ◌||◌, not, cond, list_any-append, cases_Bool, eq-eqb}
use Rattle.rdm_log.proofs.Common.{eqb-true, false≢true, length, if◌then◌else◌}
use Rattle.std.specs.Prelude.{nat_lt}
use Rattle.rdm_log.specs.declared.broken.AnswerKey.{AnswerKey}
use Rattle.rdm_log.specs.declared.broken.TheConstants.{MOST_BROKEN}
use Rattle.rdm_log.specs.log.BrokenKeys.{BrokenKeys, same_key, lists, without, is_open, listed_open, listed_closed}
use Rattle.rdm_log.specs.log.BrokenKeys.{with_open, with_closed}
use Rattle.std.proofs.lemmas.Bool.{and_parts, or_parts}

-- the same key is equal
pub same_from : (j k : AnswerKey) → same_key j k ≡ true → j ≡ k
same_from j k same =
    let one = and_parts (j.target == k.target) ((j.sub_device == k.sub_device) && (j.pid == k.pid)) same in
    let two = and_parts (j.sub_device == k.sub_device) (j.pid == k.pid) one.1 in
    alike j.target j.sub_device j.pid k.target k.sub_device k.pid (eqb-true j.target k.target one.0)
    (eqb-true j.sub_device k.sub_device two.0) (eqb-true j.pid k.pid two.1)
  where
    alike : (a b c d e f : ℕ) → a ≡ d → b ≡ e → c ≡ f → ◌≡◌ {A = AnswerKey} (record {
      target = a;
      sub_device = b;
      pid = c;
    }) (record { target = d; sub_device = e; pid = f })
    alike a b c d e f p q r = rw (p, q, r) refl

pub same_own : (k : AnswerKey) → same_key k k ≡ true
same_own k = rw (eq-eqb k.target k.target refl, eq-eqb k.sub_device k.sub_device refl, eq-eqb k.pid k.pid refl) refl

pub same_other : (j k : AnswerKey) → same_key k j ≡ false → same_key j k ≡ false
same_other j k other = by_test (cases_Bool (same_key j k))
  where
    by_test : (same_key j k ≡ true) ⊎ (same_key j k ≡ false) → same_key j k ≡ false
    by_test (inr not) = not
    by_test (inl same) =
        absurd (false≢true (sym other ∙ (ap (λ (x : AnswerKey). same_key k x) (same_from j k same) ∙ same_own k)))

-- a list without a key
pub own_struck : (k : AnswerKey) (ks : List AnswerKey) → lists k (without k ks) ≡ false
own_struck k [] = refl
own_struck k (x ∷ ks) = by_test (same_key k x) refl (own_struck k ks)
  where
    by_test : (b : Bool) → same_key k x ≡ b → lists k (without k ks) ≡ false
        → lists k (cond (not b) (x ∷ without k ks) (without k ks)) ≡ false
    by_test true is none = none
    by_test false is none = rw (is, none) refl

pub none_struck : (j k : AnswerKey) (ks : List AnswerKey) → lists j ks ≡ false → lists j (without k ks) ≡ false
none_struck j k [] none = refl
none_struck j k (x ∷ ks) none =
    by_test (not (same_key k x)) (or_parts (same_key j x) (lists j ks) none) (λ rest. none_struck j k ks rest)
  where
    by_test : (b : Bool) → (same_key j x ≡ false) × (lists j ks ≡ false)
        → (lists j ks ≡ false → lists j (without k ks) ≡ false)
        → lists j (cond b (x ∷ without k ks) (without k ks)) ≡ false
    by_test true both later = rw (both.0, later both.1) refl
    by_test false both later = later both.1

pub other_kept : (j k : AnswerKey) (ks : List AnswerKey) → same_key k j ≡ false → lists j (without k ks) ≡ lists j ks
other_kept j k [] other = refl
other_kept j k (x ∷ ks) other = by_test (same_key k x) refl (other_kept j k ks other)
  where
    by_test : (b : Bool) → same_key k x ≡ b → lists j (without k ks) ≡ lists j ks
        → lists j (cond (not b) (x ∷ without k ks) (without k ks)) ≡ (same_key j x || lists j ks)
    by_test false is later = ap (λ b. same_key j x || b) later
    by_test true is later = rw (← same_from k x is, same_other j k other) later

pub none_dropped : (j : AnswerKey) (ks : List AnswerKey) → lists j ks ≡ false → lists j (drop 1 ks) ≡ false
none_dropped j [] none = refl
none_dropped j (x ∷ ks) none = by_test (same_key j x) none
  where
    by_test : (b : Bool) → (b || lists j ks) ≡ false → lists j ks ≡ false
    by_test false rest = rest
    by_test true rest = absurd (false≢true (sym rest))

-- a list with one key more
or_last : (a b : Bool) → b ≡ true → (a || (b || false)) ≡ true
or_last true b is = refl
or_last false b is = rw is refl

or_none : (a b : Bool) → b ≡ false → (a || (b || false)) ≡ a
or_none true b is = refl
or_none false b is = rw is refl

pub own_listed : (k : AnswerKey) (ks : List AnswerKey) → lists k (ks ++ k ∷ []) ≡ true
own_listed k ks = list_any-append (same_key k) ks (k ∷ []) ∙ or_last (lists k ks) (same_key k k) (same_own k)

pub still_listed : (j k : AnswerKey) (ks : List AnswerKey) → lists j ks ≡ true → lists j (ks ++ k ∷ []) ≡ true
still_listed j k ks is = list_any-append (same_key j) ks (k ∷ []) ∙ or_left (lists j ks) (same_key j k || false) is

pub other_listed : (j k : AnswerKey) (ks : List AnswerKey) → same_key k j ≡ false
    → lists j (ks ++ k ∷ []) ≡ lists j ks
other_listed j k ks other =
    list_any-append (same_key j) ks (k ∷ []) ∙ or_none (lists j ks) (same_key j k) (same_other j k other)

-- a key that is opened is open, and so are those that were open
pub opens_own : (k : AnswerKey) (b : BrokenKeys) → is_open (with_open k b) k ≡ true
opens_own k b = by_mode b.inverted
  where
    by_room : (c : Bool) → is_open (if c then record { inverted = false; keys = without k b.keys ++ k ∷ [] }
        else record { inverted = true; keys = [] }) k ≡ true
    by_room true = own_listed k (without k b.keys)
    by_room false = refl

    by_mode : (c : Bool) → is_open (if c then record { inverted = true; keys = without k b.keys }
        else listed_open k (without k b.keys)) k ≡ true
    by_mode true = ap not (own_struck k b.keys)
    by_mode false = by_room (nat_lt (length (without k b.keys)) MOST_BROKEN)

pub from_not : (b : Bool) → not b ≡ true → b ≡ false
from_not true is = absurd (false≢true is)
from_not false is = refl

pub opens_none_else : (j k : AnswerKey) (b : BrokenKeys) → is_open b j ≡ true → is_open (with_open k b) j ≡ true
opens_none_else j k b was = by_mode b.inverted was
  where
    by_key : lists j b.keys ≡ true → (same_key k j ≡ true) ⊎ (same_key k j ≡ false)
        → lists j (without k b.keys ++ k ∷ []) ≡ true
    by_key is (inl same) = rw (← same_from k j same) (own_listed k (without k b.keys))
    by_key is (inr other) = still_listed j k (without k b.keys) (other_kept j k b.keys other ∙ is)

    by_room : (c : Bool) → lists j b.keys ≡ true
        → is_open (if c then record { inverted = false; keys = without k b.keys ++ k ∷ [] }
        else record { inverted = true; keys = [] }) j ≡ true
    by_room true is = by_key is (cases_Bool (same_key k j))
    by_room false is = refl

    by_mode : (c : Bool) → (if c then not (lists j b.keys) else lists j b.keys) ≡ true
        → is_open (if c then record { inverted = true; keys = without k b.keys }
        else listed_open k (without k b.keys)) j ≡ true
    by_mode true is = ap not (none_struck j k b.keys (from_not (lists j b.keys) is))
    by_mode false is = by_room (nat_lt (length (without k b.keys)) MOST_BROKEN) is

-- a key that is closed isn't open, and all others that were open still are
pub closes_own : (k : AnswerKey) (b : BrokenKeys) → is_open (with_closed k b) k ≡ false
closes_own k b = by_mode b.inverted
  where
    by_mode : (c : Bool) → is_open (if c then listed_closed k (without k b.keys)
        else record { inverted = false; keys = without k b.keys }) k ≡ false
    by_mode true =
        ap not (own_listed k (if nat_lt (length (without k b.keys)) MOST_BROKEN then without k b.keys
        else drop 1 (without k b.keys)))
    by_mode false = own_struck k b.keys

pub closes_none_else : (j k : AnswerKey) (b : BrokenKeys) → same_key k j ≡ false → is_open b j ≡ true
    → is_open (with_closed k b) j ≡ true
closes_none_else j k b other was = by_mode b.inverted was
  where
    by_room : (c : Bool) → lists j (without k b.keys) ≡ false
        → lists j (if c then without k b.keys else drop 1 (without k b.keys)) ≡ false
    by_room true none = none
    by_room false none = none_dropped j (without k b.keys) none

    by_mode : (c : Bool) → (if c then not (lists j b.keys) else lists j b.keys) ≡ true
        → is_open (if c then listed_closed k (without k b.keys)
        else record { inverted = false; keys = without k b.keys }) j ≡ true
    by_mode true is =
        ap not (other_listed j k _ other
        ∙ by_room (nat_lt (length (without k b.keys)) MOST_BROKEN)
        (none_struck j k b.keys (from_not (lists j b.keys) is)))
    by_mode false is = other_kept j k b.keys other ∙ is

abbrev pub inverted_of : BrokenKeys → Bool
inverted_of b = b.inverted

-- while the set isn't inverted, it has no other key that it hadn't before
pub opened_before : (j k : AnswerKey) (b : BrokenKeys) → (with_open k b).inverted ≡ false → same_key k j ≡ false
    → is_open (with_open k b) j ≡ true → (b.inverted ≡ false) × (is_open b j ≡ true)
opened_before j k b not_inverted other is = by_mode b.inverted not_inverted is
  where
    by_room : (c : Bool)
        → inverted_of (if c then record { inverted = false; keys = without k b.keys ++ k ∷ [] }
        else record { inverted = true; keys = [] }) ≡ false
        → is_open (if c then record { inverted = false; keys = without k b.keys ++ k ∷ [] }
        else record { inverted = true; keys = [] }) j ≡ true → lists j b.keys ≡ true
    by_room true fits has = sym (other_kept j k b.keys other) ∙ (sym (other_listed j k (without k b.keys) other) ∙ has)
    by_room false fits has = absurd (false≢true (sym fits))

    by_mode : (c : Bool)
        → inverted_of (if c then record { inverted = true; keys = without k b.keys }
        else listed_open k (without k b.keys)) ≡ false
        → is_open (if c then record { inverted = true; keys = without k b.keys }
        else listed_open k (without k b.keys)) j ≡ true
        → (c ≡ false) × ((if c then not (lists j b.keys) else lists j b.keys) ≡ true)
    by_mode true fits has = absurd (false≢true (sym fits))
    by_mode false fits has = (refl, by_room (nat_lt (length (without k b.keys)) MOST_BROKEN) fits has)

pub closed_before : (j k : AnswerKey) (b : BrokenKeys) → (with_closed k b).inverted ≡ false
    → is_open (with_closed k b) j ≡ true → (b.inverted ≡ false) × (is_open b j ≡ true)
closed_before j k b not_inverted is = by_mode b.inverted not_inverted is
  where
    listed : (c : Bool) → lists j b.keys ≡ c → lists j (without k b.keys) ≡ true → lists j b.keys ≡ true
    listed true has kept = has
    listed false none kept = absurd (false≢true (sym (none_struck j k b.keys none) ∙ kept))

    by_mode : (c : Bool)
        → inverted_of (if c then listed_closed k (without k b.keys)
        else record { inverted = false; keys = without k b.keys }) ≡ false
        → is_open (if c then listed_closed k (without k b.keys)
        else record { inverted = false; keys = without k b.keys }) j ≡ true
        → (c ≡ false) × ((if c then not (lists j b.keys) else lists j b.keys) ≡ true)
    by_mode true fits has = absurd (false≢true (sym fits))
    by_mode false fits has = (refl, listed (lists j b.keys) refl has)
