-- The first element of a list without something.
use Rattle.std.proofs.Common.{◌≡◌, ℕ, ◌+◌, ◌<◌, ◌≤◌, Bool, true, false, ◌&&◌, ◌||◌, not, List, [], ◌∷◌, ◌++◌, Option}
use Rattle.std.proofs.Common.{Some, None, append_assoc, refl, sym, ap, ◌∙◌, subst, inl, inr, true≢false, arith}
use Rattle.std.proofs.Common.{take, drop, length, get_or}
use Rattle.std.specs.Prelude.{◌==◌, if◌then◌else◌}
use Rattle.std.specs.List.{AllByRecursion}
use Rattle.std.proofs.lemmas.List.{take_more, drop_more, take-append-drop, map-append}
use Rattle.std.proofs.lemmas.Bool.{eqb-true, or_cases, false_from_ne_true, eq-eqb}
use Rattle.std.proofs.Math.Bool.{or-true, or-false}
use Rattle.rdm_wire.specs.Uid.{has, IsAscending, set_of}
use Rattle.rdm_wire.specs.Devices.{uids_of, device_with}
use Rattle.rdm_wire.specs.declared.device.Device.{Device}
use Rattle.rdm_agent.specs.Run.{acked_in}
use Rattle.rdm_agent.proofs.Members.{member}
use Rattle.rdm_agent.proofs.Pushes.{All-push}
use Rattle.rdm_agent.proofs.Sets.{same_members, ascending-set_of, has-set_of}
use Rattle.rdm_explain.specs.Certificates.{IsFirstElementWithout, FirstMisreported}
use Rattle.rdm_explain.specs.declared.exchange.Exchange.{Exchange}
use Rattle.rdm_explain.specs.Exchanges.{seen_all}
use Rattle.rdm_explain.specs.body.Leasts.{Least, IsLeast}
use Rattle.rdm_explain.specs.body.Firsts.{or_else}

pub first_of : {X : Type 0} (P : X → Type 0) (xs : List X) (i : ℕ) (x : X) → i < length xs → x ≡ get_or xs i x
    → AllByRecursion P (take i xs) → (P x → ⊥) → IsFirstElementWithout P xs x
first_of P xs i x within read before here = record {
  front = take i xs;
  back = drop (i + 1) xs;
  whole = sym (take-append-drop i xs)
      ∙ ap (λ l. take i xs ++ l) (drop_more xs i x within ∙ ap (λ y. y ∷ drop (i + 1) xs) (sym read));
  before = before;
  here = here;
}

pub all_more : {X : Type 0} (P : X → Type 0) (xs : List X) (i : ℕ) (x : X) → i < length xs → x ≡ get_or xs i x
    → AllByRecursion P (take i xs) → P x → AllByRecursion P (take (i + 1) xs)
all_more P xs i x within read before is =
    subst (λ l. AllByRecursion P l) (sym (take_more xs i x within ∙ ap (λ y. take i xs ++ y ∷ []) (sym read)))
    (All-push P (take i xs) x before is)

-- the first of ascending UIDs that fails a test is the least
no_less : (f : ℕ → Bool) (front back : List ℕ) (u w : ℕ) → IsAscending (front ++ u ∷ back)
    → AllByRecursion (λ v. f v ≡ true) front → has (front ++ u ∷ back) w ≡ true → f w ≡ false → u ≤ w
no_less f [] back u w asc all h fails =
    elim (or_cases (w == u) (has back w) h) [
      | inl is ↦ let same : w ≡ u = eqb-true w u is in omega arith
      | inr later ↦ let less : u < w = member (λ v. u < v) back w asc.0 later in omega arith
    ]
no_less f (v ∷ front) back u w asc all h fails =
    elim (or_cases (w == v) (has (front ++ u ∷ back) w) h) [
      | inl is ↦ absurd (true≢false (sym all.0 ∙ ap f (sym (eqb-true w v is)) ∙ fails))
      | inr later ↦ no_less f front back u w asc.1 all.1 later fails
    ]

pub has_middle : (front back : List ℕ) (u : ℕ) → has (front ++ u ∷ back) u ≡ true
has_middle [] back u = ap (λ b. b || has back u) (eq-eqb u u refl)
has_middle (v ∷ front) back u = ap (λ b. (u == v) || b) (has_middle front back u) ∙ or-true (u == v)

-- each element of a list is one of the list
pub own_elements : (us vs : List ℕ) → AllByRecursion (λ v. has (us ++ vs) v ≡ true) vs
own_elements us [] = tt
own_elements us (v ∷ vs) = (
  has_middle us vs v,
  subst (λ l. AllByRecursion (λ w. has l w ≡ true) vs) (append_assoc us (v ∷ []) vs) (own_elements (us ++ v ∷ []) vs),
)

both_true : (a b : Bool) → a ≡ true → b ≡ false → (a && not b) ≡ true
both_true true false p q = refl
both_true true true p q = absurd (true≢false q)
both_true false b p q = absurd (true≢false (sym p))

both_parts : (a b : Bool) → (a && not b) ≡ true → (a ≡ true) × (b ≡ false)
both_parts true false e = (refl, refl)
both_parts true true e = absurd (true≢false (sym e))
both_parts false b e = absurd (true≢false (sym e))

uids_tested : (f : ℕ → Bool) (ds : List Device) → AllByRecursion (λ (d : Device). f d.uid ≡ true) ds
    → AllByRecursion (λ v. f v ≡ true) (uids_of ds)
uids_tested f [] all = tt
uids_tested f (d ∷ ds) all = (all.0, uids_tested f ds all.1)

pub least_other : (f : ℕ → Bool) (ds : List Device) (i : ℕ) (d : Device) → i < length ds → d ≡ get_or ds i d
    → IsAscending (uids_of ds) → AllByRecursion (λ (e : Device). f e.uid ≡ true) (take i ds) → f d.uid ≡ false
    → IsLeast (λ u. has (uids_of ds) u && not (f u)) d.uid
least_other f ds i d within read asc all fails = record {
  here = both_true (has (uids_of ds) d.uid) (f d.uid)
      (subst (λ l. has l d.uid ≡ true) (sym uids) (has_middle front back d.uid)) fails;
  before = λ v less. false_from_ne_true (has (uids_of ds) v && not (f v)) (λ passes.
      let both = both_parts (has (uids_of ds) v) (f v) passes in
      let more : d.uid ≤ v = no_less f front back d.uid v (subst IsAscending uids asc) (uids_tested f (take i ds) all)
      (subst (λ l. has l v ≡ true) uids both.0) both.1 in
      (omega (arith, less)));
}
  where
    front : List ℕ
    front = uids_of (take i ds)

    back : List ℕ
    back = uids_of (drop (i + 1) ds)

    uids : uids_of ds ≡ front ++ d.uid ∷ back
    uids = ap uids_of (sym (take-append-drop i ds)
        ∙ ap (λ l. take i ds ++ l) (drop_more ds i d within ∙ ap (λ y. y ∷ drop (i + 1) ds) (sym read)))
        ∙ map-append (λ (e : Device). e.uid) (take i ds) (d ∷ drop (i + 1) ds)

none_fails : (f : ℕ → Bool) (ds : List Device) → AllByRecursion (λ (e : Device). f e.uid ≡ true) ds → (u : ℕ)
    → (has (uids_of ds) u && not (f u)) ≡ false
none_fails f ds all u = false_from_ne_true (has (uids_of ds) u && not (f u)) (λ passes.
    let both = both_parts (has (uids_of ds) u) (f u) passes in
    true≢false (sym (member (λ v. f v ≡ true) (uids_of ds) u (uids_tested f ds all) both.0) ∙ both.1))

pub no_other : (f : ℕ → Bool) (ds : List Device) → AllByRecursion (λ (e : Device). f e.uid ≡ true) ds
    → Least (λ u. has (uids_of ds) u && not (f u)) None
no_other f ds all = none_fails f ds all

-- tests with the same answers
pub least_same : (f g : ℕ → Bool) (r : Option ℕ) → ((u : ℕ) → f u ≡ g u) → Least f r → Least g r
least_same f g None same least = λ u. sym (same u) ∙ least u
least_same f g (Some u) same least = record {
  here = sym (same u) ∙ least.here;
  before = λ v less. sym (same v) ∙ least.before v less;
}

-- a set and the acknowledged UIDs
apart : (a b : Bool) → ((a && not b) || (b && not a)) ≡ false → a ≡ b
apart true true e = refl
apart true false e = absurd (true≢false e)
apart false true e = absurd (true≢false e)
apart false false e = refl

unlike : (a b : Bool) → ((a && not b) || (b && not a)) ≡ true → a ≡ b → ⊥
unlike true true e p = true≢false (sym e)
unlike true false e p = true≢false p
unlike false true e p = true≢false (sym p)
unlike false false e p = true≢false (sym e)

pub misreported : (s : List ℕ) (xs : List Exchange) (r : Option ℕ) → IsAscending s
    → Least (λ u. (has s u && not (has (acked_in (seen_all xs)) u))
    || (has (acked_in (seen_all xs)) u && not (has s u))) r
    → FirstMisreported s xs r
misreported s xs None asc least =
    same_members s (set_of (acked_in (seen_all xs))) asc (ascending-set_of (acked_in (seen_all xs)))
    (λ w h. has-set_of (acked_in (seen_all xs)) w ∙ sym (apart _ _ (least w)) ∙ h)
    (λ w h. apart _ _ (least w) ∙ sym (has-set_of (acked_in (seen_all xs)) w) ∙ h)
misreported s xs (Some u) asc least = record {
  here = unlike _ _ least.here;
  before = λ v less. apart _ _ (least.before v less);
  never = λ is. unlike _ _ least.here (ap (λ l. has l u) is ∙ has-set_of (acked_in (seen_all xs)) u);
}

-- a device at an index is in its set
pub has_uid_at : (ds : List Device) (i : ℕ) (d : Device) → i < length ds → d ≡ get_or ds i d
    → has (uids_of ds) d.uid ≡ true
has_uid_at ds i d within read =
    subst (λ l. has l d.uid ≡ true) (sym uids) (has_middle (uids_of (take i ds)) (uids_of (drop (i + 1) ds)) d.uid)
  where
    uids : uids_of ds ≡ uids_of (take i ds) ++ d.uid ∷ uids_of (drop (i + 1) ds)
    uids = ap uids_of (sym (take-append-drop i ds)
        ∙ ap (λ l. take i ds ++ l) (drop_more ds i d within ∙ ap (λ y. y ∷ drop (i + 1) ds) (sym read)))
        ∙ map-append (λ (e : Device). e.uid) (take i ds) (d ∷ drop (i + 1) ds)

-- the first device with a UID in one list and then another
pub with_append : (ds es : List Device) (u : ℕ)
    → device_with (ds ++ es) u ≡ or_else (device_with ds u) (device_with es u)
with_append [] es u = refl
with_append (d ∷ ds) es u = by_test (u == d.uid) (with_append ds es u)
  where
    by_test : (b : Bool) → device_with (ds ++ es) u ≡ or_else (device_with ds u) (device_with es u)
        → (if b then Some d else device_with (ds ++ es) u)
        ≡ or_else (if b then Some d else device_with ds u) (device_with es u)
    by_test true rest = refl
    by_test false rest = rest

pub or_and : (a b c : Bool) → ((a && c) || (b && c)) ≡ ((a || b) && c)
or_and true true true = refl
or_and true true false = refl
or_and true false c = or-false c
or_and false true c = refl
or_and false false c = refl
