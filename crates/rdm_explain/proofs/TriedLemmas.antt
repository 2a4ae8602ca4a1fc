-- The covered points are the UIDs that were tried.
use Rattle.std.proofs.Common.{◌≡◌, ℕ, ◌≤◌, Bool, true, false, ◌||◌, List, [], ◌∷◌, ◌++◌, map, length, fold, refl, sym}
use Rattle.std.proofs.Common.{ap, ◌∙◌, subst, inl, inr, true≢false, arith}
use Rattle.std.specs.Prelude.{◌⊎◌, ◌==◌, nat_le, if◌then◌else◌}
use Rattle.std.specs.List.{AllByRecursion}
use Rattle.std.proofs.lemmas.List.{map-append, length-map}
use Rattle.std.proofs.lemmas.Bool.{eqb-true, eq-eqb, or_cases, and_parts, and_from, leb-true, le-leb}
use Rattle.std.proofs.Math.Bool.{or-true}
use Rattle.rdm_wire.specs.Uid.{has, is_within}
use Rattle.rdm_wire.specs.Honest.{Asked, Heard, Seen, is_acked}
use Rattle.rdm_wire.specs.Honest.Asked.{Unmute, Branch, Mute, Other}
use Rattle.rdm_wire.specs.Honest.Heard.{Failed, Silent, One, Acked, Noise}
use Rattle.rdm_agent.specs.Run.{acked_in, acked_by, acked_uid, InSuccession, IsSilentBranch, IsLostMute}
use Rattle.rdm_agent.proofs.Members.{heads, tails}
use Rattle.rdm_explain.specs.declared.cover.Stretch.{Stretch}
use Rattle.rdm_explain.specs.Covers.{IsCovered}
use Rattle.rdm_explain.specs.body.Covering.{IsIn, CoverState, covered_after, cover_start, silence_after, count_after}
use Rattle.rdm_explain.specs.body.Covering.{stretch}
use Rattle.rdm_explain.specs.body.Trying.{alone, alone_of, lows, tried_points}
use Rattle.rdm_explain.proofs.CoverLemmas.{in_covered, covered_in}
use Rattle.rdm_explain.proofs.EndLemmas.{all_append}

-- a silent branch of one UID was a mute of it
was_mute : (lo hi : ℕ) (a : Asked) (h : Heard) → IsSilentBranch lo hi (alone_of a h)
    → (lo ≡ hi) × ((a ≡ Mute lo) × (is_acked h ≡ false))
was_mute lo hi Unmute h is = absurd (let e = is.0 in cc)
was_mute lo hi (Branch a b) h is = absurd (let e = is.0 in cc)
was_mute lo hi Other h is = absurd (let e = is.0 in cc)
was_mute lo hi (Mute u) (Acked ack) is = absurd (let e = is.0 in cc)
was_mute lo hi (Mute u) Failed is =
    let e = is.0 in let p : u ≡ lo = cc in let q : u ≡ hi = cc in (sym p ∙ q, (ap (λ v. Mute v) p, refl))
was_mute lo hi (Mute u) Silent is =
    let e = is.0 in let p : u ≡ lo = cc in let q : u ≡ hi = cc in (sym p ∙ q, (ap (λ v. Mute v) p, refl))
was_mute lo hi (Mute u) (One w) is =
    let e = is.0 in let p : u ≡ lo = cc in let q : u ≡ hi = cc in (sym p ∙ q, (ap (λ v. Mute v) p, refl))
was_mute lo hi (Mute u) Noise is =
    let e = is.0 in let p : u ≡ lo = cc in let q : u ≡ hi = cc in (sym p ∙ q, (ap (λ v. Mute v) p, refl))

silent_was : (u : ℕ) (h : Heard) → is_acked h ≡ false → IsSilentBranch u u (alone_of (Mute u) h)
silent_was u Failed lost = (refl, refl)
silent_was u Silent lost = (refl, refl)
silent_was u (One w) lost = (refl, refl)
silent_was u (Acked ack) lost = absurd (true≢false lost)
silent_was u Noise lost = (refl, refl)

is_silent_alone : (u : ℕ) (e : Seen) → IsLostMute u e → IsSilentBranch u u (alone e)
is_silent_alone u e is =
    subst (λ a. IsSilentBranch u u (alone_of a e.heard)) (sym is.0) (silent_was u e.heard is.1)

acked_same : (a : Asked) (h : Heard) → acked_by (alone_of a h) ≡ acked_uid a h
acked_same Unmute h = refl
acked_same (Branch lo hi) h = refl
acked_same Other h = refl
acked_same (Mute u) Failed = refl
acked_same (Mute u) Silent = refl
acked_same (Mute u) (One w) = refl
acked_same (Mute u) (Acked ack) = refl
acked_same (Mute u) Noise = refl

acked_alone : (x : List Seen) → acked_in (map alone x) ≡ acked_in x
acked_alone [] = refl
acked_alone (e ∷ x) = rw (acked_same e.asked e.heard, acked_alone x) refl

-- parts of a list that is made from another
record Parts {X Y : Type 0} (f : X → Y) (x : List X) (a b : List Y) : Type 0 where
  first : List X
  second : List X
  whole : x ≡ first ++ second
  first_is : map f first ≡ a
  second_is : map f second ≡ b

parts : {X Y : Type 0} (f : X → Y) (x : List X) (a b : List Y) → map f x ≡ a ++ b → Parts f x a b
parts f x [] b e = record { first = []; second = x; whole = refl; first_is = refl; second_is = e }
parts f [] (y ∷ a) b e = absurd (let h = e in cc)
parts f (z ∷ x) (y ∷ a) b e =
    let r = parts f x a b (tails e) in record {
      first = z ∷ r.first;
      second = r.second;
      whole = ap (λ l. z ∷ l) r.whole;
      first_is = ap (λ l. f z ∷ l) r.first_is ∙ ap (λ v. v ∷ a) (heads e);
      second_is = r.second_is;
    }

all_were : {X Y : Type 0} (f : X → Y) (P : Y → Type 0) (Q : X → Type 0) (x : List X) → ((e : X) → P (f e) → Q e)
    → AllByRecursion P (map f x) → AllByRecursion Q x
all_were f P Q [] each all = tt
all_were f P Q (e ∷ x) each all = (each e all.0, all_were f P Q x each all.1)

all_are : {X Y : Type 0} (f : X → Y) (P : Y → Type 0) (Q : X → Type 0) (x : List X) → ((e : X) → Q e → P (f e))
    → AllByRecursion Q x → AllByRecursion P (map f x)
all_are f P Q [] each all = tt
all_are f P Q (e ∷ x) each all = (each e all.0, all_are f P Q x each all.1)

-- five in a row
mutes_were : (x : List Seen) (lo hi : ℕ) → InSuccession 5 (IsSilentBranch lo hi) (map alone x)
    → (lo ≡ hi) × InSuccession 5 (IsLostMute lo) x
mutes_were x lo hi s = (
  one inner.second run_is long,
  record {
    front = inner.first;
    run = inner.second;
    back = outer.second;
    whole = outer.whole ∙ ap (λ l. l ++ outer.second) inner.whole;
    many = long;
    each = all_were alone (IsSilentBranch lo hi) (IsLostMute lo) inner.second
        (λ e is. (was_mute lo hi e.asked e.heard is).1) run_is;
  },
)
  where
    outer : Parts alone x (s.front ++ s.run) s.back
    outer = parts alone x (s.front ++ s.run) s.back s.whole

    inner : Parts alone outer.first s.front s.run
    inner = parts alone outer.first s.front s.run outer.first_is

    run_is : AllByRecursion (IsSilentBranch lo hi) (map alone inner.second)
    run_is = subst (λ l. AllByRecursion (IsSilentBranch lo hi) l) (sym inner.second_is) s.each

    long : length inner.second ≡ 5
    long = sym (length-map inner.second alone) ∙ ap length inner.second_is ∙ s.many

    one : (run : List Seen) → AllByRecursion (IsSilentBranch lo hi) (map alone run) → length run ≡ 5 → lo ≡ hi
    one [] all many = absurd (none many)
      where
        none : length {A = Seen} [] ≡ 5 → ⊥
        none h = omega arith
    one (e ∷ run) all many = (was_mute lo hi e.asked e.heard all.0).0

silences_are : (x : List Seen) (u : ℕ) → InSuccession 5 (IsLostMute u) x
    → InSuccession 5 (IsSilentBranch u u) (map alone x)
silences_are x u s = record {
  front = map alone s.front;
  run = map alone s.run;
  back = map alone s.back;
  whole = ap (map alone) s.whole ∙ map-append alone (s.front ++ s.run) s.back
      ∙ ap (λ l. l ++ map alone s.back) (map-append alone s.front s.run);
  many = length-map s.run alone ∙ s.many;
  each = all_are alone (IsSilentBranch u u) (IsLostMute u) s.run (is_silent_alone u) s.each;
}

-- u was acknowledged, or muted five times in a row without acknowledgement
abbrev pub WasTried : List Seen → ℕ → Type 0
WasTried x u = (has (acked_in x) u ≡ true) ⊎ InSuccession 5 (IsLostMute u) x

between : (lo hi u : ℕ) → lo ≡ hi → is_within lo hi u ≡ true → lo ≡ u
between lo hi u same within =
    let both = and_parts (nat_le lo u) (nat_le u hi) within in
    let low : lo ≤ u = leb-true lo u both.0 in
    let high : u ≤ hi = leb-true u hi both.1 in omega arith

covered_tried : (x : List Seen) (u : ℕ) → IsCovered (map alone x) u → WasTried x u
covered_tried x u (inl acked) = inl (ap (λ l. has l u) (sym (acked_alone x)) ∙ acked)
covered_tried x u (inr c) =
    let m = mutes_were x c.lo c.hi c.silent in
    inr (subst (λ v. InSuccession 5 (IsLostMute v) x) (between c.lo c.hi u m.0 c.within) m.1)

itself : (u : ℕ) → is_within u u u ≡ true
itself u = and_from (nat_le u u) (nat_le u u) (le-leb u u (omega arith)) (le-leb u u (omega arith))

tried_covered : (x : List Seen) (u : ℕ) → WasTried x u → IsCovered (map alone x) u
tried_covered x u (inl acked) = inl (ap (λ l. has l u) (acked_alone x) ∙ acked)
tried_covered x u (inr five) = inr (record { lo = u; hi = u; within = itself u; silent = silences_are x u five })

-- each covered range has one UID
abbrev IsPoint : Stretch → Type 0
IsPoint s = s.lo ≡ s.hi

points_silence : (c : CoverState) (u : ℕ) → AllByRecursion IsPoint c.covered
    → AllByRecursion IsPoint (silence_after c u u).covered
points_silence c u all = by_test (nat_le 5 (count_after c u u))
  where
    by_test : (b : Bool) → AllByRecursion IsPoint (if b then c.covered ++ stretch u u ∷ [] else c.covered)
    by_test true = all_append IsPoint c.covered (stretch u u ∷ []) all (refl, tt)
    by_test false = all

points_after : (c : CoverState) (a : Asked) (h : Heard) → AllByRecursion IsPoint c.covered
    → AllByRecursion IsPoint (covered_after c (alone_of a h)).covered
points_after c Unmute h all = all
points_after c (Branch lo hi) h all = all
points_after c Other h all = all
points_after c (Mute u) Failed all = points_silence c u all
points_after c (Mute u) Silent all = points_silence c u all
points_after c (Mute u) (One w) all = points_silence c u all
points_after c (Mute u) (Acked ack) all = all_append IsPoint c.covered (stretch u u ∷ []) all (refl, tt)
points_after c (Mute u) Noise all = points_silence c u all

points_fold : (x : List Seen) (c : CoverState) → AllByRecursion IsPoint c.covered
    → AllByRecursion IsPoint (fold covered_after c (map alone x)).covered
points_fold [] c all = all
points_fold (e ∷ x) c all =
    points_fold x (covered_after c (alone e)) (points_after c e.asked e.heard all)

in_lows : (ss : List Stretch) (u : ℕ) → AllByRecursion IsPoint ss → IsIn ss u → has (lows ss) u ≡ true
in_lows [] u all is = absurd is
in_lows (s ∷ ss) u all (inl i) =
    let low = i.0 in let high = i.1 in let one = all.0 in
    let same : u ≡ s.lo = omega arith in ap (λ b. b || has (lows ss) u) (eq-eqb u s.lo same)
in_lows (s ∷ ss) u all (inr later) =
    ap (λ b. (u == s.lo) || b) (in_lows ss u all.1 later) ∙ or-true (u == s.lo)

lows_in : (ss : List Stretch) (u : ℕ) → AllByRecursion IsPoint ss → has (lows ss) u ≡ true → IsIn ss u
lows_in [] u all h = absurd (true≢false (sym h))
lows_in (s ∷ ss) u all h =
    elim (or_cases (u == s.lo) (has (lows ss) u) h) [
      | inl is ↦ let same : u ≡ s.lo = eqb-true u s.lo is in let one = all.0 in inl (omega arith, omega arith)
      | inr later ↦ inr (lows_in ss u all.1 later)
    ]

pub tried_is : (x : List Seen) (u : ℕ) → has (lows (tried_points x)) u ≡ true → WasTried x u
tried_is x u h =
    covered_tried x u (in_covered (map alone x) u (lows_in (tried_points x) u (points_fold x cover_start tt) h))

pub is_tried : (x : List Seen) (u : ℕ) → WasTried x u → has (lows (tried_points x)) u ≡ true
is_tried x u t =
    in_lows (tried_points x) u (points_fold x cover_start tt) (covered_in (map alone x) u (tried_covered x u t))
