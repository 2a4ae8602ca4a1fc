-- The state after some exchanges says exactly which UIDs they cover.
use Rattle.std.proofs.Common.{◌≡◌, ℕ, ◌+◌, ◌<◌, ◌≤◌, Bool, true, false, ◌&&◌, ◌||◌, List, [], ◌∷◌, ◌++◌, length, refl}
use Rattle.std.proofs.Common.{sym, ap, ◌∙◌, subst, inl, inr, true≢false, arith, append_assoc, append-nil, length-append}
use Rattle.std.specs.Prelude.{◌⊎◌, ◌==◌, nat_le, fold, if◌then◌else◌}
use Rattle.std.specs.List.{AllByRecursion}
use Rattle.std.proofs.lemmas.List.Elements.{filter_map-append}
use Rattle.std.proofs.lemmas.List.Folds.{list_any-append}
use Rattle.std.proofs.lemmas.Bool.{eqb-true, eq-eqb, or_cases, and_parts, and_from, leb-true, leb-false, le-leb}
use Rattle.std.proofs.lemmas.Bool.{or_left, or_right}
use Rattle.rdm_wire.specs.Uid.{has, is_within}
use Rattle.rdm_wire.specs.Honest.{Asked, Heard, Seen}
use Rattle.rdm_wire.specs.Honest.Asked.{Unmute, Branch, Mute, Other}
use Rattle.rdm_wire.specs.Honest.Heard.{Failed, Silent, One, Acked, Noise}
use Rattle.rdm_agent.specs.Run.{acked_in, acked_by, InSuccession, IsSilentBranch}
use Rattle.rdm_agent.proofs.Members.{first_part, last_part}
use Rattle.rdm_explain.specs.declared.cover.Stretch.{Stretch}
use Rattle.rdm_explain.specs.Rules.{EndsWith}
use Rattle.rdm_explain.specs.Covers.{IsCovered}
use Rattle.rdm_explain.specs.body.Covering.{In, IsIn, CoverState, count_after, silence_after, acked_after, other_after}
use Rattle.rdm_explain.specs.body.Covering.{covered_by, covered_after, cover_start, cover_state, stretch}
use Rattle.rdm_explain.proofs.EndLemmas.{ends_none, ends_more, ends_fewer}
use Rattle.rdm_explain.proofs.GapLemmas.{in_left, in_right, in_parts}

-- the end of a list
record SplitLast {X : Type 0} (xs front tail : List X) (e : X) : Type 0 where
  rest : List X
  tail_is : tail ≡ rest ++ e ∷ []
  before : xs ≡ front ++ rest

none_left : {X : Type 0} (xs ys : List X) → [] ≡ xs ++ ys → ys ≡ []
none_left [] ys e = sym e
none_left (x ∷ xs) ys e = cc

split_last : {X : Type 0} (xs front tail : List X) (e : X) → xs ++ e ∷ [] ≡ front ++ tail
    → (tail ≡ []) ⊎ SplitLast xs front tail e
split_last xs [] tail e w = inr (record { rest = xs; tail_is = sym w; before = refl })
split_last [] (f ∷ front) tail e w = let none : [] ≡ front ++ tail = cc in inl (none_left front tail none)
split_last (x ∷ xs) (f ∷ front) tail e w =
    let first : x ≡ f = cc in
    let rest : xs ++ e ∷ [] ≡ front ++ tail = cc in
    elim (split_last xs front tail e rest) [
      | inl none ↦ inl none
      | inr s ↦ inr (record { rest = s.rest; tail_is = s.tail_is; before = rw first (ap (λ l. f ∷ l) s.before) })
    ]

succession_more : (n : ℕ) (P : Seen → Type 0) (x : List Seen) (e : Seen) → InSuccession n P x
    → InSuccession n P (x ++ e ∷ [])
succession_more n P x e s = record {
  front = s.front;
  run = s.run;
  back = s.back ++ e ∷ [];
  whole = ap (λ l. l ++ e ∷ []) s.whole ∙ append_assoc (s.front ++ s.run) s.back (e ∷ []);
  many = s.many;
  each = s.each;
}

succession_last : (n : ℕ) (P : Seen → Type 0) (x : List Seen) (e : Seen) → InSuccession n P (x ++ e ∷ [])
    → InSuccession n P x ⊎ EndsWith n P (x ++ e ∷ [])
succession_last n P x e s =
    elim (split_last x (s.front ++ s.run) s.back e s.whole) [
      | inl none ↦ inr (record {
        front = s.front;
        last = s.run;
        whole = s.whole ∙ ap (λ l. s.front ++ s.run ++ l) none ∙ append-nil (s.front ++ s.run);
        many = s.many;
        each = s.each;
      })
      | inr l ↦ inl (record {
        front = s.front;
        run = s.run;
        back = l.rest;
        whole = l.before;
        many = s.many;
        each = s.each;
      })
    ]

pub ends_succession : (n m : ℕ) (P : Seen → Type 0) (x : List Seen) → n ≤ m → EndsWith m P x → InSuccession n P x
ends_succession n m P x fewer ends =
    let t = ends_fewer n m P x fewer ends in record {
      front = t.front;
      run = t.last;
      back = [];
      whole = t.whole ∙ sym (append-nil (t.front ++ t.last));
      many = t.many;
      each = t.each;
    }

acked_push : (x : List Seen) (e : Seen) (u : ℕ)
    → has (acked_in (x ++ e ∷ [])) u ≡ (has (acked_in x) u || has (acked_in (e ∷ [])) u)
acked_push x e u =
    ap (λ l. has l u) (filter_map-append acked_by x (e ∷ []))
    ∙ list_any-append (λ v. u == v) (acked_in x) (acked_in (e ∷ []))

covered_more : (x : List Seen) (e : Seen) (u : ℕ) → IsCovered x u → IsCovered (x ++ e ∷ []) u
covered_more x e u (inl acked) = inl (acked_push x e u ∙ or_left _ _ acked)
covered_more x e u (inr c) = inr (record {
  lo = c.lo;
  hi = c.hi;
  within = c.within;
  silent = succession_more 5 (IsSilentBranch c.lo c.hi) x e c.silent;
})

-- how the last exchange covers u
record ClearedLast (x : List Seen) (e : Seen) (u : ℕ) : Type 0 where
  lo : ℕ
  hi : ℕ
  within : is_within lo hi u ≡ true
  tail : EndsWith 5 (IsSilentBranch lo hi) (x ++ e ∷ [])

abbrev NowCovered : List Seen → Seen → ℕ → Type 0
NowCovered x e u = (has (acked_in (e ∷ [])) u ≡ true) ⊎ ClearedLast x e u

covered_last : (x : List Seen) (e : Seen) (u : ℕ) → IsCovered (x ++ e ∷ []) u → IsCovered x u ⊎ NowCovered x e u
covered_last x e u (inl acked) =
    elim (or_cases (has (acked_in x) u) (has (acked_in (e ∷ [])) u) (sym (acked_push x e u) ∙ acked))
    [ inl a ↦ inl (inl a) | inr a ↦ inr (inl a) ]
covered_last x e u (inr c) =
    elim (succession_last 5 (IsSilentBranch c.lo c.hi) x e c.silent) [
      | inl s ↦ inl (inr (record { lo = c.lo; hi = c.hi; within = c.within; silent = s }))
      | inr t ↦ inr (inr (record { lo = c.lo; hi = c.hi; within = c.within; tail = t }))
    ]

-- what the state says
record Says (x : List Seen) (c : CoverState) : Type 0 where
  run : EndsWith c.count (IsSilentBranch c.lo c.hi) x
  longest : (lo hi : ℕ) (front tail : List Seen) → x ≡ front ++ tail → AllByRecursion (IsSilentBranch lo hi) tail
      → 1 ≤ length tail → (lo ≡ c.lo) × (hi ≡ c.hi) × (length tail ≤ c.count)
  sound : (u : ℕ) → IsIn c.covered u → IsCovered x u
  complete : (u : ℕ) → IsCovered x u → IsIn c.covered u

-- an exchange that is no silent branch
no_tail : (x : List Seen) (e : Seen) (lo hi : ℕ) (front tail : List Seen) → ((lo hi : ℕ) → IsSilentBranch lo hi e → ⊥)
    → x ++ e ∷ [] ≡ front ++ tail → AllByRecursion (IsSilentBranch lo hi) tail → 1 ≤ length tail → ⊥
no_tail x e lo hi front tail never whole each some = by_last (split_last x front tail e whole)
  where
    by_last : (tail ≡ []) ⊎ SplitLast x front tail e → ⊥
    by_last (inl none) = let zero_long : length tail ≡ 0 = ap length none in omega arith
    by_last (inr s) =
        never lo hi (last_part (IsSilentBranch lo hi) s.rest (e ∷ [])
        (subst (λ l. AllByRecursion (IsSilentBranch lo hi) l) s.tail_is each)).0

broken_run : (x : List Seen) (e : Seen) (c : CoverState) (ss : List Stretch)
    → ((lo hi : ℕ) → IsSilentBranch lo hi e → ⊥)
    → ((u : ℕ) → IsIn ss u → IsCovered (x ++ e ∷ []) u) → ((u : ℕ) → IsCovered x u → IsIn ss u)
    → ((u : ℕ) → has (acked_in (e ∷ [])) u ≡ true → IsIn ss u)
    → Says (x ++ e ∷ []) (other_after c ss)
broken_run x e c ss never sound complete acked = record {
  run = ends_none _ (x ++ e ∷ []);
  longest = λ lo hi front tail whole each many. absurd (no_tail x e lo hi front tail never whole each many);
  sound = sound;
  complete = λ u covered. by_cover u (covered_last x e u covered);
}
  where
    by_now : (u : ℕ) → NowCovered x e u → IsIn ss u
    by_now u (inl now) = acked u now
    by_now u (inr t) =
        let many : length t.tail.last ≡ 5 = t.tail.many in
        absurd (no_tail x e t.lo t.hi t.tail.front t.tail.last never t.tail.whole t.tail.each (omega arith))

    by_cover : (u : ℕ) → IsCovered x u ⊎ NowCovered x e u → IsIn ss u
    by_cover u (inl before) = complete u before
    by_cover u (inr now) = by_now u now

other_step : (x : List Seen) (e : Seen) (c : CoverState) → ((lo hi : ℕ) → IsSilentBranch lo hi e → ⊥)
    → acked_in (e ∷ []) ≡ [] → Says x c → Says (x ++ e ∷ []) (other_after c c.covered)
other_step x e c never unacked says =
    broken_run x e c c.covered never (λ u is. covered_more x e u (says.sound u is)) says.complete
    (λ u acked. absurd (true≢false (sym acked ∙ ap (λ l. has l u) unacked)))

-- an acknowledged mute of v
acked_step : (x : List Seen) (e : Seen) (v : ℕ) (c : CoverState) → ((lo hi : ℕ) → IsSilentBranch lo hi e → ⊥)
    → acked_in (e ∷ []) ≡ v ∷ [] → Says x c → Says (x ++ e ∷ []) (acked_after c v)
acked_step x e v c never acked says =
    broken_run x e c (c.covered ++ stretch v v ∷ []) never
    (λ u is. by_parts u (in_parts c.covered (stretch v v ∷ []) u is))
    (λ u covered. in_left c.covered (stretch v v ∷ []) u (says.complete u covered))
    (λ u now. in_right c.covered (stretch v v ∷ []) u (inl (is_v u now)))
  where
    is_v : (u : ℕ) → has (acked_in (e ∷ [])) u ≡ true → In (stretch v v) u
    is_v u now =
        elim (or_cases (u == v) false (sym (ap (λ l. has l u) acked) ∙ now)) [
          | inl same ↦ let is : u ≡ v = eqb-true u v same in (omega (arith, is), omega (arith, is))
          | inr no_more ↦ absurd (true≢false (sym no_more))
        ]

    same : (u : ℕ) → In (stretch v v) u → u ≡ v
    same u i = omega (arith, i.0, i.1)

    by_parts : (u : ℕ) → IsIn c.covered u ⊎ IsIn (stretch v v ∷ []) u → IsCovered (x ++ e ∷ []) u
    by_parts u (inl before) = covered_more x e u (says.sound u before)
    by_parts u (inr (inr none)) = absurd none
    by_parts u (inr (inl i)) =
        inl (acked_push x e u ∙ or_right (has (acked_in x) u) _
        (ap (λ l. has l u) acked ∙ or_left (u == v) false (eq-eqb u v (same u i))))

-- a silent branch
abbrev silence : ℕ → ℕ → Seen
silence lo hi = record { asked = Branch lo hi; heard = Silent }

branch_bounds : (lo hi lo' hi' : ℕ) → Branch lo hi ≡ Branch lo' hi' → (lo ≡ lo') × (hi ≡ hi')
branch_bounds lo hi lo' hi' e = ((cc), (cc))

record Counted (c : CoverState) (lo hi n : ℕ) : Type 0 where
  some : 1 ≤ n
  again : lo ≡ c.lo → hi ≡ c.hi → n ≡ c.count + 1

counted : (c : CoverState) (lo hi : ℕ) → Counted c lo hi (count_after c lo hi)
counted c lo hi = by_test ((lo == c.lo) && (hi == c.hi)) refl
  where
    by_test : (b : Bool) → ((lo == c.lo) && (hi == c.hi)) ≡ b → Counted c lo hi (if b then c.count + 1 else 1)
    by_test true e = record { some = omega arith; again = λ p q. refl }
    by_test false e = record {
      some = omega arith;
      again = λ p q. absurd (true≢false
          (sym (and_from (lo == c.lo) (hi == c.hi) (eq-eqb lo c.lo p) (eq-eqb hi c.hi q)) ∙ e));
    }

silent_tail : (x : List Seen) (c : CoverState) (lo hi : ℕ) → Says x c
    → EndsWith (count_after c lo hi) (IsSilentBranch lo hi) (x ++ silence lo hi ∷ [])
silent_tail x c lo hi says = by_test ((lo == c.lo) && (hi == c.hi)) refl
  where
    by_test : (b : Bool) → ((lo == c.lo) && (hi == c.hi)) ≡ b
        → EndsWith (if b then c.count + 1 else 1) (IsSilentBranch lo hi) (x ++ silence lo hi ∷ [])
    by_test true e =
        let both = and_parts (lo == c.lo) (hi == c.hi) e in
        let same_lo : lo ≡ c.lo = eqb-true _ _ both.0 in
        let same_hi : hi ≡ c.hi = eqb-true _ _ both.1 in
        ends_more c.count (IsSilentBranch lo hi) x (silence lo hi)
        (subst (λ k. EndsWith c.count (IsSilentBranch lo k) x) (sym same_hi)
        (subst (λ k. EndsWith c.count (IsSilentBranch k c.hi) x) (sym same_lo) says.run))
        (refl, refl)
    by_test false e =
        record { front = x; last = silence lo hi ∷ []; whole = refl; many = refl; each = ((refl, refl), tt) }

record Longest (c : CoverState) (lo hi lo' hi' n : ℕ) : Type 0 where
  same_lo : lo' ≡ lo
  same_hi : hi' ≡ hi
  within : n ≤ count_after c lo hi

longest_tail : (x : List Seen) (c : CoverState) (lo hi : ℕ) → Says x c → (lo' hi' : ℕ) (front tail : List Seen)
    → x ++ silence lo hi ∷ [] ≡ front ++ tail
    → AllByRecursion (IsSilentBranch lo' hi') tail → 1 ≤ length tail → Longest c lo hi lo' hi' (length tail)
longest_tail x c lo hi says lo' hi' front tail whole each some = by_last (split_last x front tail (silence lo hi) whole)
  where
    by_rest : (rest : List Seen) → x ≡ front ++ rest → AllByRecursion (IsSilentBranch lo' hi') rest → lo' ≡ lo
        → hi' ≡ hi
        → length rest + 1 ≤ count_after c lo hi
    by_rest [] w a p q = omega (arith, (counted c lo hi).some)
    by_rest (r ∷ rest) w a p q =
        let l = says.longest lo' hi' front (r ∷ rest) w a (omega arith) in
        let n : count_after c lo hi ≡ c.count + 1 = (counted c lo hi).again (sym p ∙ l.0) (sym q ∙ l.1) in
        omega (arith, l.2)

    by_last : (tail ≡ []) ⊎ SplitLast x front tail (silence lo hi) → Longest c lo hi lo' hi' (length tail)
    by_last (inl none) = let zero_long : length tail ≡ 0 = ap length none in absurd (omega arith)
    by_last (inr s) =
        let all : AllByRecursion (IsSilentBranch lo' hi') (s.rest ++ silence lo hi ∷ [])
        = subst (λ l. AllByRecursion (IsSilentBranch lo' hi') l) s.tail_is each in
        let last = (last_part (IsSilentBranch lo' hi') s.rest (silence lo hi ∷ []) all).0 in
        let bounds = branch_bounds lo hi lo' hi' last.0 in
        let long : length tail ≡ length s.rest + 1 = ap length s.tail_is ∙ length-append s.rest (silence lo hi ∷ []) in
        record {
          same_lo = sym bounds.0;
          same_hi = sym bounds.1;
          within = subst (λ n. n ≤ count_after c lo hi) (sym long)
              (by_rest s.rest s.before (first_part (IsSilentBranch lo' hi') s.rest (silence lo hi ∷ []) all)
              (sym bounds.0) (sym bounds.1));
        }

silent_step : (x : List Seen) (c : CoverState) (lo hi : ℕ) → Says x c
    → Says (x ++ silence lo hi ∷ []) (silence_after c lo hi)
silent_step x c lo hi says = record {
  run = silent_tail x c lo hi says;
  longest = λ lo' hi' front tail whole each some. of_longest lo' hi' (length tail)
      (longest_tail x c lo hi says lo' hi' front tail whole each some);
  sound = λ u is. sound_by (nat_le 5 (count_after c lo hi)) refl u is;
  complete = λ u covered.
      complete_by (nat_le 5 (count_after c lo hi)) refl u (covered_last x (silence lo hi) u covered);
}
  where
    of_longest : (lo' hi' n : ℕ) → Longest c lo hi lo' hi' n → (lo' ≡ lo) × (hi' ≡ hi) × (n ≤ count_after c lo hi)
    of_longest lo' hi' n l = (l.same_lo, l.same_hi, l.within)

    cleared : (u : ℕ) → 5 ≤ count_after c lo hi → In (stretch lo hi) u → IsCovered (x ++ silence lo hi ∷ []) u
    cleared u many i = inr (record {
      lo = lo;
      hi = hi;
      within = and_from (nat_le lo u) (nat_le u hi) (le-leb _ _ i.0) (le-leb _ _ i.1);
      silent = ends_succession 5 (count_after c lo hi) (IsSilentBranch lo hi) (x ++ silence lo hi ∷ []) many
          (silent_tail x c lo hi says);
    })

    by_parts : (u : ℕ) → 5 ≤ count_after c lo hi → IsIn c.covered u ⊎ IsIn (stretch lo hi ∷ []) u
        → IsCovered (x ++ silence lo hi ∷ []) u
    by_parts u many (inl before) = covered_more x (silence lo hi) u (says.sound u before)
    by_parts u many (inr (inl i)) = cleared u many i
    by_parts u many (inr (inr none)) = absurd none

    sound_by : (b : Bool) → nat_le 5 (count_after c lo hi) ≡ b → (u : ℕ)
        → IsIn (if b then c.covered ++ stretch lo hi ∷ [] else c.covered) u → IsCovered (x ++ silence lo hi ∷ []) u
    sound_by true e u is = by_parts u (leb-true _ _ e) (in_parts c.covered (stretch lo hi ∷ []) u is)
    sound_by false e u is = covered_more x (silence lo hi) u (says.sound u is)

    in_tail : (u lo' hi' : ℕ) → is_within lo' hi' u ≡ true → Longest c lo hi lo' hi' 5 → In (stretch lo hi) u
    in_tail u lo' hi' within l =
        let both = and_parts (nat_le lo' u) (nat_le u hi') within in
        let at : lo' ≤ u = leb-true _ _ both.0 in
        let to : u ≤ hi' = leb-true _ _ both.1 in
        (subst (λ k. k ≤ u) l.same_lo at, subst (λ k. u ≤ k) l.same_hi to)

    long_tail : (u : ℕ) (t : ClearedLast x (silence lo hi) u) → Longest c lo hi t.lo t.hi 5
    long_tail u t =
        let many : length t.tail.last ≡ 5 = t.tail.many in
        subst (λ n. Longest c lo hi t.lo t.hi n) many
        (longest_tail x c lo hi says t.lo t.hi t.tail.front t.tail.last t.tail.whole t.tail.each (omega arith))

    complete_by : (b : Bool) → nat_le 5 (count_after c lo hi) ≡ b → (u : ℕ)
        → IsCovered x u ⊎ NowCovered x (silence lo hi) u
        → IsIn (if b then c.covered ++ stretch lo hi ∷ [] else c.covered) u
    complete_by true e u (inl before) = in_left c.covered (stretch lo hi ∷ []) u (says.complete u before)
    complete_by false e u (inl before) = says.complete u before
    complete_by b e u (inr (inl acked)) = absurd (true≢false (sym acked))
    complete_by true e u (inr (inr t)) =
        in_right c.covered (stretch lo hi ∷ []) u (inl (in_tail u t.lo t.hi t.within (long_tail u t)))
    complete_by false e u (inr (inr t)) =
        let few : count_after c lo hi < 5 = leb-false _ _ e in
        let l = long_tail u t in absurd (omega (arith, l.within))

-- which exchanges are no silent branches
not_silent : (a : Asked) (h : Heard) → (h ≡ Silent → ⊥) → (lo hi : ℕ)
    → IsSilentBranch lo hi (record { asked = a; heard = h }) → ⊥
not_silent a h never lo hi s = never s.1

not_branch : (a : Asked) (h : Heard) → ((lo hi : ℕ) → a ≡ Branch lo hi → ⊥) → (lo hi : ℕ)
    → IsSilentBranch lo hi (record { asked = a; heard = h }) → ⊥
not_branch a h never lo hi s = never lo hi s.0

step_by : (x : List Seen) (c : CoverState) (a : Asked) (h : Heard) → Says x c
    → Says (x ++ record { asked = a; heard = h } ∷ []) (covered_by c a h)
step_by x c (Branch lo hi) Silent says = silent_step x c lo hi says
step_by x c (Branch lo hi) Failed says = other_step x _ c (not_silent (Branch lo hi) Failed (λ e. cc)) refl says
step_by x c (Branch lo hi) (One u) says = other_step x _ c (not_silent (Branch lo hi) (One u) (λ e. cc)) refl says
step_by x c (Branch lo hi) (Acked ack) says =
    other_step x _ c (not_silent (Branch lo hi) (Acked ack) (λ e. cc)) refl says
step_by x c (Branch lo hi) Noise says = other_step x _ c (not_silent (Branch lo hi) Noise (λ e. cc)) refl says
step_by x c (Mute u) (Acked ack) says = acked_step x _ u c (not_branch (Mute u) (Acked ack) (λ l h e. cc)) refl says
step_by x c (Mute u) Silent says = other_step x _ c (not_branch (Mute u) Silent (λ l h e. cc)) refl says
step_by x c (Mute u) Failed says = other_step x _ c (not_branch (Mute u) Failed (λ l h e. cc)) refl says
step_by x c (Mute u) (One v) says = other_step x _ c (not_branch (Mute u) (One v) (λ l h e. cc)) refl says
step_by x c (Mute u) Noise says = other_step x _ c (not_branch (Mute u) Noise (λ l h e. cc)) refl says
step_by x c Unmute h says = other_step x _ c (not_branch Unmute h (λ l k e. cc)) refl says
step_by x c Other h says = other_step x _ c (not_branch Other h (λ l k e. cc)) refl says

says_after : (front x : List Seen) (c : CoverState) → Says front c → Says (front ++ x) (fold covered_after c x)
says_after front [] c says = subst (λ l. Says l c) (sym (append-nil front)) says
says_after front (e ∷ x) c says =
    subst (λ l. Says l (fold covered_after (covered_after c e) x)) (append_assoc front (e ∷ []) x)
    (says_after (front ++ e ∷ []) x (covered_after c e) (step_by front c e.asked e.heard says))

says_nothing : Says [] cover_start
says_nothing = record {
  run = ends_none _ [];
  longest = λ lo hi front tail whole each some. no_room front tail whole some _ _;
  sound = λ u never. absurd never;
  complete = λ u covered. absurd (none u covered);
}
  where
    no_room : (front tail : List Seen) → [] ≡ front ++ tail → 1 ≤ length tail → (P Q : Type 0)
        → P × Q × (length tail ≤ 0)
    no_room front tail whole some P Q =
        let zero_long : length tail ≡ 0 = ap length (none_left front tail whole) in absurd (omega arith)

    none : (u : ℕ) → IsCovered [] u → ⊥
    none u (inl acked) = true≢false (sym acked)
    none u (inr c) =
        let s = c.silent in
        let long : length (s.front ++ s.run ++ s.back) ≡ 0 = ap length (sym s.whole) in
        let first : length (s.front ++ s.run ++ s.back) ≡ length (s.front ++ s.run) + length s.back
        = length-append (s.front ++ s.run) s.back in
        let second : length (s.front ++ s.run) ≡ length s.front + length s.run = length-append s.front s.run in
        let many : length s.run ≡ 5 = s.many in
        omega arith

says_all : (x : List Seen) → Says x (cover_state x)
says_all x = says_after [] x cover_start says_nothing

-- what is in the stretches is covered, and the other way round
pub in_covered : (x : List Seen) (u : ℕ) → IsIn (cover_state x).covered u → IsCovered x u
in_covered x u is = (says_all x).sound u is

pub covered_in : (x : List Seen) (u : ℕ) → IsCovered x u → IsIn (cover_state x).covered u
covered_in x u covered = (says_all x).complete u covered
