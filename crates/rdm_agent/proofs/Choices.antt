-- What a sweep chooses to ask, whatever it believes.
use Rattle.rdm_agent.proofs.Common.{◌≡◌, ℕ, ◌+◌, ◌<◌, ◌≤◌, ◌^◌, Bool, true, false, ◌&&◌, not, refl, sym, ap, ◌∙◌, inl}
use Rattle.rdm_agent.proofs.Common.{inr, subst, true≢false, arith, ◌⊎◌, ◌==◌, nat_lt, min, cond_both, and_parts}
use Rattle.std.specs.Prelude.{max}
use Rattle.rdm_agent.proofs.Common.{eqb-true, eq-eqb, ltb-false, not-true, Span, whole, TRIES, Belief, Sweep}
use Rattle.rdm_agent.proofs.Common.{is_one, choose, ◌-◌, ◌||◌, or_cases}
use Rattle.std.proofs.Math.Nat.{min-le_left, min-le_right, le-min}
use Rattle.rdm_agent.specs.declared.belief.Question.{Question}
use Rattle.rdm_agent.specs.declared.belief.Alone.{Alone}
use Rattle.rdm_agent.specs.declared.belief.Alone.TheVariants as alone
use Rattle.rdm_agent.specs.Machine.{asking, is_apart, is_asked_out}
use Rattle.rdm_agent.specs.Beliefs.{spanning, last_uid, is_same, part_of, with_lower, question, above, ready, all_of}
use Rattle.rdm_agent.specs.Beliefs.{swept, asked_alone}

-- a range of UIDs
abbrev pub IsRange : Span → Type 0
IsRange r = (r.lo ≤ r.hi) × (r.hi < 2 ^ 48)

spanning-is : (lo hi : ℕ) → IsRange (spanning lo hi)
spanning-is lo hi =
    let below = min-le_right hi last_uid in (min-le_right lo (min hi last_uid), omega (arith, below))

-- the gap is the whole range, or without the greatest UID
abbrev pub IsOut : Span → Type 0
IsOut r = (r ≡ whole) ⊎ (r.hi < last_uid)

all_of-is : (b : Belief) → IsRange (all_of b)
all_of-is b = cond_both (b.top == last_uid) _ _ (λ (r : Span). IsRange r) (λ all. (omega arith, omega arith))
    (λ gap. spanning-is _ _)

all_of-out : (b : Belief) → IsOut (all_of b)
all_of-out b = cond_both (b.top == last_uid) _ _ (λ (r : Span). IsOut r) (λ all. inl refl)
    (λ gap. let hi = min-le_left (min b.top (last_uid - 1)) last_uid in
    let top = min-le_right b.top (last_uid - 1) in inr (omega (arith, hi, top)))

-- what is asked of the gap is a range, for the sake of no UID that was set apart
record IsOfGap (q : Question) : Type 0 where
  range : IsRange q.range
  other : is_apart q.part ≡ true → ⊥

swept-is : (b : Belief) → IsOfGap (swept b)
swept-is b = cond_both (nat_lt (min b.top last_uid) b.at) _ _ IsOfGap
    (λ all. record { range = all_of-is b; other = λ p. true≢false (sym p) }) (λ some. lower (part_of b) part)
  where
    part : IsOfGap (part_of b)
    part = cond_both (b.need == 0) _ _ IsOfGap
        (λ fresh. record { range = spanning-is _ _; other = λ p. true≢false (sym p) })
        (λ held. cond_both (b.need == 1) _ _ IsOfGap
        (λ one. record { range = spanning-is _ _; other = λ p. true≢false (sym p) })
        (λ two. cond_both (nat_lt b.lo b.at && nat_lt 2 b.quiet) _ _ IsOfGap
        (λ rest. record { range = spanning-is _ _; other = λ p. true≢false (sym p) })
        (λ lower. record { range = spanning-is _ _; other = λ p. true≢false (sym p) })))

    lower : (q : Question) → IsOfGap q → IsOfGap (with_lower b q)
    lower q is = cond_both (is_one q.range) _ _ IsOfGap
        (λ one. record { range = spanning-is _ _; other = is.other }) (λ several. is)

-- what is asked is a range
question-is : (b : Belief) → IsRange (question b).range
question-is b = by b.alone
  where
    by : (al : Alone) → IsRange (asked_alone al b).range
    by alone.No = (swept-is b).range
    by alone.End = spanning-is b.end b.end
    by alone.Apart = spanning-is _ _
    by alone.Spelt = spanning-is _ _

-- a UID that was set apart isn't the greatest one
apart-below : (b : Belief) → is_apart (question b).part ≡ true → (question b).range.hi < last_uid
apart-below b = by b.alone
  where
    by : (al : Alone) → is_apart (asked_alone al b).part ≡ true → (asked_alone al b).range.hi < last_uid
    by alone.No p = absurd ((swept-is b).other p)
    by alone.End p = absurd (true≢false (sym p))
    by alone.Spelt p = absurd (true≢false (sym p))
    by alone.Apart p =
        let hi = min-le_left (min b.end (last_uid - 1)) last_uid in
        let end = min-le_right b.end (last_uid - 1) in omega (arith, hi, end)

-- what seems the same is the same
pub same_range : (r q : Span) → is_same r q ≡ true → r ≡ q
same_range r q same =
    let both = and_parts (r.lo == q.lo) (r.hi == q.hi) same in
    ap (λ l. from_to l r.hi) (eqb-true r.lo q.lo both.0) ∙ ap (λ h. from_to q.lo h) (eqb-true r.hi q.hi both.1)
  where
    from_to : ℕ → ℕ → Span
    from_to lo hi = record { lo = lo; hi = hi }

-- it asks a range, and none with the greatest UID but the whole one for a fifth silence
pub record Asks (s : Sweep) : Type 0 where
  pub range : IsRange s.question.range
  pub few : s.silences < TRIES
  pub last : s.silences + 1 ≡ TRIES → IsOut s.question.range
  pub apart : is_apart s.question.part ≡ true → s.question.range.hi < last_uid

-- the silences and bad answers of the last range count if it is asked again
pub record IsChosen (made silences bads : ℕ) (last : Span) (s : Sweep) : Type 0 where
  pub made_is : s.made ≡ made
  pub asks : Asks s
  pub again : (s.silences ≡ 0) ⊎ ((s.silences ≡ silences) × (s.question.range ≡ last))
  pub counted : s.question.range ≡ last → s.silences ≡ silences
  pub bads_are : ((s.question.range ≡ last) × (s.bads ≡ bads)) ⊎ ((s.question.range ≡ last → ⊥) × (s.bads ≡ 0))

same_as : (r q : Span) → r ≡ q → is_same r q ≡ true
same_as r q is = subst (λ (s : Span). is_same r s ≡ true) is (itself r)
  where
    itself : (r : Span) → is_same r r ≡ true
    itself r = rw (eq-eqb r.lo r.lo refl, eq-eqb r.hi r.hi refl) refl

-- above a range that isn't the gap another range is asked
other_behind : (r : Span) (b : Belief) → is_same r (all_of b) ≡ false → (question (above r b)).range ≡ r → ⊥
other_behind r b other = cond_both (nat_lt (min b.top last_uid) (r.hi + 1)) _ _ (λ (q : Question). q.range ≡ r → ⊥)
    (λ above is. true≢false (sym (same_as r (all_of b) (sym is)) ∙ other))
    (λ within is. past (ltb-false (min b.top last_uid) (r.hi + 1) within) (ap (λ (s : Span). s.hi) is))
  where
    fresh : Question
    fresh = part_of (above r b)

    asked : Question
    asked = with_lower (above r b) fresh

    higher : r.hi + 1 ≤ min b.top last_uid → r.hi + 1 ≤ fresh.range.hi
    higher within =
        let top = min-le_left b.top last_uid in let last = min-le_right b.top last_uid in
        let far : r.hi + 1 ≤ r.hi + 1 + (max (r.hi + 1 - b.lo) 1 - 1) = omega arith in
        le-min (le-min far (omega (arith, within, top))) (omega (arith, within, last))

    past : r.hi + 1 ≤ min b.top last_uid → asked.range.hi ≡ r.hi → ⊥
    past within = cond_both (is_one fresh.range) _ _ (λ (q : Question). q.range.hi ≡ r.hi → ⊥)
        (λ one same. let up = higher within in let last = min-le_right b.top last_uid in
        let below : r.hi + 1 ≤ min fresh.range.hi last_uid = le-min up (omega (arith, within, last)) in
        omega (arith, below, same))
        (λ several same. let up = higher within in omega (arith, up, same))

-- the same range is asked again, or another one
abbrev IsAgain : ℕ → ℕ → ℕ → ℕ → Span → Span → Type 0
IsAgain silences bads again more last r =
    ((r ≡ last) × (again ≡ silences) × (more ≡ bads)) ⊎ ((r ≡ last → ⊥) × (again ≡ 0) × (more ≡ 0))

-- what is asked after so many silences or bad answers in a row
asking-is : (made silences bads again more : ℕ) (last : Span) (q : Question) (b : Belief) → IsRange q.range
    → (is_apart q.part ≡ true → q.range.hi < last_uid) → again < TRIES → IsAgain silences bads again more last q.range
    → IsChosen made silences bads last (asking made again more q b)
asking-is made silences bads again more last q b range low few before =
    cond_both (((again + 1) == TRIES) && not (is_asked_out q b)) _ _ (IsChosen made silences bads last)
    (λ fifth. let both = and_parts ((again + 1) == TRIES) (not (is_asked_out q b)) fifth in
    let elsewhere : (question (above q.range b)).range ≡ last → ⊥ =
    λ is. other_behind q.range b (or_first (is_same q.range (all_of b)) (is_apart q.part)
    (not-true (is_asked_out q b) both.1))
    (is ∙ sym (asked_last before (eqb-true (again + 1) TRIES both.0))) in record {
      made_is = refl;
      asks = record {
        range = question-is (above q.range b);
        few = omega arith;
        last = λ five. absurd (none_last five);
        apart = apart-below (above q.range b);
      };
      again = inl refl;
      counted = λ is. absurd (elsewhere is);
      bads_are = inr (elsewhere, refl);
    })
    (λ other. record {
      made_is = refl;
      asks = record {
        range = range;
        few = few;
        last = λ five. out (eq-eqb (again + 1) TRIES five) other;
        apart = low;
      };
      again = elim before [ inl same ↦ inr (same.1, same.0) | inr none ↦ inl none.1 ];
      counted = λ is. elim before [ inl same ↦ same.1 | inr none ↦ absurd (none.0 is) ];
      bads_are = elim before [ inl same ↦ inl (same.0, same.2) | inr none ↦ inr (none.0, none.2) ];
    })
  where
    none_last : 0 + 1 ≡ TRIES → ⊥
    none_last five = omega (arith, five)

    -- the last range was asked again
    asked_last : IsAgain silences bads again more last q.range → again + 1 ≡ TRIES → q.range ≡ last
    asked_last (inl same) five = same.0
    asked_last (inr none) five = absurd (let zero = none.1 in omega (arith, zero, five))

    or_first : (p q : Bool) → (p || q) ≡ false → p ≡ false
    or_first true q is = absurd (true≢false is)
    or_first false q is = refl

    out : ((again + 1) == TRIES) ≡ true → (((again + 1) == TRIES) && not (is_asked_out q b)) ≡ false → IsOut q.range
    out five other = elim (or_cases (is_same q.range (all_of b)) (is_apart q.part)
        (by (is_asked_out q b) (subst (λ (t : Bool). (t && not (is_asked_out q b)) ≡ false) five other))) [
          | inl gap ↦ subst (λ (r : Span). IsOut r) (sym (same_range q.range (all_of b) gap)) (all_of-out b)
          | inr alone ↦ inr (low alone)
        ]
      where
        by : (w : Bool) → (true && not w) ≡ false → w ≡ true
        by true p = refl
        by false p = absurd (true≢false p)

-- whatever it believes
pub chosen : (made silences bads : ℕ) (last : Span) (b : Belief) → silences < TRIES
    → IsChosen made silences bads last (choose made silences bads last b)
unfolding choose
chosen made silences bads last b few =
    cond_both (is_same next.range last) _ _ (IsChosen made silences bads last)
    (λ same. asking-is made silences bads silences bads last next (ready b) (question-is (ready b))
    (apart-below (ready b)) few
    (inl (same_range next.range last same, refl, refl)))
    (λ other. asking-is made silences bads 0 0 last next (ready b) (question-is (ready b))
    (apart-below (ready b)) (omega arith)
    (inr ((λ is. true≢false (sym (same_as next.range last is) ∙ other)), refl, refl)))
  where
    next : Question
    next = question (ready b)
