-- How often in a row one UID alone was answered by bytes.
use Rattle.rdm_agent.proofs.Common.{◌≡◌, ℕ, ◌+◌, ◌<◌, true, false, ◌&&◌, fold, List, [], ◌∷◌, ◌++◌, refl, sym, ap}
use Rattle.rdm_agent.proofs.Common.{◌∙◌, subst, inl, inr, true≢false, arith, ◌==◌, and_parts, and_from, cases_Bool}
use Rattle.rdm_agent.proofs.Common.{cond_both, eqb-true, eq-eqb, AllByRecursion, Span, Asked, Heard, Seen, is_acked}
use Rattle.rdm_agent.proofs.Common.{Unmute, Branch, Mute, Other, Acked, Silent, MuteAck, IsCorrupt, asks_range}
use Rattle.rdm_agent.proofs.Common.{is_branch, Search, Steady, Quick, BAD_ANSWERS, has_bytes, answered_again}
use Rattle.rdm_agent.proofs.Common.{answers_in_a_row}

-- one more exchange
fold-push : (f : ℕ → Seen → ℕ) (n : ℕ) (x : List Seen) (e : Seen) → fold f n (x ++ e ∷ []) ≡ f (fold f n x) e
fold-push f n [] e = refl
fold-push f n (d ∷ x) e = fold-push f (f n d) x e

abbrev exchanged : Asked → Heard → Seen
exchanged asked heard = record { asked = asked; heard = heard }

module _ (u : ℕ) (x : List Seen) where
  answers-push : (asked : Asked) (h : Heard) → answers_in_a_row u (x ++ exchanged asked h ∷ [])
      ≡ answered_again u (answers_in_a_row u x) asked h
  answers-push asked h = fold-push (λ n e. answered_again u n e.asked e.heard) 0 x (exchanged asked h)

  -- silence ends the row, and so does an acknowledgement
  pub silent-none : (lo hi : ℕ) → answers_in_a_row u (x ++ exchanged (Branch lo hi) Silent ∷ []) ≡ 0
  silent-none lo hi = answers-push (Branch lo hi) Silent

  pub acked-none : (v : ℕ) (ack : MuteAck) → answers_in_a_row u (x ++ exchanged (Mute v) (Acked ack) ∷ []) ≡ 0
  acked-none v ack = answers-push (Mute v) (Acked ack)

  -- and so does the branch of another range
  pub other-none : (lo hi : ℕ) (h : Heard) → (lo ≡ u → hi ≡ u → ⊥)
      → answers_in_a_row u (x ++ exchanged (Branch lo hi) h ∷ []) ≡ 0
  other-none lo hi h other = answers-push (Branch lo hi) h
      ∙ cond_both (has_bytes h && ((lo == u) && (hi == u))) (answers_in_a_row u x + 1) 0 (λ (n : ℕ). n ≡ 0)
      (λ own. let both = and_parts (lo == u) (hi == u) (and_parts (has_bytes h) ((lo == u) && (hi == u)) own).1 in
      absurd (other (eqb-true lo u both.0) (eqb-true hi u both.1)))
      (λ out. refl)

  -- one more bad answer
  pub own-more : (h : Heard) → has_bytes h ≡ true
      → answers_in_a_row u (x ++ exchanged (Branch u u) h ∷ []) ≡ answers_in_a_row u x + 1
  own-more h bytes = answers-push (Branch u u) h ∙ rw (bytes, eq-eqb u u refl) refl

  -- a mute that is lost leaves it
  pub lost-same : (v : ℕ) (h : Heard) → is_acked h ≡ false
      → answers_in_a_row u (x ++ exchanged (Mute v) h ∷ []) ≡ answers_in_a_row u x
  lost-same v h lost = answers-push (Mute v) h ∙ rw lost refl

-- without a branch there is no answer
pub unbranched-none : (u : ℕ) (x : List Seen) → AllByRecursion (λ e. is_branch e ≡ false) x → answers_in_a_row u x ≡ 0
unbranched-none u x none = kept x none 0 refl
  where
    step : (n : ℕ) (asked : Asked) (h : Heard) → n ≡ 0 → asks_range asked ≡ false → answered_again u n asked h ≡ 0
    step n Unmute h zero asks = refl
    step n Other h zero asks = refl
    step n (Mute v) h zero asks = cond_both (is_acked h) 0 n (λ (m : ℕ). m ≡ 0) (λ acked. refl) (λ lost. zero)
    step n (Branch lo hi) h zero asks = absurd (true≢false asks)

    kept : (l : List Seen) → AllByRecursion (λ e. is_branch e ≡ false) l → (n : ℕ) → n ≡ 0
        → fold (λ m e. answered_again u m e.asked e.heard) n l ≡ 0
    kept [] all n zero = zero
    kept (e ∷ l) all n zero = kept l all.1 (answered_again u n e.asked e.heard) (step n e.asked e.heard zero all.0)

-- the last branch is of this range: if it is of one UID alone, that was answered so often in a row, and no other one
-- was
pub record AnswersOf (r : Span) (n : ℕ) (x : List Seen) : Type 0 where
  pub own : r.lo ≡ r.hi → answers_in_a_row r.lo x ≡ n
  pub others : (u : ℕ) → (r.lo ≡ u → r.hi ≡ u → ⊥) → answers_in_a_row u x ≡ 0

-- before this range is branched: no UID was answered often enough to be corrupt, and if it is of one UID alone, that
-- was answered so often in a row
pub record Row (r : Span) (n : ℕ) (x : List Seen) : Type 0 where
  pub few : (u : ℕ) → answers_in_a_row u x < BAD_ANSWERS
  pub own : r.lo ≡ r.hi → answers_in_a_row r.lo x ≡ n

pub none-answers : (r : Span) (x : List Seen) → ((u : ℕ) → answers_in_a_row u x ≡ 0) → AnswersOf r 0 x
none-answers r x none = record { own = λ one. none r.lo; others = λ u other. none u }

pub none-row : (r : Span) (x : List Seen) → ((u : ℕ) → answers_in_a_row u x ≡ 0) → Row r 0 x
none-row r x none = record { few = λ u. let zero = none u in omega (arith, zero); own = λ one. none r.lo }

-- a range of several UIDs has no answers in a row
pub several-none : (r : Span) (n : ℕ) (x : List Seen) → AnswersOf r n x → (r.lo ≡ r.hi → ⊥) → (u : ℕ)
    → answers_in_a_row u x ≡ 0
several-none r n x a several u = a.others u (λ lo hi. several (lo ∙ sym hi))

-- bytes came
pub answered : (r : Span) (n : ℕ) (x : List Seen) (h : Heard) → has_bytes h ≡ true → Row r n x
    → AnswersOf r (n + 1) (x ++ exchanged (Branch r.lo r.hi) h ∷ [])
answered r n x h bytes row = record {
  own = λ one. subst (λ (m : ℕ). answers_in_a_row r.lo (x ++ exchanged (Branch r.lo m) h ∷ []) ≡ n + 1) one
      (own-more r.lo x h bytes ∙ ap (λ m. m + 1) (row.own one));
  others = λ u other. other-none u x r.lo r.hi h other;
}

-- a mute was lost
pub answers-lost : (r : Span) (n : ℕ) (x : List Seen) (v : ℕ) (h : Heard) → is_acked h ≡ false → AnswersOf r n x
    → AnswersOf r n (x ++ exchanged (Mute v) h ∷ [])
answers-lost r n x v h lost a = record {
  own = λ one. lost-same r.lo x v h lost ∙ a.own one;
  others = λ u other. lost-same u x v h lost ∙ a.others u other;
}

module _ (r : Span) (n : ℕ) (x : List Seen) (a : AnswersOf r n x) (few : r.lo ≡ r.hi → n < BAD_ANSWERS) where
  pub few-answers : (u : ℕ) → answers_in_a_row u x < BAD_ANSWERS
  few-answers u = elim (cases_Bool ((r.lo == u) && (r.hi == u))) [
    | inl both ↦ own (and_parts (r.lo == u) (r.hi == u) both)
    | inr other ↦ let zero = a.others u
        (λ lo hi. true≢false (sym (and_from (r.lo == u) (r.hi == u) (eq-eqb r.lo u lo) (eq-eqb r.hi u hi)) ∙ other)) in
        omega (arith, zero)
  ]
    where
      own : ((r.lo == u) ≡ true) × ((r.hi == u) ≡ true) → answers_in_a_row u x < BAD_ANSWERS
      own both =
          let lo : r.lo ≡ u = eqb-true r.lo u both.0 in let hi : r.hi ≡ u = eqb-true r.hi u both.1 in
          let one : r.lo ≡ r.hi = lo ∙ sym hi in let less = few one in
          let is : answers_in_a_row u x ≡ n = ap (λ (v : ℕ). answers_in_a_row v x) (sym lo) ∙ a.own one in
          omega (arith, less, is)

  -- the same range is asked again
  pub same-row : Row r n x
  same-row = record { few = few-answers; own = a.own }

  -- another one is asked
  pub other-row : (q : Span) → (q ≡ r → ⊥) → Row q 0 x
  other-row q other = record {
    few = few-answers;
    own = λ one. a.others q.lo (λ lo hi. other (same lo (hi ∙ one)));
  }
    where
      from_to : ℕ → ℕ → Span
      from_to lo hi = record { lo = lo; hi = hi }

      same : r.lo ≡ q.lo → r.hi ≡ q.hi → q ≡ r
      same lo hi = ap (λ l. from_to l q.hi) (sym lo) ∙ ap (λ h. from_to r.lo h) (sym hi)

-- no UID is corrupt, before this range is branched, which had so many bad answers
abbrev pub NotCorrupt : Search → Span → ℕ → List Seen → Type 0
NotCorrupt Steady r bads x = (u : ℕ) → IsCorrupt u x → ⊥
NotCorrupt Quick r bads x = Row r bads x

-- the range had so many bad answers, and was branched last
abbrev pub Answered : Search → Span → ℕ → List Seen → Type 0
Answered Steady r bads x = Unit {0}
Answered Quick r bads x = AnswersOf r bads x

pub answered-by : (search : Search) (r : Span) (n : ℕ) (x : List Seen) (h : Heard) → has_bytes h ≡ true
    → NotCorrupt search r n x → Answered search r (n + 1) (x ++ exchanged (Branch r.lo r.hi) h ∷ [])
answered-by Steady r n x h bytes sound = tt
answered-by Quick r n x h bytes row = answered r n x h bytes row

pub answered-lost : (search : Search) (r : Span) (n : ℕ) (x : List Seen) (v : ℕ) (h : Heard) → is_acked h ≡ false
    → Answered search r n x → Answered search r n (x ++ exchanged (Mute v) h ∷ [])
answered-lost Steady r n x v h lost a = tt
answered-lost Quick r n x v h lost a = answers-lost r n x v h lost a
