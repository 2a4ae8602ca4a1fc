-- What a sweep's exchanges keep.
use Rattle.rdm_agent.proofs.Common.{◌≡◌, ℕ, ◌<◌, ◌&&◌, List, [], None, sym, inl, inr}
use Rattle.rdm_agent.proofs.Common.{subst, arith, nat_lt, cond_both, Span, whole}
use Rattle.rdm_agent.proofs.Common.{Seen, known_of, IsSilentBranch, TRIES, Belief, Sweep, is_whole, is_last, choose}
use Rattle.rdm_agent.proofs.Common.{sweep_on_after, sweep_split, believed_apart, Sweeping, Kind, Search, Quick}
use Rattle.rdm_agent.proofs.Common.{search_whole, answers_in_a_row, BAD_ANSWERS, is_in_vain}
use Rattle.rdm_agent.proofs.Choices.{IsChosen, chosen, same_range}
use Rattle.rdm_agent.proofs.Rows.{AnswersOf, Row, NotCorrupt, same-row, other-row, few-answers, none-answers}
use Rattle.rdm_agent.proofs.UnderWay.{EndsWith-none}
use Rattle.rdm_agent.proofs.Invariant.{EndsWith, Searches, InPhase}

-- the exchanges end with so many silent branches of the range
abbrev pub EndsSilent : ℕ → Span → List Seen → Type 0
EndsSilent n r x = EndsWith n (IsSilentBranch r.lo r.hi) x

module _ (search : Search) (kind : Kind) (known : List ℕ) (budget : ℕ) (x : List Seen) (found : List ℕ)
    (s : Searches (known_of kind known) None whole [] x found) (quick : search ≡ Quick) where
  -- the steady search begins
  pub begins-steady : (silences : ℕ) → silences < TRIES → EndsSilent silences whole x
      → ((u : ℕ) → answers_in_a_row u x < BAD_ANSWERS)
      → InPhase search kind known budget (search_whole silences) x found
  begins-steady silences few silent answers = record {
    searches = s;
    few = few;
    silent = silent;
    not_corrupt = subst (λ q. NotCorrupt q whole 0 x) (sym quick)
        (record { few = answers; own = λ one. absurd (omega (arith, one)) });
  }

  -- the sweep asks what it chose. If that is the last range again, its bad answers in a row count
  asks-phase : (silences bads : ℕ) (last : Span) (c : Sweep) (made : ℕ) → EndsSilent silences last x
      → AnswersOf last bads x → bads < BAD_ANSWERS → IsChosen made silences bads last c
      → InPhase search kind known budget (Sweeping c) x found
  asks-phase silences bads last c made silent answers few is = record {
    quick = quick;
    searches = s;
    asks = is.asks;
    silent = elim is.again [
      | inl none ↦ subst (λ m. EndsSilent m c.question.range x) (sym none) (EndsWith-none _ x)
      | inr same ↦ subst (λ (r : Span). EndsSilent c.silences r x) (sym same.1)
          (subst (λ m. EndsSilent m last x) (sym same.0) silent)
    ];
    few_bads = elim is.bads_are [
      | inl same ↦ let kept = same.1 in omega (arith, kept, few)
      | inr none ↦ let zero = none.1 in omega (arith, zero)
    ];
    row = elim is.bads_are [
      | inl same ↦ subst (λ (r : Span). Row r c.bads x) (sym same.0)
          (subst (λ m. Row last m x) (sym same.1) (same-row last bads x answers (λ one. few)))
      | inr none ↦ subst (λ m. Row c.question.range m x) (sym none.1)
          (other-row last bads x answers (λ one. few) c.question.range none.0)
    ];
  }

  -- the sweep goes on, or the steady search begins
  pub on-phase : (sweep : Sweep) (last : Span) (silences bads limit : ℕ) (b : Belief) → silences < TRIES
      → bads < BAD_ANSWERS → EndsSilent silences last x → AnswersOf last bads x
      → InPhase search kind known budget (sweep_on_after sweep last silences bads limit b) x found
  on-phase sweep last silences bads limit b few few_bads silent answers =
      cond_both (nat_lt sweep.made limit) _ _ (λ p. InPhase search kind known budget p x found)
      (λ goes. asks-phase silences bads last (choose sweep.made silences bads last b) sweep.made silent answers
      few_bads (chosen sweep.made silences bads last b few))
      (λ out. cond_both (is_whole last) silences 0
      (λ m. InPhase search kind known budget (search_whole m) x found)
      (λ all. begins-steady silences few
      (subst (λ (r : Span). EndsSilent silences r x) (same_range last whole all) silent) rows)
      (λ other. begins-steady 0 (omega arith) (EndsWith-none _ x) rows))
    where
      rows : (u : ℕ) → answers_in_a_row u x < BAD_ANSWERS
      rows = few-answers last bads x answers (λ one. few_bads)

  -- what it asked collided, and then a range was silent so often
  pub split-phase : (sweep : Sweep) (last : Span) (silences limit : ℕ) → silences < TRIES
      → EndsSilent silences last x → ((u : ℕ) → answers_in_a_row u x ≡ 0)
      → InPhase search kind known budget (sweep_split sweep last silences limit) x found
  split-phase sweep last silences limit few silent none =
      cond_both (is_last sweep.question.part && is_in_vain sweep.belief) _ _
      (λ p. InPhase search kind known budget p x found)
      (λ found_nothing. begins-steady 0 (omega arith) (EndsWith-none _ x)
      (λ u. let zero = none u in omega (arith, zero)))
      (λ goes. on-phase sweep last silences 0 limit
      (believed_apart sweep.question.part sweep.question.range sweep.silences sweep.belief) few (omega arith) silent
      (none-answers last x none))
