-- What a log has reported doesn't change as it grows.
use Rattle.rdm_log.proofs.Common.{◌≡◌, ℕ, zero, suc, ◌+◌, ◌≤◌, ◌<◌, true, List, [], ◌∷◌, ◌++◌, length}
use Rattle.rdm_log.proofs.Common.{drop, fold, Option, Some, None, slice_get, refl, sym, ap, ◌∙◌, inl, inr, arith}
use Rattle.rdm_log.proofs.Common.{filter_map, ◌⊎◌, ◌==◌, ◌||◌, option_and_then, AllByRecursion, list_any, or_right}
use Rattle.rdm_log.proofs.Common.{false≢true, eq-eqb, none-some, same_Some, drop-append-le, recursion_from_All}
use Rattle.rdm_log.proofs.Common.{filter_passes, EachAfter, AgentFault, Opening, Entry, Finish, Answer, Answered}
use Rattle.rdm_log.proofs.Common.{answered_of, answers, is_answer_to, answers_to, collects_by, uncollected, is_answered}
use Rattle.rdm_log.proofs.Common.{last_run_without_fault, if_without_fault, run_exchanges, known_devices, devices_of}
use Rattle.rdm_log.proofs.Common.{MayFollow, outcome_of, OutcomeValue}
use Rattle.std.proofs.lemmas.List.Elements.{All-drop}
use Rattle.rdm_log.specs.promises.Outcomes.{kind_of_answer, oldest_kind}
use Rattle.rdm_log.proofs.LogLemmas.Indices.{slice_get-drop, filter_map_has}
use Rattle.rdm_log.proofs.LogLemmas.LegalFacts.{legal_facts}
use Rattle.rdm_log.proofs.LogLemmas.RunFacts.{open_is}
use Rattle.rdm_log.proofs.PromiseLemmas.StableResults.{result_step, filter_has, uncollected_answer, IsFinish, IsReply}
use Rattle.rdm_log.proofs.PromiseLemmas.RunsAnswer.{exchanges_step}

-- a run that is answered has no exchange more
pub exchanges_kept : (o : Opening) (h : List Entry) (e : Entry) → EachAfter (MayFollow o) h → MayFollow o h e → (r : ℕ)
    → is_answered r h ≡ true → run_exchanges r (h ++ e ∷ []) ≡ run_exchanges r h
exchanges_kept o h e each may r is =
    exchanges_step o h e each may r (λ open_. false≢true (sym (open_is h r open_).left ∙ is))

-- an Answer names its run
pub some_at : (r : ℕ) (bs : List Answered) (j : ℕ) (b : Answered) → slice_get bs j ≡ Some b → b.run ≡ r
    → list_any (λ x. x.run == r) bs ≡ true
some_at r [] j b at is = cc
some_at r (x ∷ bs) zero b at is = let same : x ≡ b = cc in rw (same, eq-eqb b.run r is) refl
some_at r (x ∷ bs) (suc j) b at is = or_right (x.run == r) _ (some_at r bs j b at is)

pub named : (h : List Entry) (i n r : ℕ) (f : Option AgentFault) → slice_get h i ≡ Some (Answer n r f)
    → is_answered r h ≡ true
unfolding answers
named h i n r f at =
    let has = filter_map_has answered_of h i (Answer n r f) (record { number = n; run = r; fault = f }) at refl in
    some_at r (filter_map answered_of h) has.0 _ has.1 refl

-- the outcome of what isn't collected
agree_on : (f g : Entry → Option OutcomeValue) (es : List Entry)
    → ((i : ℕ) (x : Entry) → slice_get es i ≡ Some x → f x ≡ g x) → filter_map f es ≡ filter_map g es
agree_on f g [] at = refl
agree_on f g (x ∷ es) at = rw (at 0 x refl, agree_on f g es (λ i y is. at (suc i) y is)) refl

pub outcomes_step : (o : Opening) (h : List Entry) (e : Entry) → EachAfter (MayFollow o) h → MayFollow o h e → (c : ℕ)
    → filter_map (outcome_of (h ++ e ∷ [])) (uncollected o c h) ≡ filter_map (outcome_of h) (uncollected o c h)
unfolding answers_to
outcomes_step o h e each may c =
    agree_on (outcome_of k) (outcome_of h) (uncollected o c h)
    (λ i x at. by_kind i x at (uncollected_answer o h (legal_facts o h each) c i x at))
  where
    k : List Entry
    k = h ++ e ∷ []

    by_kind : (i : ℕ) (x : Entry) → slice_get (uncollected o c h) i ≡ Some x → IsFinish o h x ⊎ IsReply x
        → outcome_of k x ≡ outcome_of h x
    by_kind i x at (inl f) = rw (f.is, result_step o h e each may f.number (λ same. apart same f.finished)) refl
      where
        apart : {n m : ℕ} → n ≡ m → n < m → ⊥
        apart p q = omega arith
    by_kind i x at (inr b) =
        let index = filter_has (is_answer_to o c h) h (length (collects_by c h) + i) x
        (sym (slice_get-drop (length (collects_by c h)) (answers_to o c h) i) ∙ at) in
        rw (
          b.is,
          exchanges_kept o h e each may b.run
              (named h index.0 b.number b.run b.fault (index.1 ∙ ap (λ y. Some y) b.is)),
        ) refl

-- the devices known are of a run that is answered
from_answers : (r : ℕ) (first : Option ℕ) (bs : List Answered) → fold if_without_fault first bs ≡ Some r
    → (first ≡ Some r) ⊎ (list_any (λ b. b.run == r) bs ≡ true)
from_answers r first [] e = inl e
from_answers r first (b ∷ bs) e = by_fault b.fault refl (from_answers r (if_without_fault first b) bs e)
  where
    by_fault : (f : Option AgentFault) → b.fault ≡ f → (if_without_fault first b ≡ Some r)
        ⊎ (list_any (λ x. x.run == r) bs ≡ true) → (first ≡ Some r)
        ⊎ ((b.run == r || list_any (λ x. x.run == r) bs) ≡ true)
    by_fault f is (inr later) = inr (or_right (b.run == r) _ later)
    by_fault None is (inl here) = inr (rw (eq-eqb b.run r (same_Some b.run r (rw is at here))) refl)
    by_fault (Some fault) is (inl here) = inl (rw is at here)

pub last_is_answered : (h : List Entry) (r : ℕ) → last_run_without_fault h ≡ Some r → is_answered r h ≡ true
unfolding last_run_without_fault
last_is_answered h r is = by_first (from_answers r None (answers h) is)
  where
    by_first : (None ≡ Some r) ⊎ (list_any (λ b. b.run == r) (answers h) ≡ true) → is_answered r h ≡ true
    by_first (inl none) = absurd (none-some r none)
    by_first (inr some) = some

pub known_step : (o : Opening) (h : List Entry) (e : Entry) → EachAfter (MayFollow o) h → MayFollow o h e
    → answers (h ++ e ∷ []) ≡ answers h → known_devices o (h ++ e ∷ []) ≡ known_devices o h
unfolding last_run_without_fault
known_step o h e each may same = rw same (by_last (last_run_without_fault h) refl)
  where
    by_last : (last : Option ℕ) → last_run_without_fault h ≡ last
        → devices_of o.devices last (h ++ e ∷ []) ≡ devices_of o.devices last h
    by_last None is = refl
    by_last (Some r) is = rw (exchanges_kept o h e each may r (last_is_answered h r is)) refl

-- each of a client's uncollected is an answer to it
pub answers_passed : (o : Opening) (c : ℕ) (h : List Entry)
    → AllByRecursion (λ e. is_answer_to o c h e ≡ true) (uncollected o c h)
unfolding answers_to
answers_passed o c h =
    let P : Entry → Type 0 = λ e. is_answer_to o c h e ≡ true in
    recursion_from_All P (uncollected o c h)
    (All-drop P (length (collects_by c h)) (answers_to o c h) (filter_passes (is_answer_to o c h) h))

-- if there is no oldest outcome, nothing is uncollected
pub nothing_uncollected : (o : Opening) (c : ℕ) (h : List Entry) → oldest_kind o h c ≡ None → uncollected o c h ≡ []
nothing_uncollected o c h none = no_first (uncollected o c h) (answers_passed o c h) none
  where
    no_first : (es : List Entry) → AllByRecursion (λ e. is_answer_to o c h e ≡ true) es
        → option_and_then kind_of_answer (slice_get es 0) ≡ None → es ≡ []
    no_first [] all is = refl
    no_first (Finish n status len ∷ es) all is = absurd (none-some _ (sym is))
    no_first (Answer n run fault ∷ es) all is = absurd (none-some _ (sym is))
    no_first (e ∷ es) all is = absurd (false≢true all.0)

-- without the first of them
pub outcomes_rest : (o : Opening) (c : ℕ) (h k : List Entry) (es : List Entry)
    → AllByRecursion (λ e. is_answer_to o c k e ≡ true) es
    → filter_map (outcome_of h) (drop 1 es) ≡ drop 1 (filter_map (outcome_of h) es)
outcomes_rest o c h k [] all = refl
outcomes_rest o c h k (Finish n status len ∷ es) all = refl
outcomes_rest o c h k (Answer n run fault ∷ es) all = refl
outcomes_rest o c h k (e ∷ es) all = absurd (false≢true all.0)

-- one more at the end
pub uncollected_more : (o : Opening) (c : ℕ) (h k : List Entry) (e : Entry) → collects_by c k ≡ collects_by c h
    → length (collects_by c h) ≤ length (answers_to o c h) → answers_to o c k ≡ answers_to o c h ++ e ∷ []
    → uncollected o c k ≡ uncollected o c h ++ e ∷ []
uncollected_more o c h k e same within more =
    rw (more, same) (drop-append-le (length (collects_by c h)) (answers_to o c h) (e ∷ []) within)
