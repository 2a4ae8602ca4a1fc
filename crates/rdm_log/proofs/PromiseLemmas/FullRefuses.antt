-- A full queue refuses, and changes nothing.
use Rattle.rdm_log.proofs.Common.{◌≡◌, ℕ, ◌≤◌, true, List, [], ◌∷◌, ◌++◌, Option, Some, None, refl, sym, ◌∙◌, inl, inr}
use Rattle.rdm_log.proofs.Common.{arith, append_assoc, ◌⊎◌, ◌||◌, option_map, nat_le, leb-true, le-leb, or_cases}
use Rattle.rdm_log.proofs.Common.{or_left, or_right, none-some, same_Some, EachAfter, ClientId, Call, Cause, Opening}
use Rattle.rdm_log.proofs.Common.{Entry, Refuse, Accept, Ask, Work, WorkFault, is_closed, places, work_fault}
use Rattle.rdm_log.proofs.Common.{number_of_work_fault, MayFollow, Legal, HasMost}
use Rattle.rdm_log.specs.declared.entry.Call.TheVariants as calls
use Rattle.rdm_log.specs.declared.fault.WorkFault.TheVariants as faults
use Rattle.rdm_log.specs.declared.fault.WorkFault.TheVariants.{Full}
use Rattle.rdm_log.specs.declared.work.Work.TheVariants.{Submit, Discover}
use Rattle.rdm_log.specs.promises.Headline.{SameQueue, FullRefuses}
use Rattle.rdm_log.specs.promises.Discoveries.{FullRefusesDiscoveries}
use Rattle.rdm_log.proofs.LogLemmas.Grows.{front}
use Rattle.rdm_log.proofs.LogLemmas.ExchangeLemmas.{result_same}
use Rattle.rdm_log.proofs.LogLemmas.RefusalLemmas.{full_at, at_full}
use Rattle.rdm_log.proofs.LogLemmas.RunLemmas.{SameRuns, same_runs, known_same}
use Rattle.rdm_log.proofs.LogLemmas.RunningLemmas.{run_pushes}
use Rattle.rdm_log.proofs.LogLemmas.BrokenLemmas.{incomplete_same}
use Rattle.rdm_log.proofs.LogLemmas.ClientSteps.{uncollected_same, outstanding_same, outstanding_discoveries_same}

-- of two bounds one is reached
reached : (a b m n : ℕ) → (nat_le a b || nat_le m n) ≡ true → (a ≤ b) ⊎ (m ≤ n)
reached a b m n is = by_test (or_cases (nat_le a b) (nat_le m n) is)
  where
    by_test : (nat_le a b ≡ true) ⊎ (nat_le m n ≡ true) → (a ≤ b) ⊎ (m ≤ n)
    by_test (inl first) = inl (leb-true a b first)
    by_test (inr second) = inr (leb-true m n second)

reaches : (a b m n : ℕ) → (a ≤ b) ⊎ (m ≤ n) → (nat_le a b || nat_le m n) ≡ true
reaches a b m n (inl first) = or_left _ _ (le-leb a b first)
reaches a b m n (inr second) = or_right _ _ (le-leb m n second)

-- a client has as much work as it may exactly when that is its work's first fault
pub most_is_fault : (o : Opening) (h : List Entry) (c : ℕ) (work : Work) → work_fault o h c work ≡ Some Full
    → HasMost o h c work
most_is_fault o h c (Submit request) is =
    let tests = full_at (is_closed o h) (places o h) _ c is in
    record { not_closed = tests.0; known = tests.1; full = reached _ _ _ _ tests.2 }
most_is_fault o h c (Discover kind) is =
    let tests = full_at (is_closed o h) (places o h) _ c is in
    record { not_closed = tests.0; known = tests.1; full = reached _ _ _ _ tests.2 }

pub fault_is_most : (o : Opening) (h : List Entry) (c : ℕ) (work : Work) → HasMost o h c work
    → work_fault o h c work ≡ Some Full
fault_is_most o h c (Submit request) is =
    at_full (is_closed o h) (places o h) _ c is.not_closed is.known (reaches _ _ _ _ is.full)
fault_is_most o h c (Discover kind) is =
    at_full (is_closed o h) (places o h) _ c is.not_closed is.known (reaches _ _ _ _ is.full)

third_fault : (fault : Option WorkFault) (cause : ℕ) → option_map number_of_work_fault fault ≡ Some cause → cause ≡ 3
    → fault ≡ Some Full
third_fault None cause is three = cc
third_fault (Some faults.Closed) cause is three = absurd (omega (arith, same_Some 1 cause is))
third_fault (Some faults.UnknownClient) cause is three = absurd (omega (arith, same_Some 2 cause is))
third_fault (Some faults.Full) cause is three = refl
third_fault (Some faults.LogFull) cause is three = absurd (omega (arith, same_Some 4 cause is))

pub refusal_changes_nothing : (o : Opening) (h : List Entry) (c : Option ClientId) (call : Call) (cause : Cause)
    → EachAfter (MayFollow o) (h ++ Refuse c call cause ∷ []) → SameQueue o h (h ++ Refuse c call cause ∷ [])
refusal_changes_nothing o h c call cause each =
    let e = Refuse c call cause in
    let k : List Entry = h ++ Refuse c call cause ∷ [] in
    let runs : SameRuns h k = same_runs h e refl refl refl in
    let devices = known_same o h k runs.same_answers runs.same_exchanges in
    search (
      run_pushes,
      runs.same_served,
      runs.same_exchanges,
      runs,
      devices,
      result_same,
      uncollected_same,
      outstanding_same,
      outstanding_discoveries_same,
      incomplete_same o h e refl,
    )

full_at_refusal : (o : Opening) (h : List Entry) (c : ℕ) (work : Work) (cause : ℕ)
    → option_map number_of_work_fault (work_fault o h c work) ≡ Some cause → cause ≡ 3 → HasMost o h c work
full_at_refusal o h c work cause is three =
    most_is_fault o h c work (third_fault (work_fault o h c work) cause is three)

not_full_at : (o : Opening) (h : List Entry) (c : ℕ) (work : Work) → work_fault o h c work ≡ None
    → HasMost o h c work → ⊥
not_full_at o h c work passes full = absurd (none-some Full (sym passes ∙ fault_is_most o h c work full))

pub full_refuses : (o : Opening) (h : List Entry) → Legal o h → FullRefuses o h
full_refuses o h legal = record {
  refused = λ front back c request cause is full. full_at_refusal o front c.0 (Submit request) cause.0
      (legal.each front back (Refuse (Some c) (calls.Submit request) cause) is).1 full;
  accepted = λ front back c n request is full. not_full_at o front c.0 (Submit request)
      (legal.each front back (Accept c n request) is).1 full;
  unchanged = λ before back c call cause is. refusal_changes_nothing o before c call cause
      (front o (before ++ Refuse c call cause ∷ []) back
      (rw (append_assoc before (Refuse c call cause ∷ []) back, ← is) legal.each));
}

pub full_refuses_discoveries : (o : Opening) (h : List Entry) → Legal o h → FullRefusesDiscoveries o h
full_refuses_discoveries o h legal = record {
  refused = λ front back c kind cause is full. full_at_refusal o front c.0 (Discover kind) cause.0
      (legal.each front back (Refuse (Some c) (calls.Discover kind) cause) is).1 full;
  accepted = λ front back c n kind is full. not_full_at o front c.0 (Discover kind)
      (legal.each front back (Ask c n kind) is).1 full;
}
