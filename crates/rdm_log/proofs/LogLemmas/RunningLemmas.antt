-- The run that has begun, as the log grows.
use Rattle.rdm_log.proofs.Common.{◌≡◌, ℕ, Bool, true, false, List, [], ◌∷◌, ◌++◌, length, Option, Some, None, refl, sym}
use Rattle.rdm_log.proofs.Common.{ap, ◌∙◌, none-some, uids_of, ArrayVec, LineEvent, Opening, Entry, Send, Came, Close}
use Rattle.rdm_log.proofs.Common.{sending_of, came_of, answered_of, answers, asks, awaits_after, closed_after, awaited}
use Rattle.rdm_log.proofs.Common.{is_closed, has_begun, entries_before_run, last_run, unless_answered, open_run}
use Rattle.rdm_log.proofs.Common.{asked_before, served, run_exchanges, run_kind, known_at_run, known_devices}
use Rattle.rdm_log.specs.declared.entry.Owner.TheVariants as owners
use Rattle.rdm_log.proofs.LogLemmas.PushLemmas.{sends-push, answers-push, awaited-push, is_closed-push, pushes}
use Rattle.rdm_log.proofs.LogLemmas.ExchangeLemmas.{IsUnanswered}
use Rattle.rdm_log.proofs.LogLemmas.RunLemmas.{last_run_same, last_begun, served_stays, entries_before_run_stays}
use Rattle.rdm_log.proofs.LogLemmas.RunLemmas.{asked_before_same, run_exchanges_came_other, same_runs}

-- what is the same of runs
pub record SameRunning (o : Opening) (h k : List Entry) : Type 0 where
  pub same_last : last_run k ≡ last_run h
  pub same_answers : answers k ≡ answers h
  pub same_asked : asked_before (last_run k) k ≡ asked_before (last_run h) h
  pub same_exchanges : (r : ℕ) → run_exchanges r k ≡ run_exchanges r h
  pub same_served : (r : ℕ) → has_begun r h ≡ true → served r k ≡ served r h
  pub same_before : (r : ℕ) → has_begun r h ≡ true → entries_before_run r k ≡ entries_before_run r h
  pub closes : is_closed o h ≡ true → is_closed o k ≡ true
  pub idle : awaited h ≡ false → awaited k ≡ false

closed_stays : (b : Bool) (e : Entry) → b ≡ true → closed_after b e ≡ true
closed_stays b Close is = refl
closed_stays b _ is = is

idle_stays : (b : Bool) (e : Entry) → sending_of e ≡ None → b ≡ false → awaits_after b e ≡ false
idle_stays b (Send owner frame) send is = absurd (none-some _ (sym send))
idle_stays b (Came event) send is = refl
idle_stays b _ send is = is

pub asked_stays : (h : List Entry) (e : Entry) (last : Option ℕ) → last_run h ≡ last
    → asked_before last (h ++ e ∷ []) ≡ asked_before last h
asked_stays h e None is = refl
asked_stays h e (Some r) is =
    ap (λ (l : List Entry). length (asks l)) (entries_before_run_stays r h (e ∷ []) (last_begun r h is))

-- rules for `simp` and `search`, beside those of what an entry adds
pub last_run_other : (h : List Entry) (e : Entry) → sending_of e ≡ None → last_run (h ++ e ∷ []) ≡ last_run h
last_run_other h e other = last_run_same h (h ++ e ∷ []) (rw other at (sends-push h e))

pub unless_other : (last : Option ℕ) (h : List Entry) (e : Entry) → answered_of e ≡ None
    → unless_answered last (h ++ e ∷ []) ≡ unless_answered last h
unless_other None h e other = refl
unless_other (Some r) h e other = rw (answers-push h e, other) refl

pub asked_before_other : (h : List Entry) (e : Entry)
    → asked_before (last_run h) (h ++ e ∷ []) ≡ asked_before (last_run h) h
asked_before_other h e = asked_stays h e (last_run h) refl

pub ruleset run_pushes = (pushes, unless_other, asked_before_other, last_run_other)

pub same_running : (o : Opening) (h : List Entry) (e : Entry) → sending_of e ≡ None → came_of e ≡ None
    → answered_of e ≡ None → SameRunning o h (h ++ e ∷ [])
same_running o h e send came answer =
    let same = same_runs h e send came answer in
    record {
      same_last = last_run_same h (h ++ e ∷ []) (rw send at (sends-push h e));
      same_answers = same.same_answers;
      same_asked = asked_before_same h e send;
      same_exchanges = same.same_exchanges;
      same_served = λ r begun. same.same_served r;
      same_before = same.same_before;
      closes = λ is. is_closed-push o h e ∙ closed_stays (is_closed o h) e is;
      idle = λ is. awaited-push h e ∙ idle_stays (awaited h) e send is;
    }

-- a request's reply changes no run
pub same_running_came : (o : Opening) (h : List Entry) (n : ℕ) (frame : ArrayVec ℕ) (event : LineEvent)
    → IsUnanswered h (record { owner = owners.Request n; frame = frame }) → SameRunning o h (h ++ Came event ∷ [])
same_running_came o h n frame event waits = record {
  same_last = last_run_same h (h ++ Came event ∷ []) (sends-push h (Came event));
  same_answers = answers-push h (Came event);
  same_asked = asked_before_same h (Came event) refl;
  same_exchanges = λ r. run_exchanges_came_other h _ event r waits refl;
  same_served = λ r begun. served_stays r h (Came event ∷ []) begun;
  same_before = λ r begun. entries_before_run_stays r h (Came event ∷ []) begun;
  closes = λ is. is_closed-push o h (Came event) ∙ is;
  idle = λ is. awaited-push h (Came event);
}

pub open_same : (o : Opening) (h k : List Entry) → SameRunning o h k → open_run k ≡ open_run h
open_same o h k same = rw same.same_last (by_last (last_run h))
  where
    by_last : (last : Option ℕ) → unless_answered last k ≡ unless_answered last h
    by_last None = refl
    by_last (Some r) = rw same.same_answers refl

pub kind_same : (o : Opening) (h k : List Entry) (r : ℕ) → SameRunning o h k → has_begun r h ≡ true
    → run_kind r k ≡ run_kind r h
kind_same o h k r same begun = rw (same.same_served r begun) refl

pub known_at_same : (o : Opening) (h k : List Entry) (r : ℕ) → SameRunning o h k → has_begun r h ≡ true
    → known_at_run o r k ≡ known_at_run o r h
known_at_same o h k r same begun = ap (λ (l : List Entry). uids_of (known_devices o l)) (same.same_before r begun)
