-- An agent's exchanges with a line, one more after another.
use Rattle.std.proofs.Common.{◌≡◌, ℕ, suc, ◌+◌, ◌%◌, ◌≤◌, Result, false, List, [], ◌∷◌, ◌++◌, length, map, Some, refl}
use Rattle.std.proofs.Common.{sym, ap, ◌∙◌, subst, length-append, arith}
use Rattle.std.proofs.lemmas.List.{map-append}
use Rattle.rdm_wire.specs.declared.device.Device.{Device}
use Rattle.rdm_join.specs.Exchange.{seen_event}
use Rattle.rdm_agent.specs.Machine.{AgentState, start_by, fault_of}
use Rattle.rdm_agent.specs.Calls.{next_op, run_result, HasRunBy, RunSoFar, AfterEach}
use Rattle.rdm_agent.specs.declared.kind.Kind.{Kind}
use Rattle.rdm_agent.specs.declared.search.Search.{Search}
use Rattle.rdm_agent.specs.declared.fault.AgentFault.{AgentFault}
use Rattle.rdm_agent.specs.declared.op.Op.TheVariants.{End}
use Rattle.rdm_agent.proofs.CallLemmas.{next_asked, hears-has_run, next-in_budget}
use Rattle.rdm_line.specs.Events.{Exchange}
use Rattle.rdm_reports.specs.Discovery.{GoesOn, Drives, HasDriven, IsDiscovery}
use Rattle.rdm_reports.specs.LogText.{exchange_line, exchanges_text}
use Rattle.rdm_reports.specs.Writing.{LogState, Logs}
use Rattle.rdm_reports.proofs.NumberedLemmas.{numbered_more}
use Rattle.rdm_reports.proofs.WritingLemmas.{logs_more, logs_none}

drives_more : (L : Type 0) (step : L → Exchange → L → Type 0) (source n k : ℕ) (a b c : AgentState) (old line new : L)
    (xs : List Exchange) → n + length xs ≡ k → Drives L step source n a old xs b line
    → (e : GoesOn L step source (k % 256) b line c new) → Drives L step source n a old (xs ++ e.exchange ∷ []) c new
drives_more L step source n k a b c old line new [] is d e =
    let same : k ≡ n = omega arith in
    subst (λ m. Drives L step source m a old (e.exchange ∷ []) c new) same
    (subst (λ o. Drives L step source k a o (e.exchange ∷ []) c new) d.1
    (subst (λ s. Drives L step source k s line (e.exchange ∷ []) c new) d.0 (c, new, e, refl, (refl, refl))))
drives_more L step source n k a b c old line new (x ∷ xs) is d e =
    (d.0, d.1, d.2, d.3, drives_more L step source (n + 1) k d.0 b c d.1 line new xs (omega arith) d.4 e)

-- after one more
pub one_driven : (L : Type 0) (step : L → Exchange → L → Type 0) (source : ℕ) (search : Search) (kind : Kind)
    (known : List ℕ) (budget n : ℕ) (old line new : L) (a b : AgentState)
    → HasDriven L step source search kind known budget old n a line
    → GoesOn L step source (n % 256) a line b new → HasDriven L step source search kind known budget old (n + 1) b new
one_driven L step source search kind known budget n old line new a b before e = record {
  exchanges = before.exchanges ++ e.exchange ∷ [];
  many = length-append before.exchanges (e.exchange ∷ []) ∙ ap (λ k. k + 1) before.many;
  drives = drives_more L step source 0 n (start_by search kind known budget) a b old line new before.exchanges
      (omega (arith, before.many)) before.drives e;
  run = subst (λ seen. HasRunBy search kind known budget false seen b)
      (sym (map-append seen_event before.exchanges (e.exchange ∷ [])))
      (hears-has_run a b (seen_event e.exchange) (next_asked a e.goes_on ∙ ap Some (sym e.asked)) e.hears kind known
      budget false (map seen_event before.exchanges) before.run);
}

-- as many are seen as are made
seen_many : (xs : List Exchange) → length (map seen_event xs) ≡ length xs
seen_many [] = refl
seen_many (x ∷ xs) = ap suc (seen_many xs)

-- after as many as the budget allows nothing is asked
pub all_driven : (L : Type 0) (step : L → Exchange → L → Type 0) (source : ℕ) (search : Search) (kind : Kind)
    (known : List ℕ) (budget : ℕ) (old line : L) (a : AgentState)
    → HasDriven L step source search kind known budget old budget a line → next_op a ≡ End
all_driven L step source search kind known budget old line a d =
    next-in_budget a kind known budget false (map seen_event d.exchanges) d.run (seen_many d.exchanges ∙ d.many)

-- the exchanges that a log has got: before the first
pub none_logged : (L : Type 0) (step : L → Exchange → L → Type 0) (source : ℕ) (search : Search) (kind : Kind)
    (known : List ℕ) (budget : ℕ) (old : L) (a : AgentState) (log : LogState) → a ≡ start_by search kind known budget
    → HasRunBy search kind known budget false [] a
    → (d : HasDriven L step source search kind known budget old 0 a old) × Logs log log (exchanges_text d.exchanges)
none_logged L step source search kind known budget old a log is run =
    (record { exchanges = []; many = refl; drives = (is, refl); run = run }, logs_none log)

-- after one more
pub one_logged : (L : Type 0) (step : L → Exchange → L → Type 0) (source : ℕ) (search : Search) (kind : Kind)
    (known : List ℕ) (budget n : ℕ) (old line new : L) (a b : AgentState) (was now later : LogState)
    → (d : HasDriven L step source search kind known budget old n a line) × Logs was now (exchanges_text d.exchanges)
    → (e : GoesOn L step source (n % 256) a line b new) × Logs now later (exchange_line n e.exchange)
    → (d : HasDriven L step source search kind known budget old (n + 1) b new)
    × Logs was later (exchanges_text d.exchanges)
unfolding one_driven
one_logged L step source search kind known budget n old line new a b was now later (before, logged) (e, more) = (
  one_driven L step source search kind known budget n old line new a b before e,
  subst (λ text. Logs was later text) (sym text)
      (logs_more was now later (exchanges_text before.exchanges) (exchange_line n e.exchange) logged more),
)
  where
    many : (k m : ℕ) → m ≡ k → 0 + m ≡ k
    many k m is = omega (arith, is)

    text : exchanges_text (before.exchanges ++ e.exchange ∷ []) ≡ exchanges_text before.exchanges
        ++ exchange_line n e.exchange
    text = numbered_more exchange_line 0 before.exchanges e.exchange
        ∙ ap (λ k. exchanges_text before.exchanges ++ exchange_line k e.exchange)
        (many n (length before.exchanges) before.many)

-- and at the end
pub reported_logged : (L : Type 0) (step : L → Exchange → L → Type 0) (source : ℕ) (search : Search) (kind : Kind)
    (known : List ℕ) (budget n frames : ℕ) (old line : L) (a : AgentState)
    (found : Result (List Device) (AgentFault × List Device)) (was now : LogState)
    → (d : HasDriven L step source search kind known budget old n a line) × Logs was now (exchanges_text d.exchanges)
    → next_op a ≡ End → found ≡ run_result (fault_of a.phase) a.found
    → AfterEach a (λ run. (frames ≡ length run.exchanges) × (frames ≤ run.budget))
    → (r : IsDiscovery L step source search kind known budget old line found frames)
    × Logs was now (exchanges_text r.driven.exchanges)
reported_logged L step source search kind known budget n frames old line a found was now (d, logged) ended report
    counts =
    let moved : (e : HasDriven L step source search kind known budget old frames a line)
    × Logs was now (exchanges_text e.exchanges) =
    subst (λ k. (e : HasDriven L step source search kind known budget old k a line)
    × Logs was now (exchanges_text e.exchanges)) (sym same) (d, logged) in
    (record { last = a; driven = moved.0; ended = ended; report = report }, moved.1)
  where
    run : RunSoFar
    run = record {
      search = search;
      kind = kind;
      known = known;
      budget = budget;
      aborted = false;
      exchanges = map seen_event d.exchanges;
    }

    same : frames ≡ n
    same = (counts run d.run).0 ∙ seen_many d.exchanges ∙ d.many
