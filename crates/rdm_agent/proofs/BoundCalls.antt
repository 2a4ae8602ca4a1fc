-- The bound, call by call.
use Rattle.rdm_agent.proofs.Common.{◌≡◌, ℕ, ◌≤◌, false, List, length, Some, None, sym, ◌∙◌, subst, AgentState, fault_of}
use Rattle.rdm_agent.proofs.Common.{found_uids, next_op, HasRunBy, RunSoFar, enough_by, EndsWithin, AgentFault, End}
use Rattle.rdm_agent.proofs.Common.{Runs, start_by}
use Rattle.rdm_agent.specs.Bound.{IsUndisturbed, StaysInBound, IsInNoise}
use Rattle.rdm_agent.proofs.BoundRuns.{ends_in_bound_by, ends_in_noisy_bound}
use Rattle.rdm_agent.proofs.CallLemmas.{runs-own, none_ends, next_none, frames-counted, end-finds_all}
use Rattle.rdm_agent.proofs.CallLemmas.{end-finds_all_in_noise}

module _ (a : AgentState) (run : RunSoFar)
    (stands : HasRunBy run.search run.kind run.known run.budget run.aborted run.exchanges a) (present : List ℕ)
    (calm : IsUndisturbed present run) where
  not_aborted : HasRunBy run.search run.kind run.known run.budget false run.exchanges a
  not_aborted = subst (λ b. HasRunBy run.search run.kind run.known run.budget b run.exchanges a) calm.not_aborted stands

  within : EndsWithin (enough_by run.search present run.kind run.known) a
  within = ends_in_bound_by run.search run.kind run.known run.budget run.exchanges a not_aborted.devices
      (runs-own run.kind run.known run.budget run.exchanges a not_aborted) present calm.calm calm.budgeted

  pub frames-in_bound : a.frames ≤ enough_by run.search present run.kind run.known
  frames-in_bound = within.at_most

  pub frames-ended : a.frames ≡ enough_by run.search present run.kind run.known → next_op a ≡ End
  frames-ended all = none_ends a (within.ends all)

  pub next-in_bound : length run.exchanges ≡ enough_by run.search present run.kind run.known → next_op a ≡ End
  next-in_bound all =
      frames-ended ((frames-counted a run.kind run.known run.budget run.aborted run.exchanges stands).0 ∙ all)

  module _ (end : next_op a ≡ End) where
    no_fault : fault_of a.phase ≡ None
    no_fault = within.no_fault (next_none a end)

    pub end-no_fault : (fault : AgentFault) → fault_of a.phase ≡ Some fault → ⊥
    end-no_fault fault is = some_none (sym is ∙ no_fault)
      where
        some_none : Some fault ≡ None → ⊥
        some_none p = cc

    pub end-finds : found_uids a ≡ present
    end-finds = end-finds_all a end no_fault run.kind run.known run.budget run.aborted run.exchanges stands present
        calm.calm.honest

pub stays_in_bound : (a : AgentState) (run : RunSoFar)
    → HasRunBy run.search run.kind run.known run.budget run.aborted run.exchanges a → StaysInBound a run
stays_in_bound a run stands present calm =
    (frames-in_bound a run stands present calm, frames-ended a run stands present calm)

-- the same of a quick run on a noisy line
module _ (a : AgentState) (run : RunSoFar)
    (stands : HasRunBy run.search run.kind run.known run.budget run.aborted run.exchanges a) (present : List ℕ) (w : ℕ)
    (n : IsInNoise present w run) (end : next_op a ≡ End) where
  own : HasRunBy run.search run.kind run.known run.budget false run.exchanges a
  own = subst (λ b. HasRunBy run.search run.kind run.known run.budget b run.exchanges a) n.not_aborted stands

  none : fault_of a.phase ≡ None
  none = (ends_in_noisy_bound run.kind run.known run.budget run.exchanges a own.devices
      (subst (λ q. Runs (start_by q run.kind run.known run.budget) run.exchanges a) n.quick
      (runs-own run.kind run.known run.budget run.exchanges a own)) present w n.line n.budgeted).no_fault
      (next_none a end)

  pub end-no_fault_in_noise : (fault : AgentFault) → fault_of a.phase ≡ Some fault → ⊥
  end-no_fault_in_noise fault is = some_none (sym is ∙ none)
    where
      some_none : Some fault ≡ None → ⊥
      some_none p = cc

  pub end-finds_in_noise : found_uids a ≡ present
  end-finds_in_noise = end-finds_all_in_noise a end none run.kind run.known run.budget run.aborted run.exchanges stands
      present n.line.noisy.0
