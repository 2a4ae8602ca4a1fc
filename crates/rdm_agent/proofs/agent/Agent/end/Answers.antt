use Rattle.rdm_agent.proofs.Common.{◌≡◌, sym, subst, AgentState, next_op, HasRunBy, RunSoFar, End}
use Rattle.rdm_agent.specs.contracts.agent.Agent.{the_view}
use Rattle.rdm_agent.proofs.CallLemmas.{end-certified, end-finds_all, end-finds_each, end-finds_staying, end-caused}
use Rattle.rdm_agent.proofs.CallLemmas.{end-finds_all_in_noise, end-finds_each_in_noise, found-present}
use Rattle.rdm_agent.proofs.CallLemmas.{found-present_in_noise, found-no_stranger}
use Rattle.rdm_agent.proofs.BoundCalls.{end-finds, end-no_fault, end-finds_in_noise, end-no_fault_in_noise}
use Rattle.rdm_agent.proofs.agent.Agent.end.Goals as goal

-- what is known of the agent holds of its fields
module _ (view a : AgentState) (is : view ≡ a) where
  ends : next_op a ≡ End → next_op view ≡ End
  ends end = subst (λ b. next_op b ≡ End) (sym is) end

  stands : (run : RunSoFar) → HasRunBy run.search run.kind run.known run.budget run.aborted run.exchanges a
      → HasRunBy run.search run.kind run.known run.budget run.aborted run.exchanges view
  stands run s = subst (λ b. HasRunBy run.search run.kind run.known run.budget run.aborted run.exchanges b) (sym is) s

pub returns-in-None-clause-certified : goal.returns-in-None-clause-certified
returns-in-None-clause-certified c = λ run s.
    rw c.copied.ensures (end-certified (the_view c.self.inside) (ends _ _ c.self.view_is c.requires)
    (sym (c.in-None.ensures _ _)) run.kind run.known run.budget run.aborted run.exchanges
    (stands _ _ c.self.view_is run s))

pub returns-in-None-clause-finds_all : goal.returns-in-None-clause-finds_all
returns-in-None-clause-finds_all c = λ run s.
    rw c.copied.ensures (end-finds_all (the_view c.self.inside) (ends _ _ c.self.view_is c.requires)
    (sym (c.in-None.ensures _ _)) run.kind run.known run.budget run.aborted run.exchanges
    (stands _ _ c.self.view_is run s))

pub returns-in-None-clause-finds_all_in_noise : goal.returns-in-None-clause-finds_all_in_noise
returns-in-None-clause-finds_all_in_noise c = λ run s.
    rw c.copied.ensures (end-finds_all_in_noise (the_view c.self.inside) (ends _ _ c.self.view_is c.requires)
    (sym (c.in-None.ensures _ _)) run.kind run.known run.budget run.aborted run.exchanges
    (stands _ _ c.self.view_is run s))

pub returns-in-None-clause-finds_each : goal.returns-in-None-clause-finds_each
returns-in-None-clause-finds_each c = λ run s.
    rw c.copied.ensures (end-finds_each (the_view c.self.inside) (ends _ _ c.self.view_is c.requires)
    (sym (c.in-None.ensures _ _)) run.kind run.known run.budget run.aborted run.exchanges
    (stands _ _ c.self.view_is run s))

pub returns-in-None-clause-finds_each_in_noise : goal.returns-in-None-clause-finds_each_in_noise
returns-in-None-clause-finds_each_in_noise c = λ run s.
    rw c.copied.ensures (end-finds_each_in_noise (the_view c.self.inside) (ends _ _ c.self.view_is c.requires)
    (sym (c.in-None.ensures _ _)) run.kind run.known run.budget run.aborted run.exchanges
    (stands _ _ c.self.view_is run s))

pub returns-in-Some-clause-caused : goal.returns-in-Some-clause-caused
returns-in-Some-clause-caused c = λ run s.
    rw c.copied-in-Some.ensures (end-caused (the_view c.self.inside) (ends _ _ c.self.view_is c.requires)
    c.in-Some.fault (sym (c.in-Some.ensures _ _)) run.kind run.known run.budget run.aborted run.exchanges
    (stands _ _ c.self.view_is run s))

pub returns-in-Some-clause-no_phantom : goal.returns-in-Some-clause-no_phantom
returns-in-Some-clause-no_phantom c = λ run s.
    rw c.copied-in-Some.ensures
    (found-present (the_view c.self.inside) run.kind run.known run.budget run.aborted run.exchanges
    (stands _ _ c.self.view_is run s))

pub returns-in-Some-clause-no_phantom_in_noise : goal.returns-in-Some-clause-no_phantom_in_noise
returns-in-Some-clause-no_phantom_in_noise c = λ run s.
    rw c.copied-in-Some.ensures
    (found-present_in_noise (the_view c.self.inside) run.kind run.known run.budget run.aborted run.exchanges
    (stands _ _ c.self.view_is run s))

pub returns-in-None-clause-finds_staying : goal.returns-in-None-clause-finds_staying
returns-in-None-clause-finds_staying c = λ run s.
    rw c.copied.ensures (end-finds_staying (the_view c.self.inside) (ends _ _ c.self.view_is c.requires)
    (sym (c.in-None.ensures _ _)) run.kind run.known run.budget run.aborted run.exchanges
    (stands _ _ c.self.view_is run s))

pub returns-in-None-clause-no_stranger : goal.returns-in-None-clause-no_stranger
returns-in-None-clause-no_stranger c = λ run s.
    rw c.copied.ensures
    (found-no_stranger (the_view c.self.inside) run.kind run.known run.budget run.aborted run.exchanges
    (stands _ _ c.self.view_is run s))

pub returns-in-Some-clause-no_stranger_in_fault : goal.returns-in-Some-clause-no_stranger_in_fault
returns-in-Some-clause-no_stranger_in_fault c = λ run s.
    rw c.copied-in-Some.ensures
    (found-no_stranger (the_view c.self.inside) run.kind run.known run.budget run.aborted run.exchanges
    (stands _ _ c.self.view_is run s))

pub returns-in-None-clause-no_fault : goal.returns-in-None-clause-no_fault
returns-in-None-clause-no_fault c = λ run s present calm.
    rw c.copied.ensures
    (end-finds (the_view c.self.inside) run (stands _ _ c.self.view_is run s) present calm
    (ends _ _ c.self.view_is c.requires))

pub returns-in-Some-clause-no_fault : goal.returns-in-Some-clause-no_fault
returns-in-Some-clause-no_fault c = λ run s present calm.
    end-no_fault (the_view c.self.inside) run (stands _ _ c.self.view_is run s) present calm
    (ends _ _ c.self.view_is c.requires) c.in-Some.fault (sym (c.in-Some.ensures _ _))

pub returns-in-None-clause-no_fault_in_noise : goal.returns-in-None-clause-no_fault_in_noise
returns-in-None-clause-no_fault_in_noise c = λ run s present w n.
    rw c.copied.ensures
    (end-finds_in_noise (the_view c.self.inside) run (stands _ _ c.self.view_is run s) present w n
    (ends _ _ c.self.view_is c.requires))

pub returns-in-Some-clause-no_fault_in_noise : goal.returns-in-Some-clause-no_fault_in_noise
returns-in-Some-clause-no_fault_in_noise c = λ run s present w n.
    end-no_fault_in_noise (the_view c.self.inside) run (stands _ _ c.self.view_is run s) present w n
    (ends _ _ c.self.view_is c.requires) c.in-Some.fault (sym (c.in-Some.ensures _ _))
