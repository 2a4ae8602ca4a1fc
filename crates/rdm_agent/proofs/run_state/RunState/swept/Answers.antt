use Rattle.rdm_agent.proofs.Common.{refl, Silent, One, Noise}
use Rattle.rdm_agent.specs.declared.phase.Phase.TheVariants.{Sweeping}
use Rattle.rdm_agent.proofs.Moved.{moved-goes_on}
use Rattle.rdm_agent.proofs.run_state.RunState.swept.Goals as goal

pub returns-in-Silent-clause-goes_on : goal.returns-in-Silent-clause-goes_on
returns-in-Silent-clause-goes_on c = rw c.in-Silent.is
    (moved-goes_on Silent (Sweeping c.args.sweep) _ _ _ _ c.sweep_silent.ensures
    (λ budget frames. rw c.counted_silent.ensures.value refl))

pub returns-in-One-clause-goes_on : goal.returns-in-One-clause-goes_on
returns-in-One-clause-goes_on c = rw c.in-One.is
    (moved-goes_on (One c.in-One.uid) (Sweeping c.args.sweep) _ _ _ _ c.sweep_spelt.ensures
    (λ budget frames. rw c.counted_spelt.ensures.value refl))

pub returns-in-Collision-clause-goes_on : goal.returns-in-Collision-clause-goes_on
returns-in-Collision-clause-goes_on c = rw c.in-Collision.is
    (moved-goes_on Noise (Sweeping c.args.sweep) _ _ _ _ c.sweep_apart.ensures
    (λ budget frames. rw c.counted.ensures refl))
