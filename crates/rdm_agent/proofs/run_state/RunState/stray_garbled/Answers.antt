use Rattle.rdm_agent.proofs.Common.{refl}
use Rattle.rdm_agent.proofs.Garbled.{as_silence}
use Rattle.rdm_agent.specs.declared.phase.Phase.TheVariants.{MutingStray}
use Rattle.rdm_agent.proofs.run_state.RunState.stray_garbled.Goals as goal

pub returns-then-spare-eq0-clause-goes_on : goal.returns-then-spare-eq0-clause-goes_on
returns-then-spare-eq0-clause-goes_on c =
    as_silence (MutingStray c.args.uid c.args.tries c.args.spare c.args.sweep) c.args.self.now
    c.stray_muted.result c.stray_muted.new.self (λ budget frames. rw c.if-spare-eq0.true refl)
    c.stray_muted.ensures.goes_on
