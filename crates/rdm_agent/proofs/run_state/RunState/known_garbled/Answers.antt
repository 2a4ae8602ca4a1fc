use Rattle.rdm_agent.proofs.Common.{refl}
use Rattle.rdm_agent.proofs.Garbled.{as_silence}
use Rattle.rdm_agent.specs.declared.phase.Phase.TheVariants.{MutingKnown}
use Rattle.rdm_agent.proofs.run_state.RunState.known_garbled.Goals as goal

pub returns-then-spare-eq0-clause-goes_on : goal.returns-then-spare-eq0-clause-goes_on
returns-then-spare-eq0-clause-goes_on c =
    as_silence (MutingKnown c.args.uid c.args.tries c.args.spare) c.args.self.now
    c.known_muted.result c.known_muted.new.self (λ budget frames. rw c.if-spare-eq0.true refl)
    c.known_muted.ensures.goes_on
