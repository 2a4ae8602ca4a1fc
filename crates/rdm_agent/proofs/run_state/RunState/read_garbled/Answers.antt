use Rattle.rdm_agent.proofs.Common.{refl}
use Rattle.rdm_agent.proofs.Garbled.{as_silence}
use Rattle.rdm_agent.specs.declared.phase.Phase.TheVariants.{MutingRead}
use Rattle.rdm_agent.proofs.run_state.RunState.read_garbled.Goals as goal

pub returns-then-spare-eq0 : goal.returns-then-spare-eq0
returns-then-spare-eq0 c =
    as_silence (MutingRead c.args.uid c.args.tries c.args.spare c.args.bads c.args.top) c.args.self.now
    c.read_muted.result c.read_muted.new.self (λ budget frames. rw c.if-spare-eq0.true refl)
    c.read_muted.ensures
