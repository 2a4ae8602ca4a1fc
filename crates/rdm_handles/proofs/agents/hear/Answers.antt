use Rattle.std.proofs.Common.{sym, ap, ◌∙◌}
use Rattle.std.specs.Prelude.{option_copied}
use Rattle.rdm_wire.specs.Frames.{heard_in}
use Rattle.rdm_agent.specs.Machine.{AgentState, fed}
use Rattle.rdm_agent.specs.OpFrames.{op_frame}
use Rattle.rdm_agent.specs.declared.op.Op.{Op}
use Rattle.rdm_handles.specs.declared.discovery.Discovery.{Discovery}
use Rattle.rdm_handles.specs.Agents.{heard_of}
use Rattle.rdm_handles.proofs.agents.hear.Goals as goal

pub returns-clause-heard : goal.returns-clause-heard
unfolding heard_of
returns-clause-heard c done =
    let d : Discovery = c.args.discovery.now in
    let a : AgentState = d.agent in
    c.hear.ensures.state ∙ (c.read_reply-reply.ensures.fed a (sym c.next-op.ensures.value)
    ∙ ap (λ (op : Op). fed a (heard_in (op_frame op d.source d.tn) (option_copied c.args.answer)))
    c.next-op.ensures.value)
