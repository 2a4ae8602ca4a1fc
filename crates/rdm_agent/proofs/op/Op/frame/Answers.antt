use Rattle.rdm_agent.proofs.Common.{◌∙◌, sym, ap, op_frame}
use Rattle.rdm_agent.proofs.Carried.{frame_asks}
use Rattle.rdm_agent.proofs.op.Op.frame.Goals as goal

pub returns-in-UnmuteAll-clause-asks : goal.returns-in-UnmuteAll-clause-asks
returns-in-UnmuteAll-clause-asks c =
    frame_asks c.args.self.now c.args.source c.args.tn c.encode_unmute.result.items c.show_sendable.ensures
    c.requires.goes_on
    (c.encode_unmute.ensures.frame ∙ ap (λ op. op_frame op c.args.source c.args.tn) (sym c.in-UnmuteAll.is))

pub returns-in-Mute-clause-asks : goal.returns-in-Mute-clause-asks
returns-in-Mute-clause-asks c =
    frame_asks c.args.self.now c.args.source c.args.tn c.encode_mute.result.items c.show_sendable.ensures
    c.requires.goes_on
    (c.encode_mute.ensures.frame ∙ ap (λ op. op_frame op c.args.source c.args.tn) (sym c.in-Mute.is))

pub returns-in-Branch-clause-asks : goal.returns-in-Branch-clause-asks
returns-in-Branch-clause-asks c =
    frame_asks c.args.self.now c.args.source c.args.tn c.encode_branch.result.items c.show_sendable.ensures
    c.requires.goes_on
    (c.encode_branch.ensures.frame ∙ ap (λ op. op_frame op c.args.source c.args.tn) (sym c.in-Branch.is))
