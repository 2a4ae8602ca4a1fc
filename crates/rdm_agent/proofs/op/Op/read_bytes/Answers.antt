use Rattle.rdm_agent.proofs.Common.{ap, fed}
use Rattle.rdm_agent.proofs.Carried.{mute_carried, mute_acks, branch_carried, branch_acks}
use Rattle.rdm_agent.proofs.op.Op.read_bytes.Goals as goal

pub returns-in-Mute-clause-mute : goal.returns-in-Mute-clause-mute
returns-in-Mute-clause-mute c = λ u is.
    rw (c.mute_reply.ensures, c.reads_mute_ack.ensures.value)
    (mute_carried c.args.self.now c.in-Mute.uid c.args.source c.args.tn c.args.bytes.now c.show_sendable.ensures
    c.in-Mute.is)

pub returns-in-Mute-clause-acked : goal.returns-in-Mute-clause-acked
returns-in-Mute-clause-acked c =
    rw (c.mute_reply.ensures, c.reads_mute_ack.ensures.value)
    (mute_acks c.args.self.now c.args.source c.args.tn c.args.bytes.now _
    (mute_carried c.args.self.now c.in-Mute.uid c.args.source c.args.tn c.args.bytes.now c.show_sendable.ensures
    c.in-Mute.is))

pub returns-in-Mute-clause-fed : goal.returns-in-Mute-clause-fed
returns-in-Mute-clause-fed c = λ a next. ap (fed a) (returns-in-Mute-clause-mute c c.in-Mute.uid c.in-Mute.is)

pub returns-in-Branch-clause-branch : goal.returns-in-Branch-clause-branch
returns-in-Branch-clause-branch c = λ r is. branch_carried c.args.self.now r c.args.source c.args.tn c.args.bytes.now
    c.read_branch_reply.result c.show_sendable.ensures c.read_branch_reply.ensures.reads is

pub returns-in-Branch-clause-acked : goal.returns-in-Branch-clause-acked
returns-in-Branch-clause-acked c = branch_acks c.args.self.now c.args.source c.args.tn c.args.bytes.now
    c.read_branch_reply.result (returns-in-Branch-clause-branch c c.in-Branch.field-0 c.in-Branch.is)

pub returns-in-Branch-clause-fed : goal.returns-in-Branch-clause-fed
returns-in-Branch-clause-fed c =
    λ a next. ap (fed a) (returns-in-Branch-clause-branch c c.in-Branch.field-0 c.in-Branch.is)
