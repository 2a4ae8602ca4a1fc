use Rattle.rdm_agent.proofs.op.Op.read_reply.Goals as goal

pub returns-in-Some-clause-acked : goal.returns-in-Some-clause-acked
returns-in-Some-clause-acked c = rw (c.in-Some.is, c.in-Some.bytes-is) c.read_bytes.ensures.acked
