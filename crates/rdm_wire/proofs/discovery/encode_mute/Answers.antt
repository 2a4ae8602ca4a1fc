use Rattle.std.proofs.Common.{subst}
use Rattle.rdm_wire.specs.Packet.{Fields, Packet}
use Rattle.rdm_wire.proofs.discovery.encode_mute.Goals as goal

pub returns-clause-packet : goal.returns-clause-packet
returns-clause-packet c =
    let IsIt : Fields → Type 0 = λ f. Packet f c.encode.result.items in
    subst IsIt (c.discovery_header.ensures _) c.encode.ensures

pub returns-clause-frame : goal.returns-clause-frame
returns-clause-frame c = (returns-clause-packet c).1
