use Rattle.std.proofs.Common.{ℕ, List, subst}
use Rattle.rdm_wire.specs.Packet.{Fields, Packet}
use Rattle.rdm_wire.specs.CommandFrames.{all_devices, discovery_fields}
use Rattle.rdm_wire.proofs.discovery.encode_branch.Goals as goal

pub returns-clause-packet : goal.returns-clause-packet
returns-clause-packet c =
    let IsIt : Fields → Type 0 = λ f. Packet f c.encode.result.items in
    let IsOf : List ℕ → Type 0 = λ param. IsIt (discovery_fields all_devices 1 param c.args.source c.args.tn) in
    subst IsOf c.bounds_of.ensures (subst IsIt (c.discovery_header.ensures c.bounds_of.result) c.encode.ensures)

pub returns-clause-frame : goal.returns-clause-frame
returns-clause-frame c = (returns-clause-packet c).1
