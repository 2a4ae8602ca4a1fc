use Rattle.std.proofs.Common.{subst, sym}
use Rattle.rdm_wire.specs.Packet.{Packet}
use Rattle.rdm_wire.specs.Commands.{command_fields}
use Rattle.rdm_wire.specs.declared.command.Command.{Command}
use Rattle.rdm_wire.proofs.command.encode_command.Goals as goal

pub returns-in-Unmute : goal.returns-in-Unmute
returns-in-Unmute c =
    let P : Command → Type 0 = λ k. Packet (command_fields k c.args.source c.args.tn) c.encode_unmute.result.items in
    subst P (sym c.in-Unmute.is) c.encode_unmute.ensures.packet

pub returns-in-Branch : goal.returns-in-Branch
returns-in-Branch c =
    let P : Command → Type 0 = λ k. Packet (command_fields k c.args.source c.args.tn) c.encode_branch.result.items in
    subst P (sym c.in-Branch.is) c.encode_branch.ensures.packet

pub returns-in-Mute : goal.returns-in-Mute
returns-in-Mute c =
    let P : Command → Type 0 = λ k. Packet (command_fields k c.args.source c.args.tn) c.encode_mute.result.items in
    subst P (sym c.in-Mute.is) c.encode_mute.ensures.packet
