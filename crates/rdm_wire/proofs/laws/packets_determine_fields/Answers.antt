use Rattle.rdm_wire.proofs.PacketLemmas.{fields_at-packet, one_packet}
use Rattle.rdm_wire.proofs.laws.packets_determine_fields.Goals as goal

pub returns : goal.returns
returns c = record { fields = fields_at-packet; one = one_packet }
