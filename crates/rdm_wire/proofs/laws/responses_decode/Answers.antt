use Rattle.rdm_wire.proofs.Decoded.{decoded-of}
use Rattle.rdm_wire.proofs.ReadBack.{read_back}
use Rattle.rdm_wire.proofs.Acknowledged.{ack_read-of}
use Rattle.rdm_wire.proofs.laws.responses_decode.Goals as goal

pub returns : goal.returns
returns c = record { decode = decoded-of; reads = λ r b. read_back b r; ack = ack_read-of }
