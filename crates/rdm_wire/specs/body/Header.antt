-- A header's fields.
use Rattle.std.specs.Prelude.{ℕ, List}
use Rattle.rdm_wire.specs.Packet.{Fields}
use Rattle.rdm_wire.specs.declared.frame.Header.{Header}

-- the fields of a packet with this header and these data
abbrev pub header_fields : Header → List ℕ → Fields
header_fields h param = record {
  dest = h.dest;
  source = h.source;
  tn = h.tn;
  port_or_type = h.port_or_type;
  count = h.count;
  sub_device = h.sub_device;
  class = h.class;
  pid = h.pid;
  param = param;
}
