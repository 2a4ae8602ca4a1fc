-- The response of a device that was muted.
use Rattle.std.specs.Prelude.{ℕ, List, [], ◌++◌, Option, Some, None}
use Rattle.rdm_wire.specs.Bytes.{two_bytes, uid_bytes}
use Rattle.rdm_wire.specs.declared.device.Device.{Device}
use Rattle.rdm_wire.specs.declared.response.Response.{Response}
use Rattle.rdm_wire.specs.declared.response.RespClass.TheVariants.{Discovery}
use Rattle.rdm_wire.specs.declared.response.AckType.TheVariants.{Ack}

-- the bytes of a binding UID; none without one (E1.20, discovery mute message)
abbrev pub binding_bytes : Option ℕ → List ℕ
binding_bytes None = []
binding_bytes (Some u) = uid_bytes u

-- the data of an acknowledgement: the control field, and the binding UID if there is one (E1.20, discovery mute
-- message)
abbrev pub mute_data : Device → List ℕ
mute_data d = two_bytes d.control ++ binding_bytes d.binding

-- the acknowledgement of a mute that this controller sent with this transaction number (E1.20, discovery mute message)
abbrev pub mute_response : Device → ℕ → ℕ → Response
mute_response d s tn = record {
  source = d.uid;
  dest = s;
  tn = tn;
  ack = Ack;
  count = 0;
  sub_device = 0;
  class = Discovery;
  pid = 2;
  param = record { items = mute_data d };
}
