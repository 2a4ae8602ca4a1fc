-- The frames that the controller sends.
use Rattle.std.specs.Prelude.{ℕ, List, [], ◌++◌}
use Rattle.rdm_wire.specs.Bytes.{uid_bytes}
use Rattle.rdm_wire.specs.Packet.{Fields, packet}
use Rattle.rdm_wire.specs.declared.request.Request.{Request}
use Rattle.rdm_wire.specs.declared.request.ReqClass.{ReqClass}
use Rattle.rdm_wire.specs.declared.request.ReqClass.TheVariants as requests

-- the command class of a GET and of a SET (E1.20, command class)
abbrev pub code_of_request_class : ReqClass → ℕ
code_of_request_class requests.Get = 0x20
code_of_request_class requests.Set = 0x30

-- the fields of a GET or SET command from this source with this transaction number (E1.20, GET and SET commands)
abbrev pub request_fields : Request → ℕ → ℕ → Fields
request_fields r s tn = record {
  dest = r.target;
  source = s;
  tn = tn;
  port_or_type = 1;
  count = 0;
  sub_device = r.sub_device;
  class = code_of_request_class r.class;
  pid = r.pid;
  param = r.param.items;
}

-- the fields of a discovery command with this target, PID and data, from this source with this transaction number
-- (E1.20, discovery commands)
abbrev pub discovery_fields : ℕ → ℕ → List ℕ → ℕ → ℕ → Fields
discovery_fields dest pid param s tn = record {
  dest = dest;
  source = s;
  tn = tn;
  port_or_type = 1;
  count = 0;
  sub_device = 0;
  class = 0x10;
  pid = pid;
  param = param;
}

-- the UID that addresses all devices (E1.20, broadcast messages)
abbrev pub all_devices : ℕ
all_devices = 0xffffffffffff

-- the fields of an unmute: DISC_UN_MUTE to all devices (E1.20, discovery un-mute message)
abbrev pub unmute_fields : ℕ → ℕ → Fields
unmute_fields s tn = discovery_fields all_devices 3 [] s tn

-- the fields of a branch of the range from lo to hi: DISC_UNIQUE_BRANCH to all devices (E1.20, discovery unique branch)
abbrev pub branch_fields : ℕ → ℕ → ℕ → ℕ → Fields
branch_fields lo hi s tn = discovery_fields all_devices 1 (uid_bytes lo ++ uid_bytes hi) s tn

-- the fields of a mute of u: DISC_MUTE to u (E1.20, discovery mute message)
abbrev pub mute_fields : ℕ → ℕ → ℕ → Fields
mute_fields u s tn = discovery_fields u 2 [] s tn

-- the frame of a request
abbrev pub request_frame : Request → ℕ → ℕ → List ℕ
request_frame r s tn = packet (request_fields r s tn)

-- the frame of a branch
abbrev pub branch_frame : ℕ → ℕ → ℕ → ℕ → List ℕ
branch_frame lo hi s tn = packet (branch_fields lo hi s tn)

-- the frame of a mute
abbrev pub mute_frame : ℕ → ℕ → ℕ → List ℕ
mute_frame u s tn = packet (mute_fields u s tn)

-- the frame of an unmute
abbrev pub unmute_frame : ℕ → ℕ → List ℕ
unmute_frame s tn = packet (unmute_fields s tn)
