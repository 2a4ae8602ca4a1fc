-- The verdict on one event. The first of the tests below that holds decides, in this order.
use Rattle.std.specs.Prelude.{ℕ, Bool, false, ◌&&◌, ◌||◌, not, List, [], ◌∷◌, Result, Ok, Err, ◌==◌, if◌then◌else◌}
use Rattle.rdm_wire.specs.Uid.{is_broadcast}
use Rattle.rdm_wire.specs.Responses.{decoded, code_of_class}
use Rattle.rdm_wire.specs.Packet.{fields_at}
use Rattle.rdm_wire.specs.CommandFrames.{code_of_request_class}
use Rattle.rdm_wire.specs.declared.response.Response.{Response}
use Rattle.rdm_wire.specs.declared.response.PacketFault.{PacketFault}
use Rattle.rdm_wire.specs.declared.request.ReqClass.TheVariants as requests
use Rattle.rdm_wire.specs.declared.response.RespClass.{RespClass}
use Rattle.rdm_wire.specs.declared.response.RespClass.TheVariants as responses
use Rattle.rdm_wire.specs.declared.response.AckType.{AckType}
use Rattle.rdm_wire.specs.declared.response.AckType.TheVariants.{Ack, Timer, Nack, Overflow}
use Rattle.rdm_join.specs.declared.verdict.Sent.{Sent}
use Rattle.rdm_join.specs.declared.event.LineEvent.{LineEvent}
use Rattle.rdm_join.specs.declared.event.LineEvent.TheVariants.{Reply, Failed}
use Rattle.rdm_join.specs.declared.verdict.Judged.{Judged}
use Rattle.rdm_join.specs.declared.verdict.Judged.TheVariants.{Whole, Part, Ended}
use Rattle.rdm_join.specs.Statuses.{status_of_fault}
use Rattle.rdm_join.specs.declared.status.Status.TheVariants as status

-- the parameter of a device's queued messages
abbrev pub queued_message : ℕ
queued_message = 0x0020

-- the number that addresses all sub-devices
abbrev pub all_sub_devices : ℕ
all_sub_devices = 0xffff

-- whether the class answers the request: a GET of a queued message may be answered as a GET or as a SET
abbrev pub answers_class : Sent → RespClass → Bool
answers_class sent responses.Discovery = false
answers_class sent responses.Get = (code_of_request_class sent.class == 0x20)
answers_class sent responses.Set =
    (code_of_request_class sent.class == 0x30)
    || ((code_of_request_class sent.class == 0x20) && (sent.pid == queued_message))

-- the verdict by the response type: only the response to a GET may be a part, after which more follows
abbrev pub verdict_of_type : Response → AckType → Judged
verdict_of_type r Overflow = if code_of_class r.class == 0x21 then Part r else Ended status.InvalidResponse
verdict_of_type r Ack = Whole r
verdict_of_type r Timer = Whole r
verdict_of_type r Nack = Whole r

-- the verdict on a packet's response: the first mismatch ends the request
abbrev pub verdict_of_response : Sent → Response → Judged
verdict_of_response sent r =
    if not (r.tn == sent.tn) then Ended status.TransactionMismatch
    else (if not (r.sub_device == sent.sub_device) && not (sent.sub_device == all_sub_devices)
    && not (sent.pid == queued_message)
    then Ended status.SubDeviceMismatch
    else (if not (r.source == sent.target) then Ended status.SourceMismatch
    else (if not (r.dest == sent.source) then Ended status.DestMismatch
    else (if not (answers_class sent r.class) then Ended status.ClassMismatch
    else (if not (r.pid == sent.pid) && not (sent.pid == queued_message) then Ended status.InvalidResponse
    else verdict_of_type r r.ack)))))

-- the verdict on what bytes decode to: a fault of the packet ends the request
abbrev pub verdict_of_packet : Sent → Result Response PacketFault → Judged
verdict_of_packet sent (Err fault) = Ended (status_of_fault fault)
verdict_of_packet sent (Ok r) = verdict_of_response sent r

-- the verdict on the bytes that came: no bytes are a timeout
abbrev pub verdict_of_bytes : Sent → List ℕ → Judged
verdict_of_bytes sent [] = Ended status.Timeout
verdict_of_bytes sent (b ∷ bs) = verdict_of_packet sent (decoded (b ∷ bs))

-- the verdict on an event: a failed line and a broadcast request end the request, whatever came
abbrev pub verdict : Sent → LineEvent → Judged
verdict sent Failed = Ended status.FailedToSend
verdict sent (Reply bytes) =
    if is_broadcast sent.target then Ended status.WasBroadcast else verdict_of_bytes sent bytes.items

-- the part of a request's frame by which its reply is judged
abbrev pub sent_by : List ℕ → Sent
sent_by frame = record {
  target = (fields_at frame).dest;
  source = (fields_at frame).source;
  tn = (fields_at frame).tn;
  sub_device = (fields_at frame).sub_device;
  class = if (fields_at frame).class == 0x20 then requests.Get else requests.Set;
  pid = (fields_at frame).pid;
}
