-- A log to compute with: two requests, the first of which is answered in two parts; and two clients.
use Rattle.std.specs.Prelude.{ℕ, List, [], ◌∷◌, ◌++◌, Some}
use Rattle.rdm_wire.specs.declared.response.AckType.TheVariants.{Ack}
use Rattle.rdm_wire.specs.declared.response.RespClass.TheVariants.{Get}
use Rattle.rdm_join.specs.declared.event.LineEvent.TheVariants.{Reply}
use Rattle.rdm_join.specs.declared.status.Status.TheVariants.{Completed, Timeout}
use Rattle.rdm_join.specs.Result.{Joined}
use Rattle.rdm_log.specs.declared.entry.Owner.TheVariants as owners
use Rattle.rdm_log.specs.declared.entry.Opening.{Opening}
use Rattle.rdm_log.specs.declared.entry.Entry.{Entry}
use Rattle.rdm_log.specs.declared.entry.Entry.TheVariants.{Join, Accept, Send, Came, Finish}
use Rattle.rdm_log.specs.samples.Sample.{sample_opening, sample_request, sample_frame, accepted_two}

-- the opening with queue depth 2
abbrev pub wide_opening : Opening
wide_opening = record sample_opening { greatest = 2 }

-- the request's frame again, with transaction number 1
abbrev pub second_frame : List ℕ
second_frame =
    0xcc ∷ 0x01 ∷ 0x18 ∷ 0x12 ∷ 0x34 ∷ 0 ∷ 0 ∷ 0 ∷ 1 ∷ 0x7a ∷ 0x70 ∷ 0 ∷ 0 ∷ 1 ∷ 0 ∷ 1 ∷ 1 ∷ 0 ∷ 0 ∷ 0 ∷ 0x20 ∷ 0
    ∷ 0x60 ∷ 0 ∷ 0x02 ∷ 0x99 ∷ []

-- an ACK_OVERFLOW with the data 01 02
abbrev pub first_part : List ℕ
first_part =
    0xcc ∷ 0x01 ∷ 0x1a ∷ 0x7a ∷ 0x70 ∷ 0 ∷ 0 ∷ 1 ∷ 0 ∷ 0x12 ∷ 0x34 ∷ 0 ∷ 0 ∷ 0 ∷ 1 ∷ 0 ∷ 0x03 ∷ 0 ∷ 0 ∷ 0 ∷ 0x21 ∷ 0
    ∷ 0x60 ∷ 2 ∷ 1 ∷ 2 ∷ 0x02 ∷ 0xa2 ∷ []

-- an ACK with the data 03
abbrev pub last_part : List ℕ
last_part =
    0xcc ∷ 0x01 ∷ 0x19 ∷ 0x7a ∷ 0x70 ∷ 0 ∷ 0 ∷ 1 ∷ 0 ∷ 0x12 ∷ 0x34 ∷ 0 ∷ 0 ∷ 0 ∷ 1 ∷ 1 ∷ 0 ∷ 0 ∷ 0 ∷ 0 ∷ 0x21 ∷ 0
    ∷ 0x60 ∷ 1 ∷ 3 ∷ 0x02 ∷ 0x9e ∷ []

-- the first of two requests is sent
abbrev pub sent_part : List Entry
sent_part = accepted_two ++ Send (owners.Request 0) (record { items = sample_frame }) ∷ []

-- then its first part comes
abbrev pub came_part : List Entry
came_part = sent_part ++ Came (Reply (record { items = first_part })) ∷ []

-- then the same request is sent again
abbrev pub sent_again : List Entry
sent_again = came_part ++ Send (owners.Request 0) (record { items = second_frame }) ∷ []

-- then its last part comes
abbrev pub came_again : List Entry
came_again = sent_again ++ Came (Reply (record { items = last_part })) ∷ []

-- then the request is finished with three bytes
abbrev pub joined_log : List Entry
joined_log = came_again ++ Finish 0 Completed 3 ∷ []

-- the joined result of both parts
abbrev pub joined_parts : Joined
joined_parts =
    record {
      status = Completed;
      data_ = 1 ∷ 2 ∷ 3
          ∷ [];
      head = Some (record { ack = Ack; class = Get; pid = 0x60; sub_device = 0 });
    }

-- the first of two clients has an outcome to collect
abbrev pub two_clients : List Entry
two_clients =
    Join (record { 0 = 0 }) 1 ∷ Join (record { 0 = 1 }) 1 ∷ Accept (record { 0 = 0 }) 0 sample_request
    ∷ Send (owners.Request 0) (record { items = sample_frame })
    ∷ Came (Reply (record { items = [] })) ∷ Finish 0 Timeout 0 ∷ []
