-- A log to compute with: a client loses the last part of an answer, and another gets only that part.
use Rattle.std.specs.Prelude.{ℕ, List, [], ◌∷◌, ◌++◌}
use Rattle.rdm_join.specs.declared.event.LineEvent.TheVariants.{Reply}
use Rattle.rdm_join.specs.declared.status.Status.TheVariants.{Completed, Timeout}
use Rattle.rdm_log.specs.declared.entry.Owner.TheVariants as owners
use Rattle.rdm_log.specs.declared.entry.Entry.{Entry}
use Rattle.rdm_log.specs.declared.entry.Entry.TheVariants.{Join, Accept, Send, Came, Finish, Collect}
use Rattle.rdm_log.specs.samples.Sample.{sample_request, sample_frame}
use Rattle.rdm_log.specs.samples.SampleParts.{second_frame, first_part}

-- the request's frame with transaction numbers 2 and 3
abbrev pub third_frame : List ℕ
third_frame =
    0xcc ∷ 0x01 ∷ 0x18 ∷ 0x12 ∷ 0x34 ∷ 0 ∷ 0 ∷ 0 ∷ 1 ∷ 0x7a ∷ 0x70 ∷ 0 ∷ 0 ∷ 1 ∷ 0 ∷ 2 ∷ 1 ∷ 0 ∷ 0 ∷ 0 ∷ 0x20 ∷ 0
    ∷ 0x60 ∷ 0 ∷ 0x02 ∷ 0x9a ∷ []

abbrev pub fourth_frame : List ℕ
fourth_frame =
    0xcc ∷ 0x01 ∷ 0x18 ∷ 0x12 ∷ 0x34 ∷ 0 ∷ 0 ∷ 0 ∷ 1 ∷ 0x7a ∷ 0x70 ∷ 0 ∷ 0 ∷ 1 ∷ 0 ∷ 3 ∷ 1 ∷ 0 ∷ 0 ∷ 0 ∷ 0x20 ∷ 0
    ∷ 0x60 ∷ 0 ∷ 0x02 ∷ 0x9b ∷ []

-- an ACK with the data 03 to each of these
abbrev pub third_reply : List ℕ
third_reply =
    0xcc ∷ 0x01 ∷ 0x19 ∷ 0x7a ∷ 0x70 ∷ 0 ∷ 0 ∷ 1 ∷ 0 ∷ 0x12 ∷ 0x34 ∷ 0 ∷ 0 ∷ 0 ∷ 1 ∷ 2 ∷ 0 ∷ 0 ∷ 0 ∷ 0 ∷ 0x21 ∷ 0
    ∷ 0x60 ∷ 1 ∷ 3 ∷ 0x02 ∷ 0x9f ∷ []

abbrev pub fourth_reply : List ℕ
fourth_reply =
    0xcc ∷ 0x01 ∷ 0x19 ∷ 0x7a ∷ 0x70 ∷ 0 ∷ 0 ∷ 1 ∷ 0 ∷ 0x12 ∷ 0x34 ∷ 0 ∷ 0 ∷ 0 ∷ 1 ∷ 3 ∷ 0 ∷ 0 ∷ 0 ∷ 0 ∷ 0x21 ∷ 0
    ∷ 0x60 ∷ 1 ∷ 3 ∷ 0x02 ∷ 0xa0 ∷ []

-- two clients ask the same; the first one's answer begins, and its next part is lost
abbrev pub broken_off : List Entry
broken_off =
    Join (record { 0 = 0 }) 1 ∷ Join (record { 0 = 1 }) 1 ∷ Accept (record { 0 = 0 }) 0 sample_request
    ∷ Accept (record { 0 = 1 }) 1 sample_request ∷ Send (owners.Request 0) (record { items = sample_frame })
    ∷ Came (Reply (record { items = first_part })) ∷ Send (owners.Request 0) (record { items = second_frame })
    ∷ Came (Reply (record { items = [] })) ∷ Finish 0 Timeout 0 ∷ []

-- then the second gets that part alone
abbrev pub rest_given : List Entry
rest_given =
    broken_off ++ Send (owners.Request 1) (record { items = third_frame })
    ∷ Came (Reply (record { items = third_reply })) ∷ Finish 1 Completed 1 ∷ []

-- and asks again
abbrev pub asked_again : List Entry
asked_again =
    rest_given ++ Collect (record { 0 = 1 }) ∷ Accept (record { 0 = 1 }) 2 sample_request
    ∷ Send (owners.Request 2) (record { items = fourth_frame }) ∷ Came (Reply (record { items = fourth_reply }))
    ∷ Finish 2 Completed 1 ∷ []
