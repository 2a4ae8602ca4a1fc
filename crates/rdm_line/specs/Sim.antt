-- The simulated line: its state, and a rule for each kind of frame.
use Rattle.std.specs.Prelude.{◌≡◌, ℕ, ◌+◌, ◌<◌, Bool, ◌&&◌, not, List, [], ◌∷◌, length, map, filter, Option, Some, None}
use Rattle.std.specs.Prelude.{MatchOption, nat_lt, if◌then◌else◌, MatchBool}
use Rattle.hex.specs.Hex.{IsBytes}
use Rattle.rdm_wire.specs.Uid.{has, with_uid, is_within}
use Rattle.rdm_wire.specs.Span.{Span}
use Rattle.rdm_wire.specs.Bytes.{two_bytes}
use Rattle.rdm_wire.specs.BranchText.{branch_text}
use Rattle.rdm_wire.specs.Packet.{packet}
use Rattle.rdm_wire.specs.Responses.{fields_of}
use Rattle.rdm_wire.specs.MuteResponses.{mute_response}
use Rattle.rdm_wire.specs.Commands.{command_read}
use Rattle.rdm_wire.specs.declared.command.Command.{Command}
use Rattle.rdm_wire.specs.declared.command.Command.TheVariants.{Unmute, Branch, Mute, Request as Requested}
use Rattle.rdm_wire.specs.declared.request.Request.{Request}
use Rattle.rdm_wire.specs.declared.request.ReqClass.{ReqClass}
use Rattle.rdm_wire.specs.declared.request.ReqClass.TheVariants.{Get, Set}
use Rattle.rdm_wire.specs.declared.response.Response.{Response}
use Rattle.rdm_wire.specs.declared.response.AckType.{AckType}
use Rattle.rdm_wire.specs.declared.response.AckType.TheVariants.{Ack, Nack}
use Rattle.rdm_wire.specs.declared.response.RespClass.{RespClass}
use Rattle.rdm_wire.specs.declared.response.RespClass.TheVariants as responses
use Rattle.rdm_join.specs.declared.event.LineEvent.{LineEvent}
use Rattle.rdm_join.specs.declared.event.LineEvent.TheVariants.{Reply, Failed}
use Rattle.rdm_line.specs.Events.{Exchange}
use Rattle.rdm_line.specs.Overlays.{all_laid_over}
use Rattle.rdm_line.specs.Parameters.{ParameterState, parameter_of, part_of, ack_of_part}
use Rattle.rdm_line.specs.Scenes.{is_present, device_at, sent_by}
use Rattle.rdm_line.specs.SimSound.{IsSound}
use Rattle.rdm_line.specs.declared.scene.SceneDevice.{SceneDevice}
use Rattle.rdm_line.specs.declared.collision.Collision.{Collision}
use Rattle.rdm_line.specs.declared.collision.Collision.TheVariants as collisions

-- the state of the simulated line: its devices, what will go wrong, and how many exchanges there were
pub record SimState : Type 0 where
  -- the devices, each parameter with the part to be sent next
  pub devices : List SceneDevice
  -- the UIDs of the muted devices
  pub muted : List ℕ
  -- what results from collisions, the next one first
  pub collisions : List Collision
  -- the numbers of the exchanges that are lost, and of those that fail
  pub losses : List ℕ
  pub fails : List ℕ
  -- how many exchanges there were, and how many failed
  pub exchanges : ℕ
  pub failures : ℕ

-- the greatest count of exchanges. From then on no exchange fails or is lost
abbrev pub last_exchange : ℕ
last_exchange = 0xffffffffffffffff

-- the count after one more exchange
abbrev pub next_exchange : ℕ → ℕ
next_exchange i = if nat_lt i last_exchange then i + 1 else i

-- whether this exchange is one of these numbers
abbrev pub is_among : ℕ → List ℕ → Bool
is_among i numbers = nat_lt i last_exchange && has numbers i

-- whether a device answers a branch: it is present, in its range, and not muted
abbrev pub answers_branch : ℕ → List ℕ → Span → SceneDevice → Bool
answers_branch i muted range d =
    is_present i d && is_within range.lo range.hi d.device.uid && not (has muted d.device.uid)

-- the devices that answer a branch
abbrev pub answering : ℕ → SimState → Span → List SceneDevice
answering i s range = filter (answers_branch i s.muted range) s.devices

-- the reply of a device to a branch, with its own number of preamble bytes
abbrev pub branch_reply_of : SceneDevice → List ℕ
branch_reply_of d = branch_text d.device.uid d.preamble

-- the bytes that result from a collision, if these are the OR of the replies
abbrev pub collided : List Collision → List ℕ → List ℕ
collided [] over = over
collided (collisions.Or ∷ cs) over = over
collided (collisions.Uid u ∷ cs) over = branch_text u 7
collided (collisions.Bytes bytes ∷ cs) over = bytes

-- the collisions after one of them: the last one is repeated
abbrev pub later_collisions : List Collision → List Collision
later_collisions [] = []
later_collisions (c ∷ []) = c ∷ []
later_collisions (c ∷ d ∷ cs) = d ∷ cs

-- no reply, and nothing changes
pub record KeepsSilent (s : SimState) (reply : List ℕ) (new : SimState) : Type 0 where
  pub silent : reply ≡ []
  pub same : new ≡ s

-- an unmute unmutes all devices, and isn't answered
pub record Unmutes (s : SimState) (reply : List ℕ) (new : SimState) : Type 0 where
  pub silent : reply ≡ []
  pub unmuted : new ≡ record s { muted = [] }

-- a mute of a present device mutes it, and it acknowledges with its control field and binding UID
pub record Mutes (s : SimState) (d : SceneDevice) (source tn : ℕ) (reply : List ℕ) (new : SimState) : Type 0 where
  pub bytes : reply ≡ packet (fields_of (mute_response d.device source tn))
  pub mutes : new ≡ record s { muted = with_uid d.device.uid s.muted }

-- a branch that several devices answer: a collision always has bytes
pub record Collides (s : SimState) (replies : List (List ℕ)) (reply : List ℕ) (new : SimState) : Type 0 where
  pub some : 0 < length reply
  pub bytes : reply ≡ collided s.collisions (all_laid_over replies)
  pub next : new ≡ record s { collisions = later_collisions s.collisions }

-- the reply to a branch: silence if no device answers, the reply of a single device, or the result of a collision
abbrev pub AnswersBranch : SimState → List SceneDevice → List ℕ → SimState → Type 0
AnswersBranch s [] reply new = KeepsSilent s reply new
AnswersBranch s (d ∷ []) reply new = (reply ≡ branch_reply_of d) × (new ≡ s)
AnswersBranch s (d ∷ e ∷ ds) reply new = Collides s (map branch_reply_of (d ∷ e ∷ ds)) reply new

-- a device's response to a request
abbrev pub response_to : Request → ℕ → ℕ → RespClass → AckType → List ℕ → Response
response_to r source tn class ack bytes = record {
  source = r.target;
  dest = source;
  tn = tn;
  ack = ack;
  count = 0;
  sub_device = r.sub_device;
  class = class;
  pid = r.pid;
  param = record { items = bytes };
}

-- the class of the response to a request of this class
abbrev pub answers_class : ReqClass → RespClass
answers_class Get = responses.Get
answers_class Set = responses.Set

-- a GET is answered with the parameter's next part
pub record AnswersGet (s : SimState) (r : Request) (source tn : ℕ) (p : ParameterState)
    (reply : List ℕ) (new : SimState) : Type 0 where
  pub bytes : reply ≡ packet (fields_of (response_to r source tn responses.Get (ack_of_part p) (part_of p)))
  pub sent : new ≡ record s { devices = sent_by r.target r.pid s.devices }

-- a SET is acknowledged, and changes nothing
pub record AnswersSet (s : SimState) (r : Request) (source tn : ℕ) (reply : List ℕ) (new : SimState) : Type 0 where
  pub bytes : reply ≡ packet (fields_of (response_to r source tn responses.Set Ack []))
  pub same : new ≡ s

-- a parameter that the device doesn't have is refused, with reason 0
pub record Refuses (s : SimState) (r : Request) (source tn : ℕ) (class : RespClass)
    (reply : List ℕ) (new : SimState) : Type 0 where
  pub bytes : reply ≡ packet (fields_of (response_to r source tn class Nack (two_bytes 0)))
  pub same : new ≡ s

-- a request for a parameter that the device has is answered by the rule of its class
abbrev pub AnswersOf : SimState → Request → ℕ → ℕ → ParameterState → ReqClass → List ℕ → SimState → Type 0
AnswersOf s r source tn p Get reply new = AnswersGet s r source tn p reply new
AnswersOf s r source tn p Set reply new = AnswersSet s r source tn reply new

-- a request is answered by the rule of its class, or refused if the device doesn't have the parameter
abbrev pub AnswersRequest : SimState → Request → ℕ → ℕ → SceneDevice → List ℕ → SimState → Type 0
AnswersRequest s r source tn d reply new =
    MatchOption (parameter_of r.pid d.params)
    (Refuses s r source tn (answers_class r.class) reply new)
    (λ p. AnswersOf s r source tn p r.class reply new)

-- how the devices act on a command at exchange i
abbrev pub ActsOn : ℕ → SimState → Command → ℕ → ℕ → List ℕ → SimState → Type 0
ActsOn i s Unmute source tn reply new = Unmutes s reply new
ActsOn i s (Branch range) source tn reply new = AnswersBranch s (answering i s range) reply new
ActsOn i s (Mute u) source tn reply new =
    MatchOption (device_at i s.devices u) (KeepsSilent s reply new) (λ d. Mutes s d source tn reply new)
ActsOn i s (Requested r) source tn reply new =
    MatchOption (device_at i s.devices r.target)
    (KeepsSilent s reply new)
    (λ d. AnswersRequest s r source tn d reply new)

-- how the devices act on a frame: if it is no command, they keep silent
abbrev pub Acts : ℕ → SimState → Option (Command × ℕ × ℕ) → List ℕ → SimState → Type 0
Acts i s None reply new = KeepsSilent s reply new
Acts i s (Some sent) reply new = ActsOn i s sent.0 sent.1 sent.2 reply new

-- what arrives of a reply: nothing if it is lost
abbrev pub IsHeard : Bool → List ℕ → LineEvent → Type 0
IsHeard lost reply event = event ≡ Reply (record { items = if lost then [] else reply })

-- the state after one more exchange was counted
abbrev pub counted : SimState → SimState
counted s = record s { exchanges = next_exchange s.exchanges }

-- an exchange that fails changes nothing else
pub record FailsOnly (s : SimState) (event : LineEvent) (new : SimState) : Type 0 where
  pub failed : event ≡ Failed
  pub only : new ≡ record (counted s) { failures = s.failures + 1 }

-- in any other exchange the devices act, and then the reply may be lost
pub record Exchanges (s : SimState) (x : Exchange) (new : SimState) : Type 0 where
  pub frame : IsBytes x.0.items
  pub reply : List ℕ
  pub acts : Acts s.exchanges (counted s) (command_read x.0.items) reply new
  pub heard : IsHeard (is_among s.exchanges s.losses) reply x.1

-- the state may be that of a `SimLine` value
abbrev pub IsSoundState : SimState → Type 0
IsSoundState s = IsSound s.devices s.muted s.losses s.fails s.exchanges s.failures

-- a step of the simulated line. It includes that the state before is sound, so laws on runs needn't require that
pub record SimStep (s : SimState) (x : Exchange) (new : SimState) : Type 0 where
  pub sound : IsSoundState s
  pub rule : MatchBool (is_among s.exchanges s.fails) (FailsOnly s x.1 new) (Exchanges s x new)
