-- Which frames may be sent.
use Rattle.std.specs.Prelude.{◌≡◌, ◌≢◌, ◌⊎◌, ℕ, ◌^◌, ◌<◌, ◌≤◌, true, false, List, [], None, Some, slice_get}
use Rattle.arrayvec.specs.ArrayVec.{ArrayVec}
use Rattle.rdm_wire.specs.Uid.{IsDevice}
use Rattle.rdm_wire.specs.Packet.{Packet}
use Rattle.rdm_wire.specs.CommandFrames.{request_fields, branch_frame, mute_frame, unmute_frame}
use Rattle.rdm_log.specs.declared.entry.Owner.{Owner}
use Rattle.rdm_log.specs.declared.entry.Owner.TheVariants as owners
use Rattle.rdm_log.specs.declared.entry.Opening.{Opening}
use Rattle.rdm_log.specs.declared.entry.Entry.{Entry}
use Rattle.rdm_log.specs.log.Entries.{Accepted}
use Rattle.rdm_log.specs.log.History.{awaited, is_paused, is_closed, next_tn, unfinished, was_sent, under_way}
use Rattle.rdm_log.specs.log.Runs.{open_run, next_run, unserved, run_frames}

-- the request's frame may be sent
pub record MaySendRequest (o : Opening) (h : List Entry) (n : ℕ) (frame : ArrayVec ℕ) : Type 0 where
  pub not_awaited : awaited h ≡ false
  pub not_closed : is_closed o h ≡ false
  pub not_paused : is_paused o h ≡ false
  pub no_run : open_run h ≡ None
  -- it is the oldest unfinished request
  pub accepted : Accepted
  pub lowest : slice_get (unfinished h) 0 ≡ Some accepted
  pub number : n ≡ accepted.number
  -- it is under way, or no discovery waits for a run
  pub turn : (was_sent n h ≡ true) ⊎ (unserved h ≡ [])
  pub packet : Packet (request_fields accepted.request o.source (next_tn o h)) frame.items

-- the run r may begin: it has the next number, a discovery waits for a run, no run is open, no request is under way,
-- and sending isn't paused
pub record MayBegin (o : Opening) (h : List Entry) (r : ℕ) : Type 0 where
  pub not_paused : is_paused o h ≡ false
  pub no_run : open_run h ≡ None
  pub no_request : under_way h ≡ []
  pub asked : unserved h ≢ []
  pub number : r ≡ next_run o h
  -- runs are numbered from 1
  pub from_one : 1 ≤ r

-- a branch of a range
pub record IsBranchFrame (source tn : ℕ) (frame : List ℕ) : Type 0 where
  pub lo : ℕ
  pub hi : ℕ
  pub ordered : lo ≤ hi
  pub in_range : hi < 2 ^ 48
  pub frame_is : frame ≡ branch_frame lo hi source tn

-- a mute of a device
pub record IsMuteFrame (source tn : ℕ) (frame : List ℕ) : Type 0 where
  pub uid : ℕ
  pub device : IsDevice uid
  pub frame_is : frame ≡ mute_frame uid source tn

-- a run's frame, after this many others of the run: the first three are unmutes, all others branches or mutes
pub record IsRunFrame (source tn before : ℕ) (frame : List ℕ) : Type 0 where
  pub unmute : before < 3 → frame ≡ unmute_frame source tn
  pub search : 3 ≤ before → IsBranchFrame source tn frame ⊎ IsMuteFrame source tn frame

-- a frame of a run may be sent: the run may begin, or it is the open one
pub record MaySendRun (o : Opening) (h : List Entry) (r : ℕ) (frame : ArrayVec ℕ) : Type 0 where
  pub not_awaited : awaited h ≡ false
  pub not_closed : is_closed o h ≡ false
  pub turn : MayBegin o h r ⊎ (open_run h ≡ Some r)
  pub in_budget : run_frames r h < o.budget
  pub packet : IsRunFrame o.source (next_tn o h) (run_frames r h) frame.items

-- the frame may be sent after h, for a request or for a run
abbrev pub MaySend : Opening → List Entry → Owner → ArrayVec ℕ → Type 0
MaySend o h (owners.Request n) frame = MaySendRequest o h n frame
MaySend o h (owners.Run r) frame = MaySendRun o h r frame

-- no frame may be sent
abbrev pub NoSend : Opening → List Entry → Type 0
NoSend o h = (owner : Owner) (frame : ArrayVec ℕ) → MaySend o h owner frame → ⊥
