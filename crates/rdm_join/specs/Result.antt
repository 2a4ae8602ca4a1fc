-- The result of a request, from the verdicts on its exchanges.
use Rattle.std.specs.Prelude.{◌≡◌, ℕ, ◌+◌, ◌<◌, Bool, false, ◌&&◌, ◌||◌, not, List, [], ◌∷◌, ◌++◌, length, take}
use Rattle.std.specs.Prelude.{Option, Some, None, ◌==◌, nat_lt, if◌then◌else◌, flat_map, slice_get}
use Rattle.rdm_wire.specs.Responses.{code_of_class, code_of_ack}
use Rattle.rdm_wire.specs.declared.response.Response.{Response}
use Rattle.rdm_join.specs.declared.verdict.Judged.{Judged}
use Rattle.rdm_join.specs.declared.verdict.Judged.TheVariants.{Whole, Part, Ended}
use Rattle.rdm_join.specs.declared.status.Status.{Status}
use Rattle.rdm_join.specs.declared.status.Status.TheVariants.{Completed, InvalidResponse}
use Rattle.rdm_join.specs.declared.joiner.ReplyHead.{ReplyHead}

-- a status. With status Completed it has the joined data and the last reply's head, and otherwise neither
pub record Joined : Type 0 where
  pub status : Status
  pub data_ : List ℕ
  pub head : Option ReplyHead

-- a reply's data
abbrev pub data_of : Judged → List ℕ
data_of (Whole r) = r.param.items
data_of (Part r) = r.param.items
data_of (Ended s) = []

-- the data of a list of verdicts, one after the other
abbrev pub joined_data : List Judged → List ℕ
joined_data vs = flat_map data_of vs

-- the head of a response: its type, class, PID and sub-device
abbrev pub head_of : Response → ReplyHead
head_of r = record { ack = r.ack; class = r.class; pid = r.pid; sub_device = r.sub_device }

-- whether the two differ in class, PID or sub-device
abbrev pub differs : ReplyHead → ReplyHead → Bool
differs p r =
    not (code_of_class p.class == code_of_class r.class) || not (p.pid == r.pid) || not (p.sub_device == r.sub_device)

-- whether r differs from the first of the list in class, PID or sub-device
abbrev pub differs_from_first : List Judged → Response → Bool
differs_from_first [] r = false
differs_from_first (Whole p ∷ vs) r = differs (head_of p) (head_of r)
differs_from_first (Part p ∷ vs) r = differs (head_of p) (head_of r)
differs_from_first (Ended s ∷ vs) r = false

-- whether the data up to here is too long: an answer has at most 65,535 bytes
abbrev pub is_too_long : List Judged → Response → Bool
is_too_long before r = nat_lt 65535 (length (joined_data before) + length r.param.items)

-- a result without data: this status alone
abbrev pub ended : Status → Joined
ended s = record { status = s; data_ = []; head = None }

-- what a verdict decides after those before it, if anything. A part that is the 512th reply ends the request
abbrev pub decides : List Judged → Judged → Option Joined
decides before (Ended s) = Some (ended s)
decides before (Whole r) =
    if differs_from_first before r || (nat_lt 0 (length before) && not (code_of_ack r.ack == 0))
    || is_too_long before r
    then Some (ended InvalidResponse)
    else Some (record { status = Completed; data_ = joined_data before ++ r.param.items; head = Some (head_of r) })
decides before (Part r) =
    if differs_from_first before r || is_too_long before r || (length before + 1) == 512
    then Some (ended InvalidResponse)
    else None

-- what the verdict at a position decides after those before it; nothing if there is no such position
abbrev pub decides_option : List Judged → Option Judged → Option Joined
decides_option before None = None
decides_option before (Some v) = decides before v

-- what position i decides, if anything
abbrev pub decides_at : List Judged → ℕ → Option Joined
decides_at vs i = decides_option (take i vs) (slice_get vs i)

-- j is the result: that of the first position that decides anything
pub record IsResult (vs : List Judged) (j : Joined) : Type 0 where
  pub at : ℕ
  pub here : decides_at vs at ≡ Some j
  pub earlier : (i : ℕ) → i < at → decides_at vs i ≡ None

-- the first, or the second if the first is still open
abbrev pub or_if_open : Option Joined → Option Joined → Option Joined
or_if_open (Some j) later = Some j
or_if_open None later = later

-- what the verdicts after some others decide, if anything
abbrev pub result_after : List Judged → List Judged → Option Joined
result_after before [] = None
result_after before (v ∷ vs) = or_if_open (decides before v) (result_after (before ++ v ∷ []) vs)

-- the result as a function; None if the request is still open
abbrev pub result_of : List Judged → Option Joined
result_of vs = result_after [] vs
