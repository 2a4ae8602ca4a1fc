-- How a client counts.
use Rattle.std.specs.Prelude.{◌≡◌, ℕ, Bool, ◌++◌, length}
use Rattle.std.specs.declared.alloc.Global.{Global}
use Rattle.rtrb.specs.declared.producer.Producer.{Producer}
use Rattle.rtrb.specs.declared.consumer.Consumer.{Consumer}
use Rattle.rtrb.specs.Ring.{sent as pushed, received as popped}
use Rattle.rdm_lanes.specs.declared.call.ClientCall.{ClientCall}
use Rattle.rdm_lanes.specs.declared.ring_outcome.RingOutcome.{RingOutcome}
use Rattle.rdm_lanes.specs.Calls.{work_in}
use Rattle.rdm_lanes.specs.body.Leaves.{leave_if}

module _ {P Q : Type 0} where
  -- the counts are those of the rings' items, and nothing was sent after a leave
  pub record IsCounted (calls : Producer ClientCall Global P) (replies : Consumer RingOutcome Global Q)
      (sent collected : ℕ) (left : Bool) : Type 0 where
    pub sent_is : sent ≡ length (work_in (pushed calls))
    pub collected_is : collected ≡ length (popped replies)
    pub leave_is_last : pushed calls ≡ work_in (pushed calls) ++ leave_if left
