-- What both ends of each client's rings show when they are compared.
use Rattle.std.specs.Prelude.{◌≡◌, ℕ, ◌-◌, List, [], ◌++◌, length, map, drop, Some, slice_get}
use Rattle.std.specs.declared.alloc.Global.{Global}
use Rattle.rtrb.specs.declared.AnyItems.{AnyItems}
use Rattle.rtrb.specs.declared.producer.Producer.{Producer}
use Rattle.rtrb.specs.Ring.{sent as pushed, received as popped, known_free, known_items, producer_capacity}
use Rattle.rtrb.specs.Ring.{consumer_capacity}
use Rattle.rdm_log.specs.promises.Outcomes.{OutcomeValue}
use Rattle.rdm_log.specs.log.LogState.{LogState}
use Rattle.rdm_lanes.specs.declared.views.history.ViewHistory.{Ghosts}
use Rattle.rdm_lanes.specs.declared.call.ClientCall.{ClientCall}
use Rattle.rdm_lanes.specs.declared.worker.lane.Lane.{Lane}
use Rattle.rdm_lanes.specs.declared.client.ends.ClientEnd.{ClientEnd}
use Rattle.rdm_lanes.specs.Calls.{work_in, calls_by}
use Rattle.rdm_lanes.specs.Callbacks.{HoldsItsOwn}
use Rattle.rdm_lanes.specs.Told.{values_in, TellsAll}
use Rattle.rdm_lanes.specs.Pairs.{Rings, RingsPair}

-- The calls that are left in a ring, as its client's end shows them: the last ones sent, one for each slot that isn't
-- free.
abbrev pub left_in : Producer ClientCall Global AnyItems → List ClientCall
left_in calls = drop (length (pushed calls) - (producer_capacity calls - known_free calls)) (pushed calls)

module _ {J : Type 0} {h : Ghosts J} {C A : Type 0} where
  -- the submits and discovers that a client had sent at its end, in order
  abbrev pub end_sent : ClientEnd J C A h → List ClientCall
  end_sent e = work_in (pushed e.calls)

  -- the outcomes that a client had got at its end, in order
  abbrev pub end_got : ClientEnd J C A h → List OutcomeValue
  end_got e = values_in (popped e.replies)

  -- the client's ends of its rings
  abbrev pub end_rings : ClientEnd J C A h → Rings
  end_rings e = (e.calls, e.replies)

  -- how many slots they have: the ring of calls, and the ring of outcomes
  abbrev pub end_slots : ClientEnd J C A h → ℕ × ℕ
  end_slots e = (producer_capacity e.calls, consumer_capacity e.replies)

  -- both rings of each client have this many slots
  pub record AllHaveSlots (slots : ℕ) (ends : List (ClientEnd J C A h)) : Type 0 where
    pub each : (i : ℕ) (e : ClientEnd J C A h) → slice_get ends i ≡ Some e → end_slots e ≡ (slots, slots)

  -- the ends are those of the lanes, each at its index
  abbrev pub PairUp : List Lane → List (ClientEnd J C A h) → Type 0
  PairUp lanes ends = RingsPair lanes (map end_rings ends)

  -- What client c sent is its calls in the log, in order, each once. After those come the submits and discovers that
  -- are left in its ring. The outcomes that the log has for it come in three parts: those that it got, those left in
  -- its ring, and those still in the session.
  pub record Agrees (c : ℕ) (k : LogState) (e : ClientEnd J C A h) : Type 0 where
    pub sent_are : end_sent e ≡ calls_by c k.entries ++ work_in (left_in e.calls)
    pub got_are : TellsAll k.opening c k.entries (end_got e ++ values_in (known_items e.replies))

  -- the end of each client agrees with the log
  pub record AllAgree (k : LogState) (ends : List (ClientEnd J C A h)) : Type 0 where
    pub each : (i : ℕ) (e : ClientEnd J C A h) → slice_get ends i ≡ Some e → Agrees i k e

  -- the rings of calls are empty
  pub record AllRead (ends : List (ClientEnd J C A h)) : Type 0 where
    pub each : (i : ℕ) (e : ClientEnd J C A h) → slice_get ends i ≡ Some e → left_in e.calls ≡ []

  -- each client still holds one callback of the right kind for each own call without an outcome
  pub record AllHoldTheirOwn (ends : List (ClientEnd J C A h)) : Type 0 where
    pub each : (i : ℕ) (e : ClientEnd J C A h) → slice_get ends i ≡ Some e
        → HoldsItsOwn (end_sent e) (end_got e) e.unspent.requests e.unspent.asks

  -- both ends show the same
  pub record ShowsSame (a b : ClientEnd J C A h) : Type 0 where
    pub sent_are : pushed b.calls ≡ pushed a.calls
    pub got_are : popped b.replies ≡ popped a.replies
    pub unspent_is : b.unspent ≡ a.unspent
    pub views_are : b.views ≡ a.views
    pub calls_slots : producer_capacity b.calls ≡ producer_capacity a.calls
    pub replies_slots : consumer_capacity b.replies ≡ consumer_capacity a.replies

  -- each end shows the same before and after
  pub record AllShowSame (before after : List (ClientEnd J C A h)) : Type 0 where
    pub long : length after ≡ length before
    pub each : (i : ℕ) (a b : ClientEnd J C A h) → slice_get before i ≡ Some a → slice_get after i ≡ Some b
        → ShowsSame a b
