-- How a call comes out of a client's ring.
use Rattle.rdm_lanes.proofs.Common.{◌≡◌, ℕ, Bool, true, false, List, [], ◌∷◌, ◌++◌, refl, sym, ap, ◌∙◌, slice_get}
use Rattle.rdm_lanes.proofs.Common.{subst, MatchOption, append-nil, length, length-append, arith, ⊤, ◌||◌, list_any}
use Rattle.rdm_lanes.proofs.Common.{Global, AnyItems, Consumer, SameConsumer, LogState, ClientCall, Submit, Discover}
use Rattle.rdm_lanes.proofs.Common.{Leave, Lane, is_work, work_in, FitsBut, LaneFits, SameLane, is_leave}
use Rattle.rdm_lanes.proofs.Common.{IsServed, Work, IsBetweenTurns}
use Rattle.rtrb.specs.Ring.{sent as pushed, received as popped, ConsumerLooked}
use Rattle.rdm_log.specs.declared.work.Work.TheVariants as works
use Rattle.rdm_lanes.specs.body.Serving.{LooksForSlot, StepsFor, bringing}
use Rattle.rdm_lanes.proofs.Counting.{work_more, leave_more}
use Rattle.rdm_lanes.proofs.LaneLemmas.{waits_same, same_lane_join}
use Rattle.rdm_lanes.proofs.LineLemmas.{line_same, switches_same}

-- the worker's end of a client's ring of calls
abbrev pub Calls : Type 0
Calls = Consumer ClientCall Global AnyItems

-- a call that brings work is no leave
pub brings_work : (work : Work) → is_work (bringing work) ≡ true
brings_work (works.Submit request) = refl
brings_work (works.Discover kind) = refl

-- a client was served if a call was popped
pub popped_served : (c : ℕ) (k : LogState) (lane mid next : Lane) (x : ClientCall)
    → popped mid.calls ≡ popped lane.calls → popped next.calls ≡ popped mid.calls ++ x ∷ [] → IsServed c k lane next
popped_served c k lane mid next x before more same =
    absurd (omega (arith, ap length more ∙ length-append (popped mid.calls) (x ∷ []), ap length before, ap length same))

-- the first item, once it is popped
pub at_first : {X : Type 0} (P : X → Type 0) (known rest : List X) (x : X) → known ≡ x ∷ rest
    → MatchOption (slice_get known 0) ⊤ P → P x
at_first P known rest x is may = rw is at may

-- the client's leave among what was received
leave_same : (xs : List ClientCall) (x : ClientCall) → is_work x ≡ true
    → list_any is_leave (xs ++ x ∷ []) ≡ list_any is_leave xs
leave_same [] (Submit request) is = refl
leave_same [] (Discover kind) is = refl
leave_same [] Leave is = cc
leave_same (y ∷ xs) x is = ap (λ (b : Bool). is_leave y || b) (leave_same xs x is)

leave_there : (xs : List ClientCall) → list_any is_leave (xs ++ Leave ∷ []) ≡ true
leave_there [] = refl
leave_there (y ∷ xs) = ap (λ (b : Bool). is_leave y || b) (leave_there xs) ∙ or_true (is_leave y)
  where
    or_true : (b : Bool) → (b || true) ≡ true
    or_true true = refl
    or_true false = refl

-- what stays where a call is popped
pub record SameCounts (old new : Lane) : Type 0 where
  pub moved_are : pushed new.replies ≡ pushed old.replies
  pub requests_are : new.requests ≡ old.requests
  pub asks_are : new.asks ≡ old.asks

pub fits_popped : (c : ℕ) (k : LogState) (lane next : Lane) (x : ClientCall) → LaneFits c k lane
    → popped next.calls ≡ popped lane.calls ++ x ∷ [] → is_work x ≡ true → SameCounts lane next → next.left ≡ lane.left
    → FitsBut (x ∷ []) c k next
fits_popped c k lane next x f got work same left = record {
  calls_are = ap work_in got ∙ work_more (popped lane.calls) x work
      ∙ ap (λ (xs : List ClientCall). xs ++ x ∷ []) (f.calls_are ∙ append-nil _);
  moved_are = rw same.moved_are f.moved_are;
  requests_are = same.requests_are ∙ f.requests_are;
  asks_are = same.asks_are ∙ f.asks_are;
  left_is = left ∙ f.left_is ∙ sym (ap (list_any is_leave) got ∙ leave_same (popped lane.calls) x work);
}

pub fits_left : (c : ℕ) (k : LogState) (lane next : Lane) → LaneFits c k lane
    → popped next.calls ≡ popped lane.calls ++ Leave ∷ [] → SameCounts lane next → next.left ≡ true → LaneFits c k next
fits_left c k lane next f got same left = record {
  calls_are = ap work_in got ∙ leave_more (popped lane.calls) ∙ f.calls_are;
  moved_are = rw same.moved_are f.moved_are;
  requests_are = same.requests_are ∙ f.requests_are;
  asks_are = same.asks_are ∙ f.asks_are;
  left_is = left ∙ sym (ap (list_any is_leave) got ∙ leave_there (popped lane.calls));
}

-- the lane of a client from whose ring of calls nothing was popped
pub fits_looked : (c : ℕ) (k : LogState) (lane next : Lane) → LaneFits c k lane → popped next.calls ≡ popped lane.calls
    → SameCounts lane next → next.left ≡ lane.left → LaneFits c k next
fits_looked c k lane next f got same left = record {
  calls_are = ap work_in got ∙ f.calls_are;
  moved_are = rw same.moved_are f.moved_are;
  requests_are = same.requests_are ∙ f.requests_are;
  asks_are = same.asks_are ∙ f.asks_are;
  left_is = left ∙ f.left_is ∙ sym (ap (list_any is_leave) got);
}

pub fits_slot : (c : ℕ) (k : LogState) (lane next : Lane) → LaneFits c k lane → LooksForSlot lane next
    → LaneFits c k next
fits_slot c k lane next f look =
    fits_looked c k lane next f (ap (λ (l : Lane). popped l.calls) look.rest)
    (record {
      moved_are = look.looked.1;
      requests_are = ap (λ (l : Lane). l.requests) look.rest;
      asks_are = ap (λ (l : Lane). l.asks) look.rest;
    }) (ap (λ (l : Lane). l.left) look.rest)

-- the lane, once the worker looked at its calls, and may have looked for a free slot
pub record IsLookedAt (c : ℕ) (k : LogState) (old new : Lane) : Type 0 where
  pub fits : LaneFits c k new
  pub rings : SameLane old new
  pub received : popped new.calls ≡ popped old.calls

pub looked_at : (c : ℕ) (k : LogState) (lane next : Lane) (calls : Calls) → LaneFits c k lane
    → ConsumerLooked lane.calls calls → LooksForSlot (record lane { calls = calls }) next → IsLookedAt c k lane next
looked_at c k lane next calls f look slot = record {
  fits = fits_slot c k mid next
      (fits_looked c k lane mid f look.1 (record { moved_are = refl; requests_are = refl; asks_are = refl }) refl) slot;
  rings = (
    subst (λ (q : Calls). SameConsumer lane.calls q) (sym (ap (λ (l : Lane). l.calls) slot.rest)) look.0,
    slot.looked.0,
    ap (λ (l : Lane). l.places) slot.rest,
  );
  received = ap (λ (l : Lane). popped l.calls) slot.rest ∙ look.1;
}
  where
    mid : Lane
    mid = record lane { calls = calls }

-- no call was made, or it is made with a lane that has the same rings
pub steps_for_none : (c : ℕ) (k : LogState) (lane next : Lane) → LaneFits c k next → IsBetweenTurns k
    → SameLane lane next
    → StepsFor c k lane k next
steps_for_none c k lane next f s rings = record {
  fits = f;
  served = s;
  others = λ d apart. waits_same d k;
  line = line_same k;
  switches = switches_same k;
  rings = rings;
}

pub steps_for_after : (c : ℕ) (old new : LogState) (lane mid next : Lane) → SameLane lane mid
    → StepsFor c old mid new next → StepsFor c old lane new next
steps_for_after c old new lane mid next rings s = record {
  fits = s.fits;
  served = s.served;
  others = s.others;
  line = s.line;
  switches = s.switches;
  rings = same_lane_join lane mid next rings s.rings;
}
