-- How the lane of the client that is served agrees with the log, once its call was made.
use Rattle.rdm_lanes.proofs.Common.{◌≡◌, ℕ, zero, suc, add-one, ◌+◌, ◌<◌, ◌≤◌, Bool, true, false, true≢false, cond}
use Rattle.rdm_lanes.proofs.Common.{List, [], ◌∷◌, ◌++◌, map, length, take, drop, Option, Some, None, refl, sym, ap}
use Rattle.rdm_lanes.proofs.Common.{◌∙◌, subst, slice_get, length-append, append-nil, arith, filter_map, Result, Ok}
use Rattle.rdm_lanes.proofs.Common.{Err, filter, ◌==◌, nat_le, if◌then◌else◌, MatchBool, list_any}
use Rattle.rdm_lanes.proofs.Common.{eq-eqb, map-append, filter_map-append, EachAfter, Request, Kind, ClientId}
use Rattle.rdm_lanes.proofs.Common.{Call, Cause, Opening, Entry, Refuse, Accept, Ask, Finish, Answer, accepts, asks}
use Rattle.rdm_lanes.proofs.Common.{finishes, answers, collectors, collector_of, accepts_by, asks_by, is_answer_to}
use Rattle.rdm_lanes.proofs.Common.{answers_to, collects_by, collected, uncollected, outstanding_requests}
use Rattle.rdm_lanes.proofs.Common.{outstanding_discoveries, Work, WorkFault, is_closed, places, work_fault}
use Rattle.rdm_lanes.proofs.Common.{work_fault_at, LogState, grown, is_full_log, Legal, MayFollow, GrowsBy, UnlessFull}
use Rattle.rdm_lanes.proofs.Common.{WorkAdds, WorkLogs, number_or_fault}
use Rattle.rdm_lanes.proofs.Common.{OutcomeValue, outcome_of, is_closed_refusal, refused_outcome, closed_number, front}
use Rattle.rdm_lanes.proofs.Common.{finishes-append, answered-append, client_facts, ClientCall, Submit, Discover}
use Rattle.rdm_lanes.proofs.Common.{RingOutcome, Lane, call_by, calls_by, work_in, told_values, uncollected_values}
use Rattle.rdm_lanes.proofs.Common.{values_in, value_in, FitsBut, LaneFits, is_leave, HasRefusalSlot, MayMake}
use Rattle.std.proofs.lemmas.List.{take-append-drop}
use Rattle.rtrb.specs.Ring.{sent as pushed, received as popped}
use Rattle.rdm_log.specs.log.Entries.{accepted_of, asked_of}
use Rattle.rdm_log.specs.declared.fault.WorkFault.TheVariants as work_faults
use Rattle.rdm_log.specs.declared.work.Work.TheVariants as works
use Rattle.rdm_log.specs.promises.Blocks.{call_of, work_refused}
use Rattle.rdm_lanes.specs.Calls.{refused_call}
use Rattle.rdm_lanes.specs.body.Serving.{AfterAnswer, AfterFault, FitsAnswer, HasCapacityFor, bringing, kind_of_work}
use Rattle.rdm_lanes.specs.body.Serving.{refused_value}
use Rattle.rdm_lanes.proofs.Counting.{value_more}
use Rattle.rdm_lanes.proofs.LineLemmas.{is_quiet}
use Rattle.rdm_lanes.proofs.GrowthLemmas.{tells, told_grows, uncollected_grows, collected_same, accepts_by_split}
use Rattle.rdm_lanes.proofs.GrowthLemmas.{asks_by_split}

no_values : (o : Opening) (c : ℕ) (h : List Entry) → uncollected o c h ≡ [] → uncollected_values o c h ≡ []
unfolding uncollected_values
no_values o c h none = rw none refl

pub map_drop : {X Y : Type 0} (f : X → Y) (xs : List X) → map f (drop 1 xs) ≡ drop 1 (map f xs)
map_drop f [] = refl
map_drop f (x ∷ xs) = refl

pub first_of : (o : Opening) (c : ℕ) (h : List Entry) (x : Entry) → slice_get (uncollected o c h) 0 ≡ Some x
    → uncollected_values o c h ≡ outcome_of h x ∷ drop 1 (uncollected_values o c h)
unfolding uncollected_values
first_of o c h x at = by_first (uncollected o c h) at
  where
    by_first : (xs : List Entry) → slice_get xs 0 ≡ Some x
        → map (outcome_of h) xs ≡ outcome_of h x ∷ drop 1 (map (outcome_of h) xs)
    by_first [] e = cc
    by_first (y ∷ xs) e = let same : y ≡ x = cc in rw same refl

drop_next : {X : Type 0} (m : ℕ) (xs : List X) → drop (suc m) xs ≡ drop 1 (drop m xs)
drop_next zero xs = refl
drop_next (suc m) [] = refl
drop_next (suc m) (x ∷ xs) = drop_next m xs

pub drop_more : {X : Type 0} (m : ℕ) (xs : List X) → drop (m + 1) xs ≡ drop 1 (drop m xs)
drop_more m xs = ap (λ (n : ℕ). drop n xs) (add-one m) ∙ drop_next m xs

-- a quiet entry answers nobody
quiet_no_answer : (o : Opening) (c : ℕ) (k : List Entry) (e : Entry) → is_quiet e ≡ true → is_answer_to o c k e ≡ false
quiet_no_answer o c k (Finish n status len) is = absurd (true≢false (sym is))
quiet_no_answer o c k (Answer n r fault) is = absurd (true≢false (sym is))
quiet_no_answer o c k _ is = refl

one_passes : {X : Type 0} (p : X → Bool) (x : X) (b : Bool) → p x ≡ b → filter p (x ∷ []) ≡ cond b (x ∷ []) []
one_passes p x b is = rw is refl

module _ (o : Opening) (h : List Entry) (e : Entry) (each : EachAfter (MayFollow o) (h ++ e ∷ []))
    (quiet : is_quiet e ≡ true) (c : ℕ) where
  pub no_answer : filter (is_answer_to o c (h ++ e ∷ [])) (e ∷ []) ≡ []
  no_answer = one_passes (is_answer_to o c (h ++ e ∷ [])) e false (quiet_no_answer o c (h ++ e ∷ []) e quiet)

  -- an entry that tells the client nothing
  pub told_same : is_closed_refusal c e ≡ false → told_values o c (h ++ e ∷ []) ≡ told_values o c h
  told_same other =
      told_grows o h (e ∷ []) each c
      ∙ ap (λ (xs : List Entry). told_values o c h ++ map (outcome_of (h ++ e ∷ [])) xs)
      (one_passes (tells o c (h ++ e ∷ [])) e false (rw (quiet_no_answer o c (h ++ e ∷ []) e quiet, other) refl))
      ∙ append-nil (told_values o c h)

  -- a refusal by a close
  told_refused : is_closed_refusal c e ≡ true
      → told_values o c (h ++ e ∷ []) ≡ told_values o c h ++ outcome_of (h ++ e ∷ []) e ∷ []
  told_refused shut =
      told_grows o h (e ∷ []) each c
      ∙ ap (λ (xs : List Entry). told_values o c h ++ map (outcome_of (h ++ e ∷ [])) xs)
      (one_passes (tells o c (h ++ e ∷ [])) e true (rw (quiet_no_answer o c (h ++ e ∷ []) e quiet, shut) refl))

  uncollected_same : collects_by c (e ∷ []) ≡ [] → uncollected_values o c (h ++ e ∷ []) ≡ uncollected_values o c h
  uncollected_same none =
      uncollected_grows o h (e ∷ []) each c none
      ∙ ap (λ (xs : List Entry). uncollected_values o c h ++ map (outcome_of (h ++ e ∷ [])) xs) no_answer
      ∙ append-nil (uncollected_values o c h)

-- no more are collected than were accepted, and than were asked
finishes_within : (m : ℕ) (xs : List Entry) → length (finishes (take m xs)) ≤ length (finishes xs)
finishes_within m xs =
    let whole = ap length (ap finishes (sym (take-append-drop m xs)) ∙ finishes-append (take m xs) (drop m xs))
    ∙ length-append (finishes (take m xs)) (finishes (drop m xs)) in
    omega (arith, whole)

answers_within : (m : ℕ) (xs : List Entry) → length (answers (take m xs)) ≤ length (answers xs)
answers_within m xs =
    let whole = ap length (ap answers (sym (take-append-drop m xs)) ∙ answered-append (take m xs) (drop m xs))
    ∙ length-append (answers (take m xs)) (answers (drop m xs)) in
    omega (arith, whole)

pub requests_within : (o : Opening) (h : List Entry) → EachAfter (MayFollow o) h → (c : ℕ)
    → length (finishes (collected o c h)) ≤ length (accepts_by c h)
requests_within o h each c =
    omega (arith, finishes_within (length (collects_by c h)) (answers_to o c h), (client_facts o h each).finished c)

pub asks_within : (o : Opening) (h : List Entry) → EachAfter (MayFollow o) h → (c : ℕ)
    → length (answers (collected o c h)) ≤ length (asks_by c h)
asks_within o h each c =
    omega (arith, answers_within (length (collects_by c h)) (answers_to o c h), (client_facts o h each).answered c)

-- a request more, and a discovery more
own_accept : (d : ClientId) (n : ℕ) (request : Request)
    → accepts_by d.0 (Accept d n request ∷ []) ≡ record { client = d.0; number = n; request = request } ∷ []
unfolding accepts
own_accept d n request = rw (eq-eqb d.0 d.0 refl) refl

own_ask : (d : ClientId) (n : ℕ) (kind : Kind)
    → asks_by d.0 (Ask d n kind ∷ []) ≡ record { client = d.0; number = n; kind = kind } ∷ []
unfolding asks
own_ask d n kind = rw (eq-eqb d.0 d.0 refl) refl

no_collect_of : (c : ℕ) (e : Entry) → collector_of e ≡ None → collects_by c (e ∷ []) ≡ []
unfolding collectors
no_collect_of c e none = rw none refl

requests_more : (o : Opening) (h : List Entry) (d : ClientId) (n : ℕ) (request : Request)
    → EachAfter (MayFollow o) (h ++ Accept d n request ∷ [])
    → outstanding_requests o d.0 (h ++ Accept d n request ∷ []) ≡ outstanding_requests o d.0 h + 1
requests_more o h d n request each =
    let e = Accept d n request in
    let before = front o h (e ∷ []) each in
    let same = ap (λ (xs : List Entry). length (finishes xs))
    (collected_same o h (e ∷ []) each d.0 (no_collect_of d.0 e refl)) in
    let long = ap length (accepts_by_split d.0 h (e ∷ [])) ∙ length-append (accepts_by d.0 h) (accepts_by d.0 (e ∷ []))
    ∙ ap (λ (n : ℕ). length (accepts_by d.0 h) + n) (ap length (own_accept d n request)) in
    omega (arith, requests_within o h before d.0, same, long)

asks_more_left : (o : Opening) (h : List Entry) (d : ClientId) (n : ℕ) (kind : Kind)
    → EachAfter (MayFollow o) (h ++ Ask d n kind ∷ [])
    → outstanding_discoveries o d.0 (h ++ Ask d n kind ∷ []) ≡ outstanding_discoveries o d.0 h + 1
asks_more_left o h d n kind each =
    let e = Ask d n kind in
    let before = front o h (e ∷ []) each in
    let same = ap (λ (xs : List Entry). length (answers xs))
    (collected_same o h (e ∷ []) each d.0 (no_collect_of d.0 e refl)) in
    let long = ap length (asks_by_split d.0 h (e ∷ [])) ∙ length-append (asks_by d.0 h) (asks_by d.0 (e ∷ []))
    ∙ ap (λ (n : ℕ). length (asks_by d.0 h) + n) (ap length (own_ask d n kind)) in
    omega (arith, asks_within o h before d.0, same, long)

-- an entry that neither accepts nor collects leaves both counts
pub accepts_none_of : (c : ℕ) (e : Entry) → accepted_of e ≡ None → accepts_by c (e ∷ []) ≡ []
unfolding accepts
accepts_none_of c e none = rw none refl

pub asks_none_of : (c : ℕ) (e : Entry) → asked_of e ≡ None → asks_by c (e ∷ []) ≡ []
unfolding asks
asks_none_of c e none = rw none refl

requests_stay : (o : Opening) (h : List Entry) (e : Entry) (c : ℕ) → EachAfter (MayFollow o) (h ++ e ∷ [])
    → accepted_of e ≡ None → collector_of e ≡ None → outstanding_requests o c (h ++ e ∷ []) ≡ outstanding_requests o c h
requests_stay o h e c each accept collect =
    rw (
      collected_same o h (e ∷ []) each c (no_collect_of c e collect),
      accepts_by_split c h (e ∷ []),
      accepts_none_of c e accept,
      append-nil (accepts_by c h),
    ) refl

asks_stay : (o : Opening) (h : List Entry) (e : Entry) (c : ℕ) → EachAfter (MayFollow o) (h ++ e ∷ [])
    → asked_of e ≡ None → collector_of e ≡ None
    → outstanding_discoveries o c (h ++ e ∷ []) ≡ outstanding_discoveries o c h
asks_stay o h e c each ask collect =
    rw (
      collected_same o h (e ∷ []) each c (no_collect_of c e collect),
      asks_by_split c h (e ∷ []),
      asks_none_of c e ask,
      append-nil (asks_by c h),
    ) refl

calls_more : (c : ℕ) (h : List Entry) (e : Entry) (x : ClientCall) → call_by c e ≡ Some x
    → calls_by c (h ++ e ∷ []) ≡ calls_by c h ++ x ∷ []
unfolding calls_by
calls_more c h e x is = filter_map-append (call_by c) h (e ∷ []) ∙ rw is refl

pub calls_stay : (c : ℕ) (h : List Entry) (e : Entry) → call_by c e ≡ None → calls_by c (h ++ e ∷ []) ≡ calls_by c h
unfolding calls_by
calls_stay c h e is = filter_map-append (call_by c) h (e ∷ []) ∙ rw is (append-nil (filter_map (call_by c) h))

-- the fields of a lane that the log speaks of
pub record IsNext (old new : Lane) (requests asks : ℕ) : Type 0 where
  pub calls_are : popped new.calls ≡ popped old.calls
  pub requests_are : new.requests ≡ requests
  pub asks_are : new.asks ≡ asks
  pub left_is : new.left ≡ old.left

-- a call that is accepted, or refused otherwise than by a close
made : (x : ClientCall) (c : ℕ) (o : Opening) (h : List Entry) (room : ℕ) (gone : ℕ) (keeps : Bool)
    (e : Entry) (lane new : Lane) (requests asks : ℕ)
    → EachAfter (MayFollow o) (h ++ e ∷ []) → FitsBut (x ∷ []) c (record {
      opening = o;
      entries = h;
      room = room;
      gone = gone;
      keeps = keeps;
    }) lane
    → is_quiet e ≡ true → collector_of e ≡ None → call_by c e ≡ Some x → is_closed_refusal c e ≡ false
    → outstanding_requests o c (h ++ e ∷ []) ≡ requests → outstanding_discoveries o c (h ++ e ∷ []) ≡ asks
    → IsNext lane new requests asks → pushed new.replies ≡ pushed lane.replies
    → LaneFits c (record {
      opening = o;
      entries = h ++ e ∷ [];
      room = room;
      gone = gone;
      keeps = keeps;
    }) new
made x c o h room gone keeps e lane new requests asks each f quiet collect call other counted asked next
    replies = record {
      calls_are = ap work_in next.calls_are ∙ f.calls_are ∙ sym (append-nil _ ∙ calls_more c h e x call);
      moved_are = rw (
        replies,
        uncollected_same o h e each quiet c (no_collect_of c e collect),
        told_same o h e each quiet c other,
      ) f.moved_are;
      requests_are = next.requests_are ∙ sym counted;
      asks_are = next.asks_are ∙ sym asked;
      left_is = next.left_is ∙ f.left_is ∙ ap (list_any is_leave) (sym next.calls_are);
    }

fits_accept : (old new : LogState) (d : ClientId) (n : ℕ) (request : Request) (lane next : Lane)
    → new ≡ grown old (Accept d n request ∷ []) → Legal new.opening new.entries
    → FitsBut (Submit request ∷ []) d.0 old lane → IsNext lane next (lane.requests + 1) lane.asks
    → pushed next.replies ≡ pushed lane.replies → LaneFits d.0 new next
fits_accept old new d n request lane next is legal f isnext replies =
    let e = Accept d n request in
    let each : EachAfter (MayFollow old.opening) (old.entries ++ e ∷ []) = subst
    (λ (k : LogState). EachAfter (MayFollow k.opening) k.entries) is legal.each in
    rw is (made (Submit request) d.0 old.opening old.entries old.room old.gone old.keeps e lane next
    (lane.requests + 1) lane.asks each f refl refl (own_call d n request) refl
    (requests_more old.opening old.entries d n request each ∙ ap (λ (m : ℕ). m + 1) (sym f.requests_are))
    (asks_stay old.opening old.entries e d.0 each refl refl ∙ sym f.asks_are) isnext replies)
  where
    own_call : (d : ClientId) (n : ℕ) (request : Request) → call_by d.0 (Accept d n request) ≡ Some (Submit request)
    own_call d n request = rw (eq-eqb d.0 d.0 refl) refl

fits_ask : (old new : LogState) (d : ClientId) (n : ℕ) (kind : Kind) (lane next : Lane)
    → new ≡ grown old (Ask d n kind ∷ []) → Legal new.opening new.entries
    → FitsBut (Discover kind ∷ []) d.0 old lane → IsNext lane next lane.requests (lane.asks + 1)
    → pushed next.replies ≡ pushed lane.replies → LaneFits d.0 new next
fits_ask old new d n kind lane next is legal f isnext replies =
    let e = Ask d n kind in
    let each : EachAfter (MayFollow old.opening) (old.entries ++ e ∷ []) = subst
    (λ (k : LogState). EachAfter (MayFollow k.opening) k.entries) is legal.each in
    rw is (made (Discover kind) d.0 old.opening old.entries old.room old.gone old.keeps e lane next
    lane.requests (lane.asks + 1) each f refl refl (own_call d n kind) refl
    (requests_stay old.opening old.entries e d.0 each refl refl ∙ sym f.requests_are)
    (asks_more_left old.opening old.entries d n kind each ∙ ap (λ (m : ℕ). m + 1) (sym f.asks_are)) isnext replies)
  where
    own_call : (d : ClientId) (n : ℕ) (kind : Kind) → call_by d.0 (Ask d n kind) ≡ Some (Discover kind)
    own_call d n kind = rw (eq-eqb d.0 d.0 refl) refl

own_refusal : (d : ClientId) (call : Call) (cause : Cause) (x : ClientCall) → refused_call call ≡ Some x
    → call_by d.0 (Refuse (Some d) call cause) ≡ Some x
own_refusal d call cause x is = rw (eq-eqb d.0 d.0 refl) is

-- a call that is refused, but not by a close
fits_refused : (old new : LogState) (d : ClientId) (call : Call) (cause : Cause) (x : ClientCall) (lane next : Lane)
    → new ≡ grown old (Refuse (Some d) call cause ∷ []) → Legal new.opening new.entries
    → refused_call call ≡ Some x → (cause.0 == closed_number call) ≡ false → FitsBut (x ∷ []) d.0 old lane
    → IsNext lane next lane.requests lane.asks → pushed next.replies ≡ pushed lane.replies → LaneFits d.0 new next
fits_refused old new d call cause x lane next is legal mine other f isnext replies =
    let e = Refuse (Some d) call cause in
    let each : EachAfter (MayFollow old.opening) (old.entries ++ e ∷ []) = subst
    (λ (k : LogState). EachAfter (MayFollow k.opening) k.entries) is legal.each in
    rw is (made x d.0 old.opening old.entries old.room old.gone old.keeps e lane next
    lane.requests lane.asks each f refl refl
    (own_refusal d call cause x mine) (rw other refl)
    (requests_stay old.opening old.entries e d.0 each refl refl ∙ sym f.requests_are)
    (asks_stay old.opening old.entries e d.0 each refl refl ∙ sym f.asks_are) isnext replies)

-- a call that a close refuses is told at once
fits_closed : (old new : LogState) (d : ClientId) (call : Call) (cause : Cause) (x : ClientCall)
    (item : RingOutcome) (lane next : Lane) → new ≡ grown old (Refuse (Some d) call cause ∷ [])
    → Legal new.opening new.entries
    → refused_call call ≡ Some x → cause.0 ≡ closed_number call → refused_outcome call ≡ Some (value_in item)
    → uncollected old.opening d.0 old.entries ≡ []
    → FitsBut (x ∷ []) d.0 old lane → IsNext lane next lane.requests lane.asks
    → pushed next.replies ≡ pushed lane.replies ++ item ∷ [] → LaneFits d.0 new next
fits_closed old new d call cause x item lane next is legal mine shut tells none f isnext replies =
    let e = Refuse (Some d) call cause in
    let o = old.opening in
    let h = old.entries in
    let each : EachAfter (MayFollow o) (h ++ e ∷ []) = subst
    (λ (k : LogState). EachAfter (MayFollow k.opening) k.entries) is legal.each in
    let closed : is_closed_refusal d.0 e
    ≡ true = rw (shut, eq-eqb (closed_number call) (closed_number call) refl, eq-eqb d.0 d.0 refl) refl in
    let left : uncollected_values o d.0 (h ++ e ∷ [])
    ≡ [] = uncollected_same o h e each refl d.0 (no_collect_of d.0 e refl) ∙ no_values o d.0 h none in
    rw is (record {
      calls_are = ap work_in isnext.calls_are ∙ f.calls_are
          ∙ sym (append-nil _ ∙ calls_more d.0 h e x (own_refusal d call cause x mine));
      moved_are =
          rw (left, replies, value_more (pushed lane.replies) item)
          (append-nil _
          ∙ map-append (λ (v : OutcomeValue). Some v) (values_in (pushed lane.replies)) (value_in item ∷ [])
          ∙ ap (λ (vs : List (Option OutcomeValue)). vs ++ Some (value_in item) ∷ [])
          (sym (append-nil _)
          ∙ ap (λ (vs : List (Option OutcomeValue)). map (λ (v : OutcomeValue). Some v)
          (values_in (pushed lane.replies)) ++ vs) (sym (no_values o d.0 h none)) ∙ f.moved_are)
          ∙ ap (λ (v : Option OutcomeValue). told_values o d.0 h ++ v ∷ []) (sym tells)
          ∙ sym (told_refused o h e each refl d.0 closed));
      requests_are = isnext.requests_are ∙ f.requests_are ∙ sym (requests_stay o h e d.0 each refl refl);
      asks_are = isnext.asks_are ∙ f.asks_are ∙ sym (asks_stay o h e d.0 each refl refl);
      left_is = isnext.left_is ∙ f.left_is ∙ ap (list_any is_leave) (sym isnext.calls_are);
    })

-- of the answer to work
closed_is : (b : Bool) (places : List ℕ) (full : Bool) (c : ℕ)
    → work_fault_at b places full c ≡ Some work_faults.Closed → b ≡ true
closed_is true places full c is = refl
closed_is false places full c is = absurd (unknown (nat_le (length places) c) full is)
  where
    unknown : (x y : Bool)
        → (if x then Some work_faults.UnknownClient else (if y then Some work_faults.Full else None))
        ≡ Some work_faults.Closed → ⊥
    unknown true y e = cc
    unknown false true e = cc
    unknown false false e = cc

open_is : (b : Bool) (places : List ℕ) (full : Bool) (c : ℕ) → work_fault_at b places full c ≡ None → b ≡ false
open_is true places full c is = cc
open_is false places full c is = refl

at_false : (b : Bool) (P Q : Type 0) → b ≡ false → MatchBool b P Q → Q
at_false true P Q e m = absurd (true≢false e)
at_false false P Q e m = m

at_true : (b : Bool) (P Q : Type 0) → b ≡ true → MatchBool b P Q → P
at_true true P Q e m = m
at_true false P Q e m = absurd (true≢false (sym e))

-- why work may be made that is accepted, or that a close refuses
accepted_may : (k : LogState) (c : ℕ) (work : Work) (lane : Lane) → work_fault k.opening k.entries c work ≡ None
    → MayMake c k lane (bringing work) → HasCapacityFor (kind_of_work work) lane
accepted_may k c (works.Submit request) lane is may =
    at_false (is_closed k.opening k.entries) (HasRefusalSlot c k lane) (lane.requests < lane.places)
    (open_is (is_closed k.opening k.entries) (places k.opening k.entries) _ c is) may
accepted_may k c (works.Discover kind) lane is may =
    at_false (is_closed k.opening k.entries) (HasRefusalSlot c k lane) (lane.asks < 4)
    (open_is (is_closed k.opening k.entries) (places k.opening k.entries) _ c is) may

closed_may : (k : LogState) (c : ℕ) (work : Work) (lane : Lane)
    → work_fault k.opening k.entries c work ≡ Some work_faults.Closed → MayMake c k lane (bringing work)
    → HasRefusalSlot c k lane
closed_may k c (works.Submit request) lane is may =
    at_true (is_closed k.opening k.entries) (HasRefusalSlot c k lane) (lane.requests < lane.places)
    (closed_is (is_closed k.opening k.entries) (places k.opening k.entries) _ c is) may
closed_may k c (works.Discover kind) lane is may =
    at_true (is_closed k.opening k.entries) (HasRefusalSlot c k lane) (lane.asks < 4)
    (closed_is (is_closed k.opening k.entries) (places k.opening k.entries) _ c is) may

unless : (b : Bool) (P Q : Type 0) → b ≡ false → UnlessFull b P Q → Q
unless true P Q e u = absurd (true≢false e)
unless false P Q e u = u

pub work_adds : (k : LogState) (d : ClientId) (work : Work) (r : Result ℕ WorkFault) (block : List Entry)
    → is_full_log k ≡ false → WorkLogs k d work r block → WorkAdds k.opening k.entries d work r block
work_adds k d work r block free adds =
    unless (is_full_log k) ((r ≡ Err work_faults.LogFull) × (block ≡ []))
    (WorkAdds k.opening k.entries d work r block) free adds

can_make : (k : LogState) (d : ClientId) (work : Work) (lane : Lane) (r : Result ℕ (WorkFault × Work))
    (block : List Entry) → WorkAdds k.opening k.entries d work (number_or_fault r) block
    → MayMake d.0 k lane (bringing work) → FitsAnswer (kind_of_work work) lane r
can_make k d work lane (Ok n) block adds may = accepted_may k d.0 work lane adds.0 may
can_make k d work lane (Err e) block adds may =
    λ closed. (closed_may k d.0 work lane (adds.0 ∙ ap (λ f. Some f) closed) may).1

pub fits_answer : (old new : LogState) (d : ClientId) (work : Work) (lane : Lane) (r : Result ℕ (WorkFault × Work))
    → GrowsBy old (WorkLogs old d work (number_or_fault r)) new → is_full_log old ≡ false
    → MayMake d.0 old lane (bringing work) → FitsAnswer (kind_of_work work) lane r
fits_answer old new d work lane r g free may =
    can_make old d work lane r g.block (work_adds old d work (number_or_fault r) g.block free g.adds) may

-- what a refusal says of its call
refusal_of : (work : Work) → refused_call (call_of work) ≡ Some (bringing work)
refusal_of (works.Submit request) = refl
refusal_of (works.Discover kind) = refl

number_of : (work : Work) → closed_number (call_of work) ≡ 1
number_of (works.Submit request) = refl
number_of (works.Discover kind) = refl

outcome_refused : (work : Work) → refused_outcome (call_of work) ≡ Some (refused_value (kind_of_work work))
outcome_refused (works.Submit request) = refl
outcome_refused (works.Discover kind) = refl

fits_after_fault : (old new : LogState) (d : ClientId) (work : Work) (lane next : Lane) (fault : WorkFault)
    → new ≡ grown old (work_refused d work fault ∷ []) → Legal new.opening new.entries
    → (fault ≡ work_faults.Closed → uncollected old.opening d.0 old.entries ≡ [])
    → FitsBut (bringing work ∷ []) d.0 old lane → AfterFault (kind_of_work work) lane fault next → LaneFits d.0 new next
fits_after_fault old new d work lane next work_faults.Closed is legal none f after =
    fits_closed old new d (call_of work) _ (bringing work) after.item lane next is legal (refusal_of work)
    (sym (number_of work)) (outcome_refused work ∙ ap (λ v. Some v) (sym after.is)) (none refl) f
    (rw after.puts.rest (record {
      calls_are = refl;
      requests_are = refl;
      asks_are = refl;
      left_is = refl;
    })) after.puts.put
fits_after_fault old new d work lane next work_faults.UnknownClient is legal none f after =
    fits_refused old new d (call_of work) _ (bringing work) lane next is legal (refusal_of work)
    (rw (number_of work) refl) f
    (rw after (record { calls_are = refl; requests_are = refl; asks_are = refl; left_is = refl })) (rw after refl)
fits_after_fault old new d work lane next work_faults.Full is legal none f after =
    fits_refused old new d (call_of work) _ (bringing work) lane next is legal (refusal_of work)
    (rw (number_of work) refl) f
    (rw after (record { calls_are = refl; requests_are = refl; asks_are = refl; left_is = refl })) (rw after refl)
fits_after_fault old new d work lane next work_faults.LogFull is legal none f after =
    fits_refused old new d (call_of work) _ (bringing work) lane next is legal (refusal_of work)
    (rw (number_of work) refl) f
    (rw after (record { calls_are = refl; requests_are = refl; asks_are = refl; left_is = refl })) (rw after refl)

fits_made : (old new : LogState) (d : ClientId) (work : Work) (lane next : Lane) (r : Result ℕ (WorkFault × Work))
    (block : List Entry) → WorkAdds old.opening old.entries d work (number_or_fault r) block → new ≡ grown old block
    → Legal new.opening new.entries → MayMake d.0 old lane (bringing work) → FitsBut (bringing work ∷ []) d.0 old lane
    → AfterAnswer (kind_of_work work) lane r next → LaneFits d.0 new next
fits_made old new d (works.Submit request) lane next (Ok n) block adds is legal may f after =
    fits_accept old new d n request lane next (rw adds.2 at is) legal f
    (rw after (record { calls_are = refl; requests_are = refl; asks_are = refl; left_is = refl })) (rw after refl)
fits_made old new d (works.Discover kind) lane next (Ok n) block adds is legal may f after =
    fits_ask old new d n kind lane next (rw adds.2 at is) legal f
    (rw after (record { calls_are = refl; requests_are = refl; asks_are = refl; left_is = refl })) (rw after refl)
fits_made old new d work lane next (Err e) block adds is legal may f after =
    fits_after_fault old new d work lane next e.0 (rw adds.1 at is) legal
    (λ closed. (closed_may old d.0 work lane (adds.0 ∙ ap (λ f. Some f) closed) may).0) f after

pub fits_work : (old new : LogState) (d : ClientId) (work : Work) (lane next : Lane)
    (r : Result ℕ (WorkFault × Work)) → GrowsBy old (WorkLogs old d work (number_or_fault r)) new
    → is_full_log old ≡ false → Legal new.opening new.entries → MayMake d.0 old lane (bringing work)
    → FitsBut (bringing work ∷ []) d.0 old lane → AfterAnswer (kind_of_work work) lane r next → LaneFits d.0 new next
fits_work old new d work lane next r g free legal may f after =
    fits_made old new d work lane next r g.block (work_adds old d work (number_or_fault r) g.block free g.adds) g.grows
    legal may f after
