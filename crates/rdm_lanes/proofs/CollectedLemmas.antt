-- How a client's lane agrees with the log, once its oldest outcome was collected.
use Rattle.rdm_lanes.proofs.Common.{◌≡◌, ℕ, ◌+◌, ◌-◌, ◌≤◌, Bool, true, List, [], ◌∷◌, ◌++◌, map, length, take, drop}
use Rattle.rdm_lanes.proofs.Common.{Option, Some, refl, sym, ap, ◌∙◌, subst, slice_get, length-append, append-nil}
use Rattle.rdm_lanes.proofs.Common.{append_assoc, arith, list_any, eq-eqb, slice_get_within, get_or_from_slice_get}
use Rattle.rdm_lanes.proofs.Common.{map-append, take_more, EachAfter, ClientId, Call, Opening, Entry, Join}
use Rattle.rdm_lanes.proofs.Common.{Refuse, Accept, Ask, Send, Came, Finish, Answer, Collect, Pause, Resume, Close}
use Rattle.rdm_lanes.proofs.Common.{AskCompletion, asks, finishes, answers, collectors, accepts_by, asks_by, answers_to}
use Rattle.rdm_lanes.proofs.Common.{collects_by, collected, uncollected, outstanding_requests, outstanding_discoveries}
use Rattle.rdm_lanes.proofs.Common.{LogState, grown, Legal, MayFollow, GrowsBy, CollectAdds, OutcomeValue, Discovered}
use Rattle.rdm_lanes.proofs.Common.{outcome_of, outcome_value, refused_outcome, DiscoveryValue, finishes-append}
use Rattle.rdm_lanes.proofs.Common.{answered-append, ClientCall, RingOutcome, Lane, work_in, uncollected_values}
use Rattle.rdm_lanes.proofs.Common.{values_in, value_in, LaneFits, is_leave}
use Rattle.rtrb.specs.Ring.{sent as pushed}
use Rattle.rdm_log.specs.declared.entry.Call.TheVariants as calls
use Rattle.rdm_log.specs.declared.outcome.Completion.{Completion}
use Rattle.rdm_log.specs.declared.outcome.Outcome.TheVariants as outcomes
use Rattle.rdm_join.specs.Result.{Joined}
use Rattle.rdm_log.specs.promises.Outcomes.{completion_value, discovered}
use Rattle.rdm_log.specs.promises.Outcomes.OutcomeValue.{RequestValue}
use Rattle.rdm_log.proofs.LogLemmas.Indices.{slice_get-drop}
use Rattle.rdm_lanes.proofs.Counting.{value_more}
use Rattle.rdm_lanes.proofs.LineLemmas.{is_quiet}
use Rattle.rdm_lanes.proofs.GrowthLemmas.{to_values, values_stay, answers_split, accepts_by_split, asks_by_split}
use Rattle.rdm_lanes.proofs.GrowthLemmas.{collects_by_split}
use Rattle.rdm_lanes.proofs.FitLemmas.{no_answer, told_same, calls_stay, asks_within, drop_more, IsNext, asks_none_of}
use Rattle.rdm_lanes.proofs.FitLemmas.{first_of, accepts_none_of, map_drop, requests_within}

-- the client's oldest outcome was collected: which it was, and that it is a request's or a discovery's
pub record IsFinishEntry (e : Entry) : Type 0 where
  pub one : length (finishes (e ∷ [])) ≡ 1
  pub other : length (answers (e ∷ [])) ≡ 0

pub record IsAnswerEntry (e : Entry) : Type 0 where
  pub other : length (finishes (e ∷ [])) ≡ 0
  pub one : length (answers (e ∷ [])) ≡ 1

no_number : (call : Call) (n : ℕ) (j : Joined) → refused_outcome call ≡ Some (RequestValue (Some n) j) → ⊥
no_number (calls.Submit request) n j e = cc
no_number (calls.Discover kind) n j e = cc
no_number (calls.Join p) n j e = cc

no_ask_number : (call : Call) (n : ℕ) (d : Discovered) → refused_outcome call ≡ Some (DiscoveryValue (Some n) d) → ⊥
no_ask_number (calls.Submit request) n d e = cc
no_ask_number (calls.Discover kind) n d e = cc
no_ask_number (calls.Join p) n d e = cc

finish_of : (h : List Entry) (e : Entry) (n : ℕ) (j : Joined) → outcome_of h e ≡ Some (RequestValue (Some n) j)
    → IsFinishEntry e
unfolding finishes answers
finish_of h (Finish m status len) n j is = record { one = refl; other = refl }
finish_of h (Answer m r fault) n j is = cc
finish_of h (Refuse c call cause) n j is = absurd (no_number call n j is)
finish_of h (Join c m) n j is = cc
finish_of h (Accept c m request) n j is = cc
finish_of h (Ask c m kind) n j is = cc
finish_of h (Send owner frame) n j is = cc
finish_of h (Came event) n j is = cc
finish_of h (Collect c) n j is = cc
finish_of h Pause n j is = cc
finish_of h Resume n j is = cc
finish_of h Close n j is = cc

answer_of : (h : List Entry) (e : Entry) (n : ℕ) (d : Discovered) → outcome_of h e ≡ Some (DiscoveryValue (Some n) d)
    → IsAnswerEntry e
unfolding finishes answers
answer_of h (Finish m status len) n d is = cc
answer_of h (Answer m r fault) n d is = record { other = refl; one = refl }
answer_of h (Refuse c call cause) n d is = absurd (no_ask_number call n d is)
answer_of h (Join c m) n d is = cc
answer_of h (Accept c m request) n d is = cc
answer_of h (Ask c m kind) n d is = cc
answer_of h (Send owner frame) n d is = cc
answer_of h (Came event) n d is = cc
answer_of h (Collect c) n d is = cc
answer_of h Pause n d is = cc
answer_of h Resume n d is = cc
answer_of h Close n d is = cc

own_collect : (d : ClientId) → collects_by d.0 (Collect d ∷ []) ≡ d.0 ∷ []
unfolding collectors
own_collect d = rw (eq-eqb d.0 d.0 refl) refl

collect_count : (d : ClientId) (h : List Entry)
    → length (collects_by d.0 (h ++ Collect d ∷ [])) ≡ length (collects_by d.0 h) + 1
collect_count d h =
    ap length (collects_by_split d.0 h (Collect d ∷ []))
    ∙ length-append (collects_by d.0 h) (collects_by d.0 (Collect d ∷ []))
    ∙ ap (λ (xs : List ℕ). length (collects_by d.0 h) + length xs) (own_collect d)

answers_same : (o : Opening) (h : List Entry) (e : Entry) (each : EachAfter (MayFollow o) (h ++ e ∷ [])) (c : ℕ)
    → is_quiet e ≡ true → answers_to o c (h ++ e ∷ []) ≡ answers_to o c h
answers_same o h e each c quiet =
    answers_split o h (e ∷ []) each c ∙ ap (λ (xs : List Entry). answers_to o c h ++ xs) (no_answer o h e each quiet c)
    ∙ append-nil (answers_to o c h)

take_at : (xs : List Entry) (m : ℕ) (x : Entry) → slice_get xs m ≡ Some x → take (m + 1) xs ≡ take m xs ++ x ∷ []
take_at xs m x at =
    take_more xs m x (slice_get_within xs m x at)
    ∙ ap (λ (y : Entry). take m xs ++ y ∷ []) (get_or_from_slice_get xs m x x at)

module _ (o : Opening) (h : List Entry) (d : ClientId) (each : EachAfter (MayFollow o) (h ++ Collect d ∷ []))
    (x : Entry) (oldest : slice_get (uncollected o d.0 h) 0 ≡ Some x) where
  at_count : slice_get (answers_to o d.0 h) (length (collects_by d.0 h)) ≡ Some x
  at_count = ap (slice_get (answers_to o d.0 h)) (omega arith)
      ∙ sym (slice_get-drop (length (collects_by d.0 h)) (answers_to o d.0 h) 0) ∙ oldest

  collected_more : collected o d.0 (h ++ Collect d ∷ []) ≡ collected o d.0 h ++ x ∷ []
  collected_more =
      rw (collect_count d h, answers_same o h (Collect d) each d.0 refl)
      (take_at (answers_to o d.0 h) (length (collects_by d.0 h)) x at_count)

  uncollected_after : uncollected o d.0 (h ++ Collect d ∷ []) ≡ drop 1 (uncollected o d.0 h)
  uncollected_after =
      rw (collect_count d h, answers_same o h (Collect d) each d.0 refl)
      (drop_more (length (collects_by d.0 h)) (answers_to o d.0 h))

  values_first : uncollected_values o d.0 h ≡ outcome_of h x ∷ uncollected_values o d.0 (h ++ Collect d ∷ [])
  values_first =
      first_of o d.0 h x oldest
      ∙ ap (λ (vs : List (Option OutcomeValue)). outcome_of h x ∷ vs)
      (sym (to_values o d.0 (h ++ Collect d ∷ []) ∙ ap (map (outcome_of (h ++ Collect d ∷ []))) uncollected_after
      ∙ map_drop (outcome_of (h ++ Collect d ∷ [])) (uncollected o d.0 h)
      ∙ ap (drop 1) (values_stay o h (Collect d ∷ []) each d.0)))

  accepts_kept : accepts_by d.0 (h ++ Collect d ∷ []) ≡ accepts_by d.0 h
  accepts_kept =
      accepts_by_split d.0 h (Collect d ∷ [])
      ∙ rw (accepts_none_of d.0 (Collect d) refl) (append-nil (accepts_by d.0 h))

  asks_kept : asks_by d.0 (h ++ Collect d ∷ []) ≡ asks_by d.0 h
  asks_kept = asks_by_split d.0 h (Collect d ∷ []) ∙ rw (asks_none_of d.0 (Collect d) refl) (append-nil (asks_by d.0 h))

  finishes_more : length (finishes (collected o d.0 (h ++ Collect d ∷ [])))
      ≡ length (finishes (collected o d.0 h)) + length (finishes (x ∷ []))
  finishes_more =
      ap length (ap finishes collected_more ∙ finishes-append (collected o d.0 h) (x ∷ []))
      ∙ length-append (finishes (collected o d.0 h)) (finishes (x ∷ []))

  answers_more : length (answers (collected o d.0 (h ++ Collect d ∷ [])))
      ≡ length (answers (collected o d.0 h)) + length (answers (x ∷ []))
  answers_more =
      ap length (ap answers collected_more ∙ answered-append (collected o d.0 h) (x ∷ []))
      ∙ length-append (answers (collected o d.0 h)) (answers (x ∷ []))

  -- one fewer of its kind is outstanding
  fewer_requests : IsFinishEntry x → outstanding_requests o d.0 h ≡ outstanding_requests o d.0 (h ++ Collect d ∷ []) + 1
  fewer_requests is =
      let within = requests_within o (h ++ Collect d ∷ []) each d.0 in
      let same = ap length accepts_kept in
      omega (arith, within, same, finishes_more, is.one)

  same_asks : IsFinishEntry x → outstanding_discoveries o d.0 (h ++ Collect d ∷ []) ≡ outstanding_discoveries o d.0 h
  same_asks is =
      let same = ap length asks_kept in
      omega (arith, same, answers_more, is.other)

  fewer_asks : IsAnswerEntry x
      → outstanding_discoveries o d.0 h ≡ outstanding_discoveries o d.0 (h ++ Collect d ∷ []) + 1
  fewer_asks is =
      let within = asks_within o (h ++ Collect d ∷ []) each d.0 in
      let same = ap length asks_kept in
      omega (arith, within, same, answers_more, is.one)

  same_requests : IsAnswerEntry x → outstanding_requests o d.0 (h ++ Collect d ∷ []) ≡ outstanding_requests o d.0 h
  same_requests is =
      let same = ap length accepts_kept in
      omega (arith, same, finishes_more, is.other)

-- the outcome that was collected is on the client's ring
collected_fits : (o : Opening) (h : List Entry) (room : ℕ) (gone : ℕ) (keeps : Bool) (d : ClientId)
    (x : Entry) (item : RingOutcome) (lane next : Lane) (requests asks : ℕ)
    → EachAfter (MayFollow o) (h ++ Collect d ∷ []) → slice_get (uncollected o d.0 h) 0 ≡ Some x
    → outcome_of h x ≡ Some (value_in item)
    → outstanding_requests o d.0 (h ++ Collect d ∷ []) ≡ requests
    → outstanding_discoveries o d.0 (h ++ Collect d ∷ []) ≡ asks
    → LaneFits d.0 (record {
      opening = o;
      entries = h;
      room = room;
      gone = gone;
      keeps = keeps;
    }) lane
    → IsNext lane next requests asks
    → pushed next.replies ≡ pushed lane.replies ++ item ∷ []
    → LaneFits d.0 (record {
      opening = o;
      entries = h ++ Collect d ∷ [];
      room = room;
      gone = gone;
      keeps = keeps;
    }) next
collected_fits o h room gone keeps d x item lane next requests asks each oldest told counted asked f isnext
    replies =
    record {
      calls_are = ap work_in isnext.calls_are ∙ f.calls_are
          ∙ ap (λ (xs : List ClientCall). xs ++ []) (sym (calls_stay d.0 h (Collect d) refl));
      moved_are =
          rw (replies, value_more (pushed lane.replies) item)
          (ap (λ (vs : List (Option OutcomeValue)). vs ++ uncollected_values o d.0 (h ++ Collect d ∷ []))
          (map-append (λ (v : OutcomeValue). Some v) (values_in (pushed lane.replies)) (value_in item ∷ []))
          ∙ append_assoc (map (λ (v : OutcomeValue). Some v) (values_in (pushed lane.replies)))
          (Some (value_in item) ∷ [])
          (uncollected_values o d.0 (h ++ Collect d ∷ []))
          ∙ ap (λ (v : Option OutcomeValue). map (λ (v : OutcomeValue). Some v) (values_in (pushed lane.replies))
          ++ v ∷ uncollected_values o d.0 (h ++ Collect d ∷ [])) (sym told)
          ∙ ap (λ (vs : List (Option OutcomeValue)). map (λ (v : OutcomeValue). Some v)
          (values_in (pushed lane.replies))
          ++ vs) (sym (values_first o h d each x oldest))
          ∙ f.moved_are
          ∙ sym (told_same o h (Collect d) each refl d.0 refl));
      requests_are = isnext.requests_are ∙ sym counted;
      asks_are = isnext.asks_are ∙ sym asked;
      left_is = isnext.left_is ∙ f.left_is ∙ ap (list_any is_leave) (sym isnext.calls_are);
    }

each_after : (old new : LogState) (e : Entry) → new ≡ grown old (e ∷ []) → Legal new.opening new.entries
    → EachAfter (MayFollow old.opening) (old.entries ++ e ∷ [])
each_after old new e is legal = subst (λ (k : LogState). EachAfter (MayFollow k.opening) k.entries) is legal.each

pub has_request : (old new : LogState) (d : ClientId) (n : ℕ) (done : Completion) (lane : Lane)
    → GrowsBy old (CollectAdds old.opening old.entries d (Some (outcomes.Request (Some n) done))) new
    → Legal new.opening new.entries
    → LaneFits d.0 old lane → 1 ≤ lane.requests
has_request old new d n done lane g legal f =
    let adds = g.adds in
    let each = each_after old new (Collect d) (rw adds.1 at g.grows) legal in
    let fewer = fewer_requests old.opening old.entries d each adds.0.entry adds.0.oldest
    (finish_of old.entries adds.0.entry n (completion_value done) adds.0.told) in
    omega (arith, fewer, f.requests_are)

pub has_ask : (old new : LogState) (d : ClientId) (n : ℕ) (done : AskCompletion) (lane : Lane)
    → GrowsBy old (CollectAdds old.opening old.entries d (Some (outcomes.Discovery (Some n) done))) new
    → Legal new.opening new.entries
    → LaneFits d.0 old lane → 1 ≤ lane.asks
has_ask old new d n done lane g legal f =
    let adds = g.adds in
    let each = each_after old new (Collect d) (rw adds.1 at g.grows) legal in
    let fewer = fewer_asks old.opening old.entries d each adds.0.entry adds.0.oldest
    (answer_of old.entries adds.0.entry n (discovered done) adds.0.told) in
    omega (arith, fewer, f.asks_are)

less_one : (a b c : ℕ) → a ≡ b → b ≡ c + 1 → c ≡ a - 1
less_one a b c p q = omega (arith, p, q)

pub fits_completion : (old new : LogState) (d : ClientId) (n : ℕ) (done : Completion) (item : RingOutcome)
    (lane next : Lane)
    → GrowsBy old (CollectAdds old.opening old.entries d (Some (outcomes.Request (Some n) done))) new
    → Legal new.opening new.entries
    → value_in item ≡ outcome_value (outcomes.Request (Some n) done) → LaneFits d.0 old lane
    → IsNext lane next (lane.requests - 1) lane.asks → pushed next.replies ≡ pushed lane.replies ++ item ∷ []
    → LaneFits d.0 new next
fits_completion old new d n done item lane next g legal is f isnext replies =
    let adds = g.adds in
    let grows : new ≡ grown old (Collect d ∷ []) = rw adds.1 at g.grows in
    let each = each_after old new (Collect d) grows legal in
    let x = adds.0.entry in
    let kind = finish_of old.entries x n (completion_value done) adds.0.told in
    let fewer = fewer_requests old.opening old.entries d each x adds.0.oldest kind in
    let same = same_asks old.opening old.entries d each x adds.0.oldest kind in
    rw grows (collected_fits old.opening old.entries old.room old.gone old.keeps d x item lane next
    (lane.requests - 1) lane.asks each adds.0.oldest (adds.0.told ∙ ap (λ v. Some v) (sym is))
    (less_one lane.requests _ _ f.requests_are fewer) (same ∙ sym f.asks_are) f isnext replies)

pub fits_discovery : (old new : LogState) (d : ClientId) (n : ℕ) (done : AskCompletion) (item : RingOutcome)
    (lane next : Lane)
    → GrowsBy old (CollectAdds old.opening old.entries d (Some (outcomes.Discovery (Some n) done))) new
    → Legal new.opening new.entries
    → value_in item ≡ outcome_value (outcomes.Discovery (Some n) done) → LaneFits d.0 old lane
    → IsNext lane next lane.requests (lane.asks - 1) → pushed next.replies ≡ pushed lane.replies ++ item ∷ []
    → LaneFits d.0 new next
fits_discovery old new d n done item lane next g legal is f isnext replies =
    let adds = g.adds in
    let grows : new ≡ grown old (Collect d ∷ []) = rw adds.1 at g.grows in
    let each = each_after old new (Collect d) grows legal in
    let x = adds.0.entry in
    let kind = answer_of old.entries x n (discovered done) adds.0.told in
    let fewer = fewer_asks old.opening old.entries d each x adds.0.oldest kind in
    let same = same_requests old.opening old.entries d each x adds.0.oldest kind in
    rw grows (collected_fits old.opening old.entries old.room old.gone old.keeps d x item lane next
    lane.requests (lane.asks - 1) each adds.0.oldest (adds.0.told ∙ ap (λ v. Some v) (sym is))
    (same ∙ sym f.requests_are) (less_one lane.asks _ _ f.asks_are fewer) f isnext replies)
