-- What a queue's calls say for each log that it stands after.
use Rattle.rdm_queue.proofs.Common.{◌≡◌, ℕ, ◌∙◌, ◌<◌, true, false, List, [], ◌∷◌, ◌++◌, length, Option, Some}
use Rattle.rdm_queue.proofs.Common.{None, Result, Ok, Err, refl, sym, ap, append-nil, append_assoc, ◌≢◌, IfOk, IfErr}
use Rattle.rdm_queue.proofs.Common.{IfSome, IfNone, OnErr, OnSome, option_map, slice_get, ArrayVec, LogState}
use Rattle.rdm_queue.proofs.Common.{grown, ClientId, Owner, Entry, Join, Send, Collect, Close, is_closed}
use Rattle.rdm_queue.proofs.Common.{JoinFault, WorkFault, Work, Device, Outcome, Completion, join_fault, first_fault}
use Rattle.rdm_queue.proofs.Common.{outcome_value, request_outcome, discovery_outcome, oldest_kind, RefusesJoin}
use Rattle.rdm_queue.proofs.Common.{join_refused, work_refused, work_accepted, CloseAdds, IsWithResults, is_result}
use Rattle.rdm_queue.proofs.Common.{AllResults, QueueState, first_join_fault, WorkAdds, number_for}
use Rattle.rdm_queue.proofs.Common.{joins_client, accepts_work, collects_oldest, owed_to, unended}
use Rattle.rdm_queue.proofs.Common.{OwedOutcome, owed_next, end_of_oldest, CollectsOldest, first_kind, IsEnded}
use Rattle.rdm_queue.proofs.Common.{HasNothingDue, FaultNeedsClose, AnswersInBound, block_more, ByRun, ByResult}
use Rattle.rdm_queue.proofs.Common.{ByClose, Accepted, Joined, none-some, drop, arith, StandsAfter, StandsAmid, MaySend}
use Rattle.rdm_queue.proofs.Common.{NoSend, IsGiven, to_send, false≢true, is_some}
use Rattle.rdm_log.specs.declared.outcome.OutcomeKind.{OutcomeKind}
use Rattle.rdm_log.specs.declared.outcome.DiscoveryEnd.{DiscoveryEnd}
use Rattle.rdm_log.specs.promises.Blocks.{JoinAdds, CollectAdds, IsOldest}
use Rattle.rdm_queue.specs.declared.oldest.Oldest.{Oldest}
use Rattle.rdm_queue.specs.declared.oldest.Oldest.TheVariants as shown
use Rattle.rdm_queue.proofs.Common.{uncollected}
use Rattle.std.proofs.lemmas.Option.{slice_get-map}
use Rattle.rdm_log.specs.log.Broken.{oldest_may_be_incomplete, may_be_incomplete}
use Rattle.rdm_queue.specs.body.State.{flags_to}
use Rattle.rdm_queue.specs.promises.Oldest.{outcome_shown, kind_shown, flag_shown}
use Rattle.rdm_queue.specs.body.Rings.{value_shown}
use Rattle.rdm_queue.specs.body.State.{kind_of_value}
use Rattle.rdm_queue.proofs.BodyLemmas.EndLemmas.{ends_amid, ends_in_bound_amid, settled_after}
use Rattle.rdm_queue.specs.body.Describes.{ForEachBlock, FinishesNext, FinishesAll}
use Rattle.rdm_queue.specs.promises.EachLog.{ForEachLog, StandsWith, AddsToEach}
use Rattle.rdm_agent.proofs.Pushes.{All-push}
use Rattle.rdm_queue.proofs.BodyLemmas.TakeLemmas.{take_after, none_after}
use Rattle.rdm_queue.proofs.BodyLemmas.AfterLemmas.{join_fault_is, join_after, join_refused_after, first_fault_is}
use Rattle.rdm_queue.proofs.BodyLemmas.AfterLemmas.{number_is, work_after, work_refused_after, oldest_after}
use Rattle.rdm_queue.proofs.BodyLemmas.AfterLemmas.{collect_after, none_owed_after}
use Rattle.rdm_queue.proofs.BodyLemmas.AfterLemmas.{kind_after}

pub join_adds : (r : Result ClientId JoinFault) (s new : QueueState) (n : ℕ)
    → IfOk r (λ c. (first_join_fault s n ≡ None) × (c.0 ≡ length s.places) × (new ≡ joins_client s n))
    → IfErr r (λ fault. RefusesJoin (first_join_fault s n) fault) → OnErr r (new ≡ s)
    → AddsToEach s (λ k. JoinAdds k.opening k.entries n r) new
join_adds (Ok c) s new n joined refused same =
    λ k after.
    let passes = sym (join_fault_is k.opening k.entries s n after.stands) ∙ joined.0 in
    record {
      block = Join c n ∷ [];
      adds = (passes, joined.1 ∙ ap length after.stands.places_are, refl);
      after = rw joined.2 (join_after k.opening k.entries s c n passes joined.1 after);
    }
join_adds (Err fault) s new n joined refused same =
    λ k after.
    let refuses : RefusesJoin (join_fault k.opening k.entries n)
    fault = rw (join_fault_is k.opening k.entries s n after.stands) at refused in
    record {
      block = join_refused n fault ∷ [];
      adds = (refuses, refl);
      after = rw same (join_refused_after k.opening k.entries s n fault refuses after);
    }

pub accept_adds : (s new : QueueState) (c : ClientId) (work : Work) (n : ℕ) → first_fault s c.0 work ≡ None
    → n ≡ number_for s work → new ≡ accepts_work s c.0 work
    → AddsToEach s (λ k. WorkAdds k.opening k.entries c work (Ok n)) new
accept_adds s new c work n unrefused number accepted =
    λ k after.
    let passes = sym (first_fault_is k.opening k.entries s c.0 work after) ∙ unrefused in
    record {
      block = work_accepted c n work ∷ [];
      adds = (passes, number ∙ number_is k.opening k.entries s work after, refl);
      after = rw accepted (work_after k.opening k.entries s c n work passes number after);
    }

pub refusal_adds : (r : Option WorkFault) (s : QueueState) (c : ClientId) (work : Work)
    → r ≡ first_fault s c.0 work
    → IfSome r (λ fault. AddsToEach s (λ k. WorkAdds k.opening k.entries c work (Err fault)) s)
refusal_adds None s c work is = tt
refusal_adds (Some fault) s c work is =
    λ k after.
    let refuses = sym (is ∙ first_fault_is k.opening k.entries s c.0 work after) in
    record {
      block = work_refused c work fault ∷ [];
      adds = (refuses, refl);
      after = work_refused_after k.opening k.entries s c work fault refuses after;
    }

pub given_each : (r : Option (Owner × ArrayVec ℕ)) (s new : QueueState)
    → IfSome r (λ given. IsGiven s given.0 given.1 new)
    → IfSome r (λ given. AddsToEach s
    (λ k block. MaySend k.opening k.entries given.0 given.1 × (block ≡ Send given.0 given.1 ∷ [])) new)
given_each None s new given = tt
given_each (Some g) s new given =
    λ k after. let sent = take_after k.opening k.entries s g.0 g.1 new given after in
    record { block = Send g.0 g.1 ∷ []; adds = (sent.may, refl); after = sent.after }

pub none_each : (r : Option (Owner × ArrayVec ℕ)) (s new : QueueState) → IfNone r ((to_send s ≡ None) × (new ≡ s))
    → IfNone r (ForEachLog s (λ o h. NoSend o h) × (new ≡ s))
none_each (Some g) s new none = tt
none_each None s new none = ((λ o h after. none_after o h s none.0 after), none.1)

-- a collect
pub collecting_adds : (s new : QueueState) (c : ClientId) (outcome : Outcome)
    → CollectsOldest s c.0 (outcome_value outcome) new
    → AddsToEach s (λ k. CollectAdds k.opening k.entries c (Some outcome)) new
collecting_adds s new c outcome collecting =
    λ k after. record {
      block = Collect c ∷ [];
      adds = (oldest_after k.opening k.entries s c outcome (sym collecting.oldest) after, refl);
      after = rw collecting.new_is (collect_after k.opening k.entries s c outcome (sym collecting.oldest) after);
    }

pub collect_adds : (r : Option Outcome) (s new : QueueState) (c : ClientId)
    → option_map outcome_value r ≡ slice_get (owed_to c.0 s) 0 → OnSome r (new ≡ collects_oldest s c.0)
    → IfNone r (new ≡ s) → AddsToEach s (λ k. CollectAdds k.opening k.entries c r) new
collect_adds None s new c told removed same =
    λ k after. record {
      block = [];
      adds = (none_owed_after k.opening k.entries s c.0 told after, refl);
      after = rw (same, append-nil) after;
    }
collect_adds (Some outcome) s new c told removed same = collecting_adds s new c outcome (record {
  oldest = sym told;
  new_is = removed;
})

pub completion_adds : (r : Option (ℕ × Completion)) (s new : QueueState) (c : ClientId)
    → IfSome r (λ x. CollectsOldest s c.0 (outcome_value (request_outcome x)) new)
    → IfSome r (λ x. AddsToEach s (λ k. CollectAdds k.opening k.entries c (Some (request_outcome x))) new)
completion_adds None s new c collecting = tt
completion_adds (Some x) s new c collecting = collecting_adds s new c (request_outcome x) collecting

pub discovery_adds : (r : Option DiscoveryEnd) (set : List Device) (s new : QueueState) (c : ClientId)
    → IfSome r (λ end. CollectsOldest s c.0 (outcome_value (discovery_outcome end set)) new)
    → IfSome r (λ end. AddsToEach s (λ k. CollectAdds k.opening k.entries c (Some (discovery_outcome end set))) new)
discovery_adds None set s new c collecting = tt
discovery_adds (Some end) set s new c collecting = collecting_adds s new c (discovery_outcome end set) collecting

pub not_kind : {X : Type 0} (r : Option X) (s : QueueState) (c : ℕ) (kind : OutcomeKind)
    → IfNone r (first_kind c s ≢ Some kind) → IfNone r (ForEachLog s (λ o h. oldest_kind o h c ≢ Some kind))
not_kind (Some x) s c kind other = tt
not_kind None s c kind other = λ o h after is. other (kind_after o h s c after ∙ is)

-- what a look at the oldest outcome shows
kind_of_shown : (x : Oldest) → kind_of_value (value_shown x) ≡ kind_shown x
kind_of_shown (shown.Request number done flag) = refl
kind_of_shown (shown.Discovery end set) = refl

kind_of_look : (r : Option Oldest) → option_map kind_shown r ≡ option_map kind_of_value (option_map value_shown r)
kind_of_look None = refl
kind_of_look (Some x) = ap (λ kind. Some kind) (sym (kind_of_shown x))

pub shown_kind : (r : Option Oldest) (s : QueueState) (c : ℕ) → option_map value_shown r ≡ slice_get (owed_to c s) 0
    → ForEachLog s (λ o h. option_map kind_shown r ≡ oldest_kind o h c)
shown_kind r s c told =
    λ o h after. kind_of_look r ∙ (ap (λ v. option_map kind_of_value v) told ∙ kind_after o h s c after)

pub shown_outcome : (r : Option Oldest) (s : QueueState) (c : ClientId)
    → option_map value_shown r ≡ slice_get (owed_to c.0 s) 0
    → IfSome r (λ x. ForEachLog s (λ o h. IsOldest o h c.0 (outcome_shown x)))
shown_outcome None s c told = tt
shown_outcome (Some x) s c told = λ o h after. oldest_after o h s c (outcome_shown x) told after

pub shown_flag : (r : Option Oldest) (s : QueueState) (c : ℕ) → option_map flag_shown r ≡ slice_get (flags_to c s) 0
    → ForEachLog s (λ o h. option_map flag_shown r ≡ oldest_may_be_incomplete o h c)
shown_flag r s c told =
    λ o h after.
    told ∙ (ap (λ l. slice_get l 0) (after.stands.flags_are c)
    ∙ slice_get-map (may_be_incomplete o h) (uncollected o c h) 0)

-- one fewer is left to end
less_first : {X : Type 0} (xs : List X) (x : X) → slice_get xs 0 ≡ Some x → length (drop 1 xs) < length xs
less_first [] x at = cc
less_first (y ∷ xs) x at = omega arith

less_due : (end : Option Joined) (waiting : List Accepted) (d : OwedOutcome) → owed_next end waiting ≡ Some d
    → length (drop 1 waiting) < length waiting
less_due (Some done) (a ∷ waiting) d is = omega arith
less_due (Some done) [] d is = absurd (none-some d is)
less_due None waiting d is = absurd (none-some d is)

pub ends_fewer : (r : Option Entry) (s new : QueueState) → IfSome r (λ entry. IsEnded s entry new)
    → OnSome r (unended new < unended s)
ends_fewer None s new is = tt
ends_fewer (Some entry) s new is = by_kind is
  where
    by_kind : IsEnded s entry new → unended new < unended s
    by_kind (ByRun e) =
        rw e.answers.new_is (let less = less_first s.asked e.answers.asked e.answers.oldest in omega arith)
    by_kind (ByResult e) =
        rw e.finishes.new_is
        (let less = less_due (end_of_oldest s) s.waiting e.finishes.owed e.finishes.was_due in omega arith)
    by_kind (ByClose e) =
        rw e.answers.new_is (let less = less_first s.asked e.answers.asked e.answers.oldest in omega arith)

is_end : (s new : QueueState) (entry : Entry) → IsEnded s entry new → is_result entry ≡ true
is_end s new entry (ByRun e) = rw e.answers.entry_is refl
is_end s new entry (ByResult e) = rw e.finishes.entry_is refl
is_end s new entry (ByClose e) = rw e.answers.entry_is refl

pub ends_each : (r : Option Entry) (s new : QueueState) → IfSome r (λ entry. IsEnded s entry new)
    → IfSome r (λ entry. FinishesNext s entry new)
ends_each None s new is = tt
ends_each (Some entry) s new is = record {
  is = is_end s new entry is;
  each = λ k amid. (ends_in_bound_amid k s new entry is amid, ends_amid k.opening k.entries s new entry is amid);
}

pub settled_each : (r : Option Entry) (s new : QueueState) → IfNone r (HasNothingDue s × (new ≡ s))
    → IfNone r (ForEachBlock s (λ o h. StandsAfter o h s) × (new ≡ s))
settled_each (Some entry) s new is = tt
settled_each None s new is = ((λ o h amid. settled_after o h s is.0 amid), is.1)

-- an entry that is no Answer, and the Finishes and Answers that are due then
pub with_results : (k : LogState) (e : Entry) (new : QueueState) → FaultNeedsClose k e
    → FinishesAll (grown k (e ∷ [])) new → StandsWith k (λ block. IsWithResults e block × AnswersInBound k block) new
with_results k e new none all =
    let after : StandsAfter k.opening ((k.entries ++ e ∷ []) ++ all.results) new = all.after in
    record {
      block = e ∷ all.results;
      adds = (record { results = all.results; whole = refl; each = all.each }, (none, all.in_bound));
      after = rw (append_assoc k.entries (e ∷ []) all.results) at after;
    }

pub close_adds : (k : LogState) (new : QueueState) → is_closed k.opening k.entries ≡ false
    → FinishesAll (grown k (Close ∷ [])) new → StandsWith k (CloseAdds k.opening k.entries) new
close_adds k new open_ all =
    let with = with_results k Close new tt all in
    record { block = with.block; adds = rw open_ with.adds.0; after = with.after }

-- what holds amid a log with some results more
abbrev pub EndedSoFar : LogState → QueueState → Type 0
EndedSoFar k s =
    (results : List Entry) × AllResults results × AnswersInBound k results
    × StandsAmid k.opening (k.entries ++ results) s

-- an entry more of what was due
pub one_more_ended : (k : LogState) (r : Option Entry) (s new : QueueState) → is_some r ≡ true
    → IfSome r (λ entry. FinishesNext s entry new) → EndedSoFar k s → EndedSoFar k new
one_more_ended k None s new some ends so_far = absurd (false≢true some)
one_more_ended k (Some entry) s new some ends so_far =
    let here = ends.each (grown k so_far.0) so_far.3 in (
      so_far.0 ++ entry ∷ [],
      All-push (λ r. is_result r ≡ true) so_far.0 entry so_far.1 ends.is,
      block_more k so_far.0 entry so_far.2 here.0,
      rw (← append_assoc k.entries so_far.0 (entry ∷ [])) here.1,
    )
