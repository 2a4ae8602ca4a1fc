-- What a look at a client's oldest outcome shows is what a collect gives.
use Rattle.rdm_handles.proofs.Common.{◌≡◌, ℕ, Bool, List, Option, Some, None, ap, sym, ◌∙◌, Opening, Entry, Outcome}
use Rattle.rdm_handles.proofs.Common.{IsOldest, LogState, true, false}
use Rattle.std.specs.Prelude.{◌≢◌, Err, IfSome, IfNone, option_map, option_and_then}
use Rattle.rdm_join.specs.declared.event.LineEvent.{LineEvent}
use Rattle.rdm_log.specs.declared.entry.ClientId.{ClientId}
use Rattle.rdm_log.specs.declared.fault.NotAsked.{NotAsked}
use Rattle.rdm_log.specs.declared.outcome.Completion.{Completion}
use Rattle.rdm_log.specs.declared.outcome.OutcomeKind.{OutcomeKind}
use Rattle.rdm_log.specs.log.History.{awaited}
use Rattle.rdm_log.specs.promises.Blocks.{DeliverAdds, CollectAdds}
use Rattle.rdm_log.specs.promises.Outcomes.{outcome_value, oldest_kind}
use Rattle.rdm_queue.specs.body.State.{QueueState}
use Rattle.rdm_queue.specs.promises.EachLog.{ForEachLog, AddsToEach}
use Rattle.rdm_queue.specs.promises.Lengths.{length_of_value, answer_length, oldest_length}
use Rattle.rdm_handles.specs.Forms.{form_of_completion}
use Rattle.rdm_handles.specs.declared.forms.CompletionForC.{CompletionForC}

-- its length is that which was told
pub length_of_oldest : (o : Opening) (h : List Entry) (c : ℕ) (outcome : Outcome) → IsOldest o h c outcome
    → oldest_length o h c ≡ Some (length_of_value (outcome_value outcome))
length_of_oldest o h c outcome is =
    ap (λ e. option_and_then (answer_length h) e) is.oldest ∙ ap (λ v. option_map length_of_value v) is.told

-- a collect of the kind that is shown adds that of the outcome that is shown
pub collects_shown : {A : Type 0} (given : A → Outcome) (kind : OutcomeKind) (before after : QueueState) (c : ClientId)
    (result : Option A) (shown : Outcome)
    → IfSome result (λ r. AddsToEach before (λ k. CollectAdds k.opening k.entries c (Some (given r))) after)
    → IfNone result (ForEachLog before (λ o h. oldest_kind o h c.0 ≢ Some kind))
    → ForEachLog before (λ o h. Some kind ≡ oldest_kind o h c.0)
    → ForEachLog before (λ o h. IsOldest o h c.0 shown)
    → AddsToEach before (λ k. CollectAdds k.opening k.entries c (Some shown)) after
collects_shown given kind before after c None shown adds none is_kind is k stands =
    absurd (none k.opening k.entries stands (sym (is_kind k.opening k.entries stands)))
collects_shown given kind before after c (Some r) shown adds none is_kind is k stands =
    let with = adds k stands in
    record { block = with.block; adds = (is k.opening k.entries stands, with.adds.1); after = with.after }

-- a queue that refuses what came awaits nothing
pub not_awaited : (before after : QueueState) (event : LineEvent) (refused : NotAsked × LineEvent)
    → AddsToEach before (λ k. DeliverAdds k event (Err refused)) after → ForEachLog before (λ o h. awaited h ≡ false)
not_awaited before after event refused adds o h stands =
    let k : LogState = record {
      opening = o;
      entries = h;
      room = 0;
      gone = 0;
      keeps = true;
    } in
    (adds k stands).adds.0

-- a form has its own flag
pub own_flag : (number : ℕ) (done : Completion) (flag : Bool) (form : CompletionForC)
    → form ≡ form_of_completion number done flag → form ≡ form_of_completion number done form.may_be_incomplete
own_flag number done flag form is =
    is ∙ ap (λ b. form_of_completion number done b) (sym (ap (λ f. f.may_be_incomplete) is))
