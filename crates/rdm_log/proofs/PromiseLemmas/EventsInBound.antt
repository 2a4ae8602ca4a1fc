-- On a calm or noisy line, with a budget that suffices, a discovery that events answered has a fault only after a
-- close.
use Rattle.rdm_log.proofs.Common.{◌≡◌, ℕ, zero, suc, Bool, true, false, List, [], ◌∷◌, ◌++◌, Some, None, refl, sym, ap}
use Rattle.rdm_log.proofs.Common.{◌∙◌, append_assoc, append-nil, ◌≢◌, Ok, Err, append_cancel_left, AllByRecursion}
use Rattle.rdm_log.proofs.Common.{EachAfter, AgentFault, Entry, Close, Event, is_closed, has_begun, MayAnswer}
use Rattle.rdm_log.proofs.Common.{MayFollow, LogState, grown, with_entries, CloseAddsWhere, IsCalmRun, FaultNeedsClose}
use Rattle.rdm_log.proofs.Common.{IsNoisyRun, IsCalmOrNoisy, inl, inr}
use Rattle.rdm_log.proofs.Common.{AnswersInBound, Adds, Explains}
use Rattle.rdm_log.specs.declared.entry.Entry.TheVariants as discovery
use Rattle.rdm_log.specs.declared.event.Event.TheVariants as events
use Rattle.rdm_log.specs.declared.event.Answer.{Answer}
use Rattle.rdm_log.specs.declared.event.Answer.TheVariants as answers
use Rattle.rdm_log.specs.promises.Blocks.{GrowsBy}
use Rattle.rdm_log.proofs.BoundLemmas.{both_in_bound, after_growth, within_block}
use Rattle.rdm_log.proofs.LogLemmas.PushLemmas.{is_closed-push}
use Rattle.rdm_log.proofs.LogLemmas.RunLemmas.{entries_before_run_stays, served_stays}
use Rattle.rdm_log.proofs.PromiseLemmas.NothingAfterClose.{closed_more}
use Rattle.rdm_log.proofs.PromiseLemmas.RunsAnswer.{named_begun, ended}
use Rattle.rdm_log.proofs.PromiseLemmas.EntriesOf.{EachOf, adds_each}
use Rattle.rdm_log.proofs.PromiseLemmas.ExplainsLemmas.{grown_twice}

-- if the queue is closed, any Answer is in bound
closed_entry : (k : LogState) (e : Entry) → is_closed k.opening k.entries ≡ true → FaultNeedsClose k e
closed_entry k (discovery.Answer n r (Some fault)) closed = λ present run. closed
closed_entry k (discovery.Answer n r None) closed = tt
closed_entry k _ closed = tt

pub closed_in_bound : (k : LogState) (block : List Entry) → is_closed k.opening k.entries ≡ true
    → AnswersInBound k block
closed_in_bound k [] closed = tt
closed_in_bound k (e ∷ block) closed =
    (closed_entry k e closed, closed_in_bound (grown k (e ∷ [])) block (closed_more k.opening k.entries e closed))

close_in_bound : (k : LogState) (closed : Bool) (block : List Entry) → CloseAddsWhere closed block
    → AnswersInBound k block
close_in_bound k true block adds = rw adds tt
close_in_bound k false block adds =
    rw adds.whole (tt, closed_in_bound (grown k (Close ∷ [])) adds.results (is_closed-push k.opening k.entries Close))

-- a block is in bound if none of its entries needs a close
no_answers : (k : LogState) (block : List Entry) → AllByRecursion (λ e. (k : LogState) → FaultNeedsClose k e) block
    → AnswersInBound k block
no_answers k [] all = tt
no_answers k (e ∷ block) all = (all.0 k, no_answers (grown k (e ∷ [])) block all.1)

answerless : (k : LogState) (e : Event) (r : Answer) (block : List Entry)
    → EachOf e (λ e. (k : LogState) → FaultNeedsClose k e) → Adds k e r block → AnswersInBound k block
answerless k e r block each adds =
    no_answers k block (adds_each (λ e. (k : LogState) → FaultNeedsClose k e) k e r block each adds)

pub event_in_bound : (k : LogState) (e : Event) (r : Answer) (block : List Entry) → Adds k e r block
    → AnswersInBound k block
event_in_bound k events.Close answers.Close block adds = close_in_bound k (is_closed k.opening k.entries) block adds
event_in_bound k events.Close _ block adds = absurd adds
event_in_bound k (events.Deliver event) (answers.Deliver (Ok x)) block adds = adds.2
event_in_bound k (events.Deliver event) (answers.Deliver (Err e)) block adds = rw adds.2 tt
event_in_bound k (events.Deliver event) _ block adds = absurd adds
event_in_bound k (events.Join n) r block adds =
    answerless k (events.Join n) r block (λ c l. tt, λ fault l. tt) adds
event_in_bound k (events.Submit c request) r block adds =
    answerless k (events.Submit c request) r block (λ n l. tt, λ fault l. tt) adds
event_in_bound k (events.Discover c kind) r block adds =
    answerless k (events.Discover c kind) r block (λ n l. tt, λ fault l. tt) adds
event_in_bound k events.Pause r block adds = answerless k events.Pause r block (λ l. tt) adds
event_in_bound k events.Resume r block adds = answerless k events.Resume r block (λ l. tt) adds
event_in_bound k events.Take r block adds = answerless k events.Take r block (λ owner frame l. tt) adds
event_in_bound k (events.Collect c) r block adds = answerless k (events.Collect c) r block (λ l. tt) adds

-- and with all that events added
all_in_bound : (old : LogState) (es : List Event) (rs : List Answer) (new : LogState) → Explains old es rs new
    → GrowsBy old (AnswersInBound old) new
all_in_bound old [] [] new is = record {
  block = [];
  adds = tt;
  grows = is ∙ ap (λ l. record old { entries = l }) (sym (append-nil old.entries));
}
all_in_bound old (e ∷ es) (r ∷ rs) new is =
    let here = is.1 in
    let later = all_in_bound is.0 es rs new is.2 in
    record {
      block = here.block ++ later.block;
      adds = both_in_bound old here.block later.block (event_in_bound old e r here.block here.adds)
          (after_growth old is.0 here.block later.block here.grows later.adds);
      grows = later.grows ∙ ap (λ k. grown k later.block) here.grows ∙ grown_twice old here.block later.block;
    }
all_in_bound old [] (r ∷ rs) new is = absurd is
all_in_bound old (e ∷ es) [] new is = absurd is

-- a run that an Answer names is as calm before the Answer, or as noisy
calm_before : (k : LogState) (before back : List Entry) (n r : ℕ) (fault : AgentFault) (present : List ℕ)
    → EachAfter (MayFollow k.opening) k.entries → k.entries ≡ before ++ discovery.Answer n r (Some fault) ∷ back
    → has_begun r before ≡ true → IsCalmRun k r present → IsCalmRun (with_entries k before) r present
calm_before k before back n r fault present each is begun calm = record {
  calm = rw (ended k.opening k.entries each before back n r (Some fault) is) at calm.calm;
  budgeted = rw (
    is,
    served_stays r before (discovery.Answer n r (Some fault) ∷ back) begun,
    entries_before_run_stays r before (discovery.Answer n r (Some fault) ∷ back) begun,
  ) at calm.budgeted;
}

noisy_before : (k : LogState) (before back : List Entry) (n r : ℕ) (fault : AgentFault) (present : List ℕ) (w : ℕ)
    → EachAfter (MayFollow k.opening) k.entries → k.entries ≡ before ++ discovery.Answer n r (Some fault) ∷ back
    → has_begun r before ≡ true → IsNoisyRun k r present w → IsNoisyRun (with_entries k before) r present w
noisy_before k before back n r fault present w each is begun noisy = record {
  noisy = rw (ended k.opening k.entries each before back n r (Some fault) is) at noisy.noisy;
  quick = noisy.quick;
  budgeted = rw (
    is,
    served_stays r before (discovery.Answer n r (Some fault) ∷ back) begun,
    entries_before_run_stays r before (discovery.Answer n r (Some fault) ∷ back) begun,
  ) at noisy.budgeted;
}

run_before : (k : LogState) (before back : List Entry) (n r : ℕ) (fault : AgentFault) (present : List ℕ)
    → EachAfter (MayFollow k.opening) k.entries → k.entries ≡ before ++ discovery.Answer n r (Some fault) ∷ back
    → has_begun r before ≡ true → IsCalmOrNoisy k r present → IsCalmOrNoisy (with_entries k before) r present
run_before k before back n r fault present each is begun (inl calm) =
    inl (calm_before k before back n r fault present each is begun calm)
run_before k before back n r fault present each is begun (inr noisy) =
    inr (noisy.0, noisy_before k before back n r fault present noisy.0 each is begun noisy.1)

-- an Answer that names no run comes after a close
by_number : (k : LogState) (before back : List Entry) (n r : ℕ) (fault : AgentFault) (present : List ℕ)
    → EachAfter (MayFollow k.opening) k.entries → k.entries ≡ before ++ discovery.Answer n r (Some fault) ∷ back
    → MayAnswer k.opening before n r (Some fault)
    → FaultNeedsClose (with_entries k before) (discovery.Answer n r (Some fault)) → IsCalmOrNoisy k r present
    → is_closed k.opening before ≡ true
by_number k before back n zero fault present each is may bound run = (may.unserved refl).closing.closed
by_number k before back n (suc r) fault present each is may bound run =
    bound present
    (run_before k before back n (suc r) fault present each is
    (named_begun k.opening before n (suc r) (Some fault) may some) run)
  where
    some : suc r ≢ 0
    some e = cc

pub in_bound : (old : LogState) (es : List Event) (rs : List Answer) (new : LogState) → Explains old es rs new
    → EachAfter (MayFollow new.opening) new.entries
    → (front back : List Entry) (n r : ℕ) (fault : AgentFault) (present : List ℕ)
    → new.entries ≡ old.entries ++ front ++ discovery.Answer n r (Some fault) ∷ back
    → IsCalmOrNoisy new r present → is_closed new.opening (old.entries ++ front) ≡ true
in_bound old es rs new explains each front back n r fault present is run =
    by_number new (old.entries ++ front) back n r fault present each is (each (old.entries ++ front) back answer is)
    bound run
  where
    answer : Entry
    answer = discovery.Answer n r (Some fault)

    added : GrowsBy old (AnswersInBound old) new
    added = all_in_bound old es rs new explains

    block_is : added.block ≡ front ++ answer ∷ back
    block_is = append_cancel_left old.entries added.block (front ++ answer ∷ back)
        (sym (ap (λ k. k.entries) added.grows) ∙ is ∙ append_assoc old.entries front (answer ∷ back))

    bound : FaultNeedsClose (with_entries new (old.entries ++ front)) answer
    bound = rw (
      ap (λ k. k.opening) added.grows,
      ap (λ k. k.room) added.grows,
      ap (λ k. k.gone) added.grows,
      ap (λ k. k.keeps) added.grows,
    )
        (within_block old front answer back (rw block_is at added.adds))
