-- Which entries an event's block may have, and that what holds of each of them holds of the block's entries.
use Rattle.rdm_log.proofs.Common.{ℕ, Bool, true, false, List, [], ◌∷◌, Option, Some, None, inl, inr, Result, Ok, Err}
use Rattle.rdm_log.proofs.Common.{false≢true, AllByRecursion, ArrayVec, AgentFault, Status, ClientId, Owner, Entry}
use Rattle.rdm_log.proofs.Common.{Event, Work, WorkFault, LogState, is_full_log, is_closed, can_pause, can_resume}
use Rattle.rdm_log.proofs.Common.{join_refused, work_accepted, work_refused, WorkLogs, SwitchAdds, CloseAddsWhere}
use Rattle.rdm_log.proofs.Common.{IsWithResults, brings, Adds}
use Rattle.rdm_log.specs.declared.entry.Entry.TheVariants as entries
use Rattle.rdm_log.specs.declared.event.Event.TheVariants as events
use Rattle.rdm_log.specs.declared.event.Answer.{Answer}
use Rattle.rdm_log.specs.declared.event.Answer.TheVariants as answers
use Rattle.rdm_log.specs.declared.fault.JoinFault.{JoinFault}
use Rattle.rdm_log.specs.declared.work.Work.TheVariants as works
use Rattle.rdm_log.specs.promises.Blocks.{AllResults}
use Rattle.rdm_log.proofs.PromiseLemmas.BlockLemmas.{join_ok, join_refusal, work_ok, work_adds, work_answer, in_both}

-- P holds of each Finish and each Answer
abbrev pub EachResult : (Entry → Type 0) → Type 0
EachResult P = ((n : ℕ) (status : Status) (len : ℕ) → P (entries.Finish n status len))
    × ((n run : ℕ) (fault : Option AgentFault) → P (entries.Answer n run fault))

-- P holds of the entries that a client's work may leave
abbrev pub EachOfWork : ClientId → Work → (Entry → Type 0) → Type 0
EachOfWork c work P = ((n : ℕ) → P (work_accepted c n work)) × ((fault : WorkFault) → P (work_refused c work fault))

-- P holds of each entry that an event's block may have
abbrev pub EachOf : Event → (Entry → Type 0) → Type 0
EachOf (events.Join n) P = ((c : ClientId) → P (entries.Join c n)) × ((fault : JoinFault) → P (join_refused n fault))
EachOf (events.Submit c request) P = EachOfWork c (works.Submit request) P
EachOf (events.Discover c kind) P = EachOfWork c (works.Discover kind) P
EachOf events.Pause P = P entries.Pause
EachOf events.Resume P = P entries.Resume
EachOf events.Close P = P entries.Close × EachResult P
EachOf events.Take P = (owner : Owner) (frame : ArrayVec ℕ) → P (entries.Send owner frame)
EachOf (events.Deliver event) P = P (entries.Came event) × EachResult P
EachOf (events.Collect c) P = P (entries.Collect c)

-- so it holds of the entries of each kind of block
pub results_each : (P : Entry → Type 0) → EachResult P → (block : List Entry) → AllResults block
    → AllByRecursion P block
results_each P each [] all = tt
results_each P each (entries.Finish n status len ∷ block) all =
    (each.0 n status len, results_each P each block all.1)
results_each P each (entries.Answer n run fault ∷ block) all = (each.1 n run fault, results_each P each block all.1)
results_each P each (_ ∷ block) all = absurd (false≢true all.0)

with_results : (P : Entry → Type 0) (e : Entry) (block : List Entry) → P e × EachResult P → IsWithResults e block
    → AllByRecursion P block
with_results P e block each is = rw is.whole (each.0, results_each P each.1 is.results is.each)

switch_each : (P : Entry → Type 0) (b : Bool) (e : Entry) (block : List Entry) → P e → SwitchAdds b e block
    → AllByRecursion P block
switch_each P true e block each is = rw is (each, tt)
switch_each P false e block each is = rw is tt

close_each : (P : Entry → Type 0) (closed : Bool) (block : List Entry) → EachOf events.Close P
    → CloseAddsWhere closed block → AllByRecursion P block
close_each P true block each is = rw is tt
close_each P false block each is = with_results P entries.Close block each is

pub work_each : (P : Entry → Type 0) (k : LogState) (c : ClientId) (work : Work) (r : Result ℕ WorkFault)
    (block : List Entry) → EachOfWork c work P → WorkLogs k c work r block → AllByRecursion P block
work_each P k c work (Ok n) block each logs = rw (work_ok k c work n block logs).2 (each.0 n, tt)
work_each P k c work (Err fault) block each logs =
    in_both (is_full_log k) (λ full. rw full.1 tt) (λ added. rw added.1 (each.1 fault, tt)) logs

brought_each : (P : Entry → Type 0) (k : LogState) (c : ClientId) (work : Work) (r : Answer) (block : List Entry)
    → EachOfWork c work P → Adds k (brings c work) r block → AllByRecursion P block
brought_each P k c work r block each adds =
    let is = work_answer k c work r block adds in
    work_each P k c work is.0 block each (work_adds k c work is.0 block (rw is.1 at adds))

-- what an event adds has only such entries
pub adds_each : (P : Entry → Type 0) (k : LogState) (event : Event) (r : Answer) (block : List Entry) → EachOf event P
    → Adds k event r block → AllByRecursion P block
adds_each P k (events.Join n) (answers.Join (Ok c)) block each adds = rw (join_ok k n c block adds).2 (each.0 c, tt)
adds_each P k (events.Join n) (answers.Join (Err fault)) block each adds = elim (join_refusal k n fault block adds)
    [ inl empty ↦ rw empty tt | inr refused ↦ rw refused (each.1 fault, tt) ]
adds_each P k (events.Submit c request) r block each adds =
    brought_each P k c (works.Submit request) r block each adds
adds_each P k (events.Discover c kind) r block each adds = brought_each P k c (works.Discover kind) r block each adds
adds_each P k events.Pause (answers.Pause (Ok x)) block each adds =
    switch_each P (can_pause k.opening k.entries) entries.Pause block each adds.1
adds_each P k events.Pause (answers.Pause (Err x)) block each adds = rw adds.1 tt
adds_each P k events.Resume (answers.Resume (Ok x)) block each adds =
    switch_each P (can_resume k.opening k.entries) entries.Resume block each adds.1
adds_each P k events.Resume (answers.Resume (Err x)) block each adds = rw adds.1 tt
adds_each P k events.Close answers.Close block each adds =
    close_each P (is_closed k.opening k.entries) block each adds
adds_each P k events.Take (answers.Take (Ok (Some frame))) block each adds =
    rw adds.1.2 (each adds.1.0 frame, tt)
adds_each P k events.Take (answers.Take (Ok None)) block each adds = rw adds.1.1 tt
adds_each P k events.Take (answers.Take (Err x)) block each adds = rw adds.1 tt
adds_each P k (events.Deliver event) (answers.Deliver (Ok x)) block each adds =
    with_results P (entries.Came event) block each adds.1
adds_each P k (events.Deliver event) (answers.Deliver (Err e)) block each adds = rw adds.2 tt
adds_each P k (events.Collect c) (answers.Collect (Ok (Some outcome))) block each adds = rw adds.1 (each, tt)
adds_each P k (events.Collect c) (answers.Collect (Ok None)) block each adds = rw adds.1 tt
adds_each P k (events.Collect c) (answers.Collect (Err x)) block each adds = rw adds.1 tt
adds_each P k _ _ block each adds = absurd adds
