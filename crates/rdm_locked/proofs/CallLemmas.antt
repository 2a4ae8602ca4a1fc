-- How many clients and calls each block of a session's calls brings.
use Rattle.std.proofs.Common.{◌≡◌, ℕ, ◌+◌, ◌≤◌, inl, inr, if◌then◌else◌, cond, Bool, true, false, not, List, [], ◌∷◌}
use Rattle.std.proofs.Common.{◌++◌, length, refl, ap, ◌∙◌, length-append, arith, None, Some}
use Rattle.std.specs.Prelude.{Result, Ok, Err, Option}
use Rattle.std.specs.List.{filter, AllByRecursion}
use Rattle.std.proofs.lemmas.List.Elements.{filter-append}
use Rattle.std.proofs.lemmas.List.Filters.{length-filter_both}
use Rattle.arrayvec.specs.ArrayVec.{ArrayVec}
use Rattle.rdm_join.specs.declared.event.LineEvent.{LineEvent}
use Rattle.rdm_log.specs.declared.entry.ClientId.{ClientId}
use Rattle.rdm_log.specs.declared.entry.Opening.{Opening}
use Rattle.rdm_log.specs.declared.entry.Entry.{Entry}
use Rattle.rdm_log.specs.log.Entries.{join_of, joins}
use Rattle.rdm_log.specs.log.History.{next_client}
use Rattle.rdm_log.specs.log.LogState.{LogState, is_full_log}
use Rattle.rdm_log.specs.declared.entry.Entry.TheVariants.{Join, Accept, Ask, Collect}
use Rattle.rdm_log.specs.declared.fault.JoinFault.{JoinFault}
use Rattle.rdm_log.specs.declared.fault.WorkFault.{WorkFault}
use Rattle.rdm_log.specs.declared.fault.WorkFault.TheVariants as work_faults
use Rattle.rdm_log.specs.declared.fault.LogFull.{LogFull}
use Rattle.rdm_log.specs.declared.fault.NotAsked.{NotAsked}
use Rattle.rdm_log.specs.declared.outcome.Outcome.{Outcome}
use Rattle.rdm_log.specs.log.Refusals.{work_fault}
use Rattle.rdm_log.specs.promises.Blocks.{GrowsBy, UnlessFull, submit_refused, ask_refused, work_accepted, work_refused}
use Rattle.rdm_log.specs.promises.Blocks.{JoinLogs, WorkLogs, PauseLogs, ResumeLogs, TakeLogs, CloseAdds, DeliverAdds}
use Rattle.rdm_log.specs.promises.Blocks.{CollectAdds, WorkAdds}
use Rattle.rdm_log.proofs.PromiseLemmas.BlockLemmas.{join_ok, join_refusal, work_ok}
use Rattle.rdm_log.specs.declared.work.Work.{Work}
use Rattle.rdm_log.specs.declared.work.Work.TheVariants as works
use Rattle.rdm_log.proofs.LogLemmas.PushLemmas.{joins-append}
use Rattle.rdm_log.specs.declared.event.Event.{Event}
use Rattle.rdm_log.specs.declared.event.Event.TheVariants as events
use Rattle.rdm_log.specs.declared.event.Answer.{Answer}
use Rattle.rdm_log.specs.declared.event.Answer.TheVariants as answers
use Rattle.rdm_log.specs.promises.Explains.{Adds}
use Rattle.rdm_log.proofs.PromiseLemmas.EntriesOf.{EachOf, adds_each}
use Rattle.rdm_locked.specs.Calls.{is_call, count_calls, refused_calls, calls_logged}

-- there are no more calls than entries
pub calls_few : (h : List Entry) → count_calls h ≤ length h
unfolding count_calls
calls_few h = omega (arith, length-filter_both is_call (λ (e : Entry). not (is_call e)) (λ _. refl) h)

pub calls_append : (h k : List Entry) → count_calls (h ++ k) ≡ count_calls h + count_calls k
unfolding count_calls
calls_append h k = omega (
  arith,
  ap length (filter-append is_call h k),
  length-append (filter is_call h) (filter is_call k),
)

-- a block with this many calls, and this many joins
pub record Brings (calls clients : ℕ) (block : List Entry) : Type 0 where
  pub calls_are : count_calls block ≡ calls
  pub clients_are : length (joins block) ≡ clients

-- what old counts, and this many more, new counts
pub record CountsCalls (old : LogState) (calls clients : ℕ) (new : LogState) : Type 0 where
  pub calls_are : count_calls new.entries ≡ count_calls old.entries + calls
  pub clients_are : next_client new.opening new.entries ≡ next_client old.opening old.entries + clients

pub grown_counts : (old : LogState) (Adds : List Entry → Type 0) (new : LogState) (n m : ℕ) → GrowsBy old Adds new
    → ((block : List Entry) → Adds block → Brings n m block) → CountsCalls old n m new
grown_counts old Adds new n m grows brings =
    let b = brings grows.block grows.adds in
    let h = old.entries in
    let places = old.opening.places.items in
    let entries : new.entries ≡ h ++ grows.block = ap (λ k. k.entries) grows.grows in
    let opening : new.opening ≡ old.opening = ap (λ k. k.opening) grows.grows in
    record {
      calls_are = rw entries (omega (arith, calls_append h grows.block, b.calls_are));
      clients_are = rw (entries, opening, joins-append h grows.block)
          (omega (
            arith,
            length-append places (joins h ++ joins grows.block),
            length-append (joins h) (joins grows.block),
            length-append places (joins h),
            b.clients_are,
          ));
    }

-- no entry, one entry, and one before others
none : Brings 0 0 []
unfolding count_calls joins
none = record { calls_are = refl; clients_are = refl }

one : (e : Entry) → Brings (if is_call e then 1 else 0) (length (joins (e ∷ []))) (e ∷ [])
unfolding count_calls
one e = record { calls_are = by_flag (is_call e); clients_are = refl }
  where
    by_flag : (b : Bool) → length (cond b (e ∷ []) []) ≡ (if b then 1 else 0)
    by_flag true = refl
    by_flag false = refl

before : (e : Entry) (block : List Entry) → is_call e ≡ false → join_of e ≡ None → Brings 0 0 block
    → Brings 0 0 (e ∷ block)
unfolding count_calls joins
before e block no_call no_join b = record { calls_are = rw no_call b.calls_are; clients_are = rw no_join b.clients_are }

-- entries that are no calls and no joins of a client
abbrev IsNoCall : Entry → Type 0
IsNoCall e = (is_call e ≡ false) × (join_of e ≡ None)

no_calls : (block : List Entry) → AllByRecursion IsNoCall block → Brings 0 0 block
no_calls [] all = none
no_calls (e ∷ block) all = before e block all.0.0 all.0.1 (no_calls block all.1)

no_call_added : (k : LogState) (event : Event) (r : Answer) (block : List Entry) → EachOf event IsNoCall
    → Adds k event r block → Brings 0 0 block
no_call_added k event r block each adds = no_calls block (adds_each IsNoCall k event r block each adds)

nothing : (block : List Entry) → block ≡ [] → Brings 0 0 block
nothing block is = rw is none

-- a join
pub join_brings : (k : LogState) (n : ℕ) (c : ClientId) (block : List Entry) → JoinLogs k n (Ok c) block
    → Brings 0 1 block
unfolding joins
join_brings k n c block is = rw (join_ok k n c block is).2 (one (Join c n))

pub join_refused_brings : (k : LogState) (n : ℕ) (fault : JoinFault) (block : List Entry)
    → JoinLogs k n (Err fault) block → Brings 0 0 block
unfolding joins
join_refused_brings k n fault block is = elim (join_refusal k n fault block is)
    [ inl empty ↦ nothing block empty | inr refused ↦ rw refused (one _) ]

-- work: no other fault than LogFull is that one
no_full_log : (a b c : Bool) → ◌≡◌ {A = Option WorkFault}
    (if a then Some work_faults.Closed else (if b then Some work_faults.UnknownClient else
    (if c then Some work_faults.Full else None))) (Some work_faults.LogFull) → ⊥
no_full_log true b c is = let same : work_faults.Closed ≡ work_faults.LogFull = cc in cc
no_full_log false true c is = let same : work_faults.UnknownClient ≡ work_faults.LogFull = cc in cc
no_full_log false false true is = let same : work_faults.Full ≡ work_faults.LogFull = cc in cc
no_full_log false false false is = cc

pub no_full_work : (o : Opening) (h : List Entry) (c : ℕ) (work : Work)
    → work_fault o h c work ≡ Some work_faults.LogFull → ⊥
no_full_work o h c (works.Submit request) is = no_full_log _ _ _ is
no_full_work o h c (works.Discover kind) is = no_full_log _ _ _ is

counted_call : (fault : WorkFault) → (fault ≡ work_faults.LogFull → ⊥) → refused_calls fault ≡ 1
counted_call work_faults.Closed other = refl
counted_call work_faults.UnknownClient other = refl
counted_call work_faults.Full other = refl
counted_call work_faults.LogFull other = absurd (other refl)

accepted_brings : (c : ClientId) (n : ℕ) (work : Work) → Brings 1 0 (work_accepted c n work ∷ [])
unfolding joins
accepted_brings c n (works.Submit request) = one (Accept c n request)
accepted_brings c n (works.Discover kind) = one (Ask c n kind)

refused_brings : (c : ClientId) (work : Work) (fault : WorkFault) → Brings 1 0 (work_refused c work fault ∷ [])
unfolding joins
refused_brings c (works.Submit request) fault = one (submit_refused c request fault)
refused_brings c (works.Discover kind) fault = one (ask_refused c kind fault)

pub work_brings : (k : LogState) (c : ClientId) (work : Work) (answer : Result ℕ WorkFault) (block : List Entry)
    → WorkLogs k c work answer block → Brings (calls_logged answer) 0 block
work_brings k c work (Ok n) block is = rw (work_ok k c work n block is).2 (accepted_brings c n work)
work_brings k c work (Err fault) block is = by_flag (is_full_log k) is
  where
    full : ◌≡◌ {A = Result ℕ WorkFault} (Err fault) (Err work_faults.LogFull) → fault ≡ work_faults.LogFull
    full same = cc

    by_flag : (b : Bool) → UnlessFull b (◌≡◌ {A = Result ℕ WorkFault} (Err fault) (Err work_faults.LogFull)
        × (block ≡ [])) (WorkAdds k.opening k.entries c work (Err fault) block)
        → Brings (refused_calls fault) 0 block
    by_flag true refused = rw (full refused.0) (nothing block refused.1)
    by_flag false refused = rw (
      counted_call fault (λ is_full. no_full_work k.opening k.entries c.0 work (refused.0 ∙ ap Some is_full)),
      refused.1,
    ) (refused_brings c work fault)

-- a collect
pub collect_brings : (o : Opening) (h : List Entry) (c : ClientId) (outcome : Outcome) (block : List Entry)
    → CollectAdds o h c (Some outcome) block → Brings 1 0 block
unfolding joins
collect_brings o h c outcome block is = rw is.1 (one (Collect c))

-- the calls that are no client's
pub pause_brings : (k : LogState) (answer : Result (Unit {0}) LogFull) (block : List Entry) → PauseLogs k answer block
    → Brings 0 0 block
pause_brings k answer block is = no_call_added k events.Pause (answers.Pause answer) block (refl, refl) is

pub resume_brings : (k : LogState) (answer : Result (Unit {0}) LogFull) (block : List Entry) → ResumeLogs k answer block
    → Brings 0 0 block
resume_brings k answer block is = no_call_added k events.Resume (answers.Resume answer) block (refl, refl) is

pub close_brings : (k : LogState) (block : List Entry) → CloseAdds k.opening k.entries block → Brings 0 0 block
close_brings k block is = no_call_added k events.Close answers.Close block
    ((refl, refl), (λ n status len. (refl, refl), λ n run fault. (refl, refl))) is

pub take_brings : (k : LogState) (answer : Result (Option (ArrayVec ℕ)) LogFull) (block : List Entry)
    → TakeLogs k answer block → Brings 0 0 block
take_brings k answer block is =
    no_call_added k events.Take (answers.Take answer) block (λ owner frame. (refl, refl)) is

pub deliver_brings : (k : LogState) (event : LineEvent) (answer : Result (Unit {0}) (NotAsked × LineEvent))
    (block : List Entry) → DeliverAdds k event answer block → Brings 0 0 block
deliver_brings k event answer block is = no_call_added k (events.Deliver event) (answers.Deliver answer) block
    ((refl, refl), (λ n status len. (refl, refl), λ n run fault. (refl, refl))) is
