-- What the blocks of a session's joins and of its clients' work say if the log isn't full, and which entries they have.
use Rattle.rdm_log.proofs.Common.{◌≡◌, ℕ, Bool, true, false, List, [], ◌∷◌, refl, ap, inl, inr, ◌⊎◌, Result, Ok, Err}
use Rattle.rdm_log.proofs.Common.{Request, ClientId, Entry, Work, WorkFault, LogState, is_full_log, join_refused}
use Rattle.rdm_log.proofs.Common.{WorkAdds, WorkLogs, Adds, brings, answer_to}
use Rattle.rdm_log.specs.declared.event.Answer.{Answer}
use Rattle.rdm_log.specs.declared.event.Answer.TheVariants as answers
use Rattle.rdm_log.specs.declared.fault.JoinFault.{JoinFault}
use Rattle.rdm_log.specs.declared.fault.WorkFault.TheVariants.{Full, LogFull}
use Rattle.rdm_log.specs.declared.work.Work.TheVariants.{Submit, Discover}
use Rattle.rdm_log.specs.promises.Blocks.{JoinAdds, UnlessFull, JoinLogs}

-- what isn't refused for a full log
not_refused : {A B : Type 0} (full : Bool) → (A → ⊥) → UnlessFull full A B → B
not_refused true never is = absurd (never is)
not_refused false never is = is

-- what follows in either case
in_each : {A B C D : Type 0} (full : Bool) → (A → C) → (B → D) → UnlessFull full A B → UnlessFull full C D
in_each true refused added is = refused is
in_each false refused added is = added is

pub in_both : {A B C : Type 0} (full : Bool) → (A → C) → (B → C) → UnlessFull full A B → C
in_both true refused added is = refused is
in_both false refused added is = added is

pub join_ok : (k : LogState) (n : ℕ) (c : ClientId) (block : List Entry) → JoinLogs k n (Ok c) block
    → JoinAdds k.opening k.entries n (Ok c) block
join_ok k n c block is = not_refused (is_full_log k) (λ refused. let same = refused.0 in cc) is

-- what a refused join leaves: nothing, or its entry
pub join_refusal : (k : LogState) (n : ℕ) (fault : JoinFault) (block : List Entry) → JoinLogs k n (Err fault) block
    → (block ≡ []) ⊎ (block ≡ join_refused n fault ∷ [])
join_refusal k n fault block is =
    in_both (is_full_log k) (λ refused. inl refused.1) (λ added. inr added.1) is

-- work that is accepted, or refused because its client has as much as it may
pub work_ok : (k : LogState) (c : ClientId) (work : Work) (n : ℕ) (block : List Entry) → WorkLogs k c work (Ok n) block
    → WorkAdds k.opening k.entries c work (Ok n) block
work_ok k c work n block is = not_refused (is_full_log k) (λ refused. let same = refused.0 in cc) is

pub work_full : (k : LogState) (c : ClientId) (work : Work) (block : List Entry) → WorkLogs k c work (Err Full) block
    → WorkAdds k.opening k.entries c work (Err Full) block
work_full k c work block is = not_refused (is_full_log k) (λ refused. never refused.0) is
  where
    never : ◌≡◌ {A = Result ℕ WorkFault} (Err Full) (Err LogFull) → ⊥
    never same = let faults : Full ≡ LogFull = cc in cc

-- a submit is work
same_fault : (fault : WorkFault) (request : Request)
    → ◌≡◌ {A = Result ℕ (WorkFault × Request)} (Err (fault, request)) (Err (LogFull, request))
    → ◌≡◌ {A = Result ℕ WorkFault} (Err fault) (Err LogFull)
same_fault fault request same =
    let pair : ◌≡◌ {A = WorkFault × Request} (fault, request) (LogFull, request) = cc in ap (λ p. Err p.0) pair

same_request : (e : WorkFault × Request) (request : Request)
    → ◌≡◌ {A = Result ℕ (WorkFault × Request)} (Err e) (Err (LogFull, request)) → e.1 ≡ request
same_request e request same = let pair : e ≡ (LogFull, request) = cc in ap (λ p. p.1) pair

pub work_adds : (k : LogState) (c : ClientId) (work : Work) (r : Result ℕ WorkFault) (block : List Entry)
    → Adds k (brings c work) (answer_to work r) block → WorkLogs k c work r block
work_adds k c (Submit request) (Ok n) block adds =
    in_each (is_full_log k) (λ full. absurd (never full.0)) (λ added. added) adds
  where
    never : ◌≡◌ {A = Result ℕ (WorkFault × Request)} (Ok n) (Err (LogFull, request)) → ⊥
    never same = cc
work_adds k c (Submit request) (Err fault) block adds =
    in_each (is_full_log k) (λ full. (same_fault fault request full.0, full.1)) (λ added. (added.0, added.2)) adds
work_adds k c (Discover kind) r block adds = adds

-- an answer to work is a number, or a fault with which a request is returned
pub work_answer : (k : LogState) (c : ClientId) (work : Work) (answer : Answer) (block : List Entry)
    → Adds k (brings c work) answer block → (r : Result ℕ WorkFault) × (answer ≡ answer_to work r)
work_answer k c (Submit request) (answers.Submit (Ok n)) block adds = (Ok n, refl)
work_answer k c (Submit request) (answers.Submit (Err e)) block adds =
    (Err e.0, ap (λ (r : Request). answers.Submit (Err (e.0, r))) returned)
  where
    returned : e.1 ≡ request
    returned = in_both (is_full_log k) (λ full. same_request e request full.0) (λ added. added.1) adds
work_answer k c (Submit request) _ block adds = absurd adds
work_answer k c (Discover kind) (answers.Discover r) block adds = (r, refl)
work_answer k c (Discover kind) _ block adds = absurd adds
