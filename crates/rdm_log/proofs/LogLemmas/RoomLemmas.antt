-- How much of a log's room an entry uses, what is reserved for later ones among it.
use Rattle.rdm_log.proofs.Common.{◌≡◌, ℕ, ◌+◌, ◌<◌, ◌≤◌, true, false, Option, List, [], ◌∷◌, ◌++◌, length, refl}
use Rattle.rdm_log.proofs.Common.{append_assoc, append-nil, length-drop, drop-append-le, arith, length_push}
use Rattle.rdm_log.proofs.Common.{slice_get_within, ArrayVec, EachAfter, Request, LineEvent, Status, Kind, AgentFault}
use Rattle.rdm_log.proofs.Common.{ClientId, Owner, Opening, Entry, Join, Refuse, Accept, Ask, Send, Came, Finish}
use Rattle.rdm_log.proofs.Common.{Answer, Collect, Pause, Resume, Close, accepts, asks, finishes, answers, collectors}
use Rattle.rdm_log.proofs.Common.{awaited, unfinished, unanswered, MayFollow}
use Rattle.rdm_log.specs.declared.entry.Owner.TheVariants as owners
use Rattle.rdm_log.specs.log.History.{reserved}
use Rattle.rdm_log.proofs.LogLemmas.Grows.{front, pushed}
use Rattle.rdm_log.proofs.LogLemmas.LegalFacts.{legal_facts}
use Rattle.rdm_log.proofs.LogLemmas.AskFacts.{ask_facts}
use Rattle.rdm_log.proofs.LogLemmas.ClientFacts.{client_facts, collects_within}
use Rattle.rdm_log.proofs.LogLemmas.PushLemmas.{pushes}

-- the entries and those that are reserved
abbrev pub used : Opening → List Entry → ℕ
used o h = length h + reserved o h

-- what an entry uses beyond what was reserved for it
abbrev pub added : Entry → ℕ
added (Join c n) = 1
added (Refuse c call cause) = 1
added (Accept c n request) = 3
added (Ask c n kind) = 3
added (Send owner frame) = 2
added Pause = 1
added Resume = 1
added _ = 0

-- what a block uses beyond what was reserved
abbrev pub added_by : List Entry → ℕ
added_by [] = 0
added_by (e ∷ block) = added e + added_by block

-- each kind of entry
used_accept : (o : Opening) (h : List Entry) (c : ClientId) (n : ℕ) (request : Request)
    → length (finishes h) ≤ length (accepts h) → used o (h ++ Accept c n request ∷ []) ≡ used o h + 3
used_accept o h c n request within = simp (pushes, drop-append-le, length_push) (omega arith)

used_ask : (o : Opening) (h : List Entry) (c : ClientId) (n : ℕ) (kind : Kind) → length (answers h) ≤ length (asks h)
    → used o (h ++ Ask c n kind ∷ []) ≡ used o h + 3
used_ask o h c n kind within = simp (pushes, drop-append-le, length_push) (omega arith)

used_send : (o : Opening) (h : List Entry) (owner : Owner) (frame : ArrayVec ℕ) → awaited h ≡ false
    → used o (h ++ Send owner frame ∷ []) ≡ used o h + 2
used_send o h owner frame idle = simp (pushes, length_push, idle) (omega arith)

used_came : (o : Opening) (h : List Entry) (event : LineEvent) → awaited h ≡ true
    → used o (h ++ Came event ∷ []) ≡ used o h + 0
used_came o h event waits = simp (pushes, length_push, waits) (omega arith)

used_finish : (o : Opening) (h : List Entry) (n : ℕ) (status : Status) (len : ℕ) → 0 < length (unfinished h)
    → length (collectors h) ≤ length (finishes h) + length (answers h)
    → used o (h ++ Finish n status len ∷ []) ≡ used o h + 0
used_finish o h n status len some within =
    let some = simp length-drop at some in simp (pushes, length_push, length-drop) (omega arith)

used_answer : (o : Opening) (h : List Entry) (n r : ℕ) (fault : Option AgentFault) → 0 < length (unanswered h)
    → length (collectors h) ≤ length (finishes h) + length (answers h)
    → used o (h ++ Answer n r fault ∷ []) ≡ used o h + 0
used_answer o h n r fault some within =
    let some = simp length-drop at some in simp (pushes, length_push, length-drop) (omega arith)

used_collect : (o : Opening) (h : List Entry) (c : ClientId)
    → length (collectors (h ++ Collect c ∷ []))
    ≤ length (finishes (h ++ Collect c ∷ [])) + length (answers (h ++ Collect c ∷ []))
    → used o (h ++ Collect c ∷ []) ≡ used o h + 0
used_collect o h c within =
    let within = simp (pushes, length_push) at within in simp (pushes, length_push) (omega arith)

-- the Collects of such a log are within its Finishes and Answers
collects_fit : (o : Opening) (h : List Entry) → EachAfter (MayFollow o) h
    → length (collectors h) ≤ length (finishes h) + length (answers h)
collects_fit o h each = collects_within o h (legal_facts o h each) (ask_facts o h each) (client_facts o h each)

-- what an entry uses that may follow
pub used_step : (o : Opening) (h : List Entry) (e : Entry) → EachAfter (MayFollow o) h → MayFollow o h e
    → used o (h ++ e ∷ []) ≡ used o h + added e
used_step o h (Accept c n request) each may = used_accept o h c n request (legal_facts o h each).finished_within
used_step o h (Ask c n kind) each may = used_ask o h c n kind (ask_facts o h each).answered_within
used_step o h (Send (owners.Request n) frame) each may = used_send o h (owners.Request n) frame may.1.not_awaited
used_step o h (Send (owners.Run r) frame) each may = used_send o h (owners.Run r) frame may.1.not_awaited
used_step o h (Came event) each may = used_came o h event may.1
used_step o h (Finish n status len) each may =
    used_finish o h n status len (slice_get_within (unfinished h) 0 may.accepted may.oldest) (collects_fit o h each)
used_step o h (Answer n r fault) each may =
    used_answer o h n r fault (slice_get_within (unanswered h) 0 may.asked may.oldest) (collects_fit o h each)
used_step o h (Collect c) each may =
    used_collect o h c (collects_fit o (h ++ Collect c ∷ []) (pushed o h (Collect c) each may))
used_step o h Close each may = let not_closed = may.1 in simp (pushes, length_push, not_closed) (omega arith)
used_step o h e each may = simp (pushes, length_push) (omega arith)

-- what a block uses
pub used_block : (o : Opening) (h block : List Entry) → EachAfter (MayFollow o) (h ++ block)
    → used o (h ++ block) ≡ used o h + added_by block
used_block o h [] each = rw append-nil (omega arith)
used_block o h (e ∷ block) each =
    omega (
      arith,
      rw (append_assoc h (e ∷ []) block) at (used_block o (h ++ e ∷ []) block
          (rw (append_assoc h (e ∷ []) block) each)),
      used_step o h e (front o h (e ∷ block) each) (each h block e refl),
    )
