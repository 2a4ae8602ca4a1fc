-- Which of a client's uncollected answers may be incomplete, as the log grows.
use Rattle.rdm_log.proofs.Common.{◌≡◌, ℕ, suc, Bool, List, [], ◌∷◌, ◌++◌, map, None, Some, refl}
use Rattle.rdm_log.proofs.Common.{ap, arith, slice_get, inl, inr, ◌⊎◌, EachAfter, Status}
use Rattle.rdm_log.proofs.Common.{Opening, Entry, Finish, uncollected, MayFollow}
use Rattle.rdm_log.specs.log.Entries.{finished_of}
use Rattle.rdm_log.specs.log.History.{unfinished}
use Rattle.rdm_log.specs.log.Broken.{incomplete, is_flagged, may_be_incomplete, is_end_flagged}
use Rattle.rdm_log.specs.log.Broken.{key_of_first, head_of_result}
use Rattle.rdm_log.proofs.LogLemmas.LegalFacts.{legal_facts}
use Rattle.rdm_log.proofs.LogLemmas.BrokenLemmas.{incomplete_push, incomplete_same, flagged_below, finish_number}
use Rattle.rdm_log.proofs.LogLemmas.BrokenLemmas.{flag_of_new, flag_of_old}
use Rattle.rdm_log.proofs.PromiseLemmas.StableResults.{uncollected_answer, IsFinish, IsReply}

-- an entry that is no Finish changes no flag
pub flags_same : (o : Opening) (h : List Entry) (e : Entry) → finished_of e ≡ None → (xs : List Entry)
    → map (may_be_incomplete o (h ++ e ∷ [])) xs ≡ map (may_be_incomplete o h) xs
flags_same o h e other xs = ap (λ i. map (is_flagged i.flagged) xs) (incomplete_same o h e other)

-- a Finish changes no earlier flag
agree_on : (f g : Entry → Bool) (es : List Entry) → ((i : ℕ) (x : Entry) → slice_get es i ≡ Some x → f x ≡ g x)
    → map f es ≡ map g es
agree_on f g [] at = refl
agree_on f g (x ∷ es) at = rw (at 0 x refl, agree_on f g es (λ i y is. at (suc i) y is)) refl

pub flags_finish : (o : Opening) (h : List Entry) (n : ℕ) (status : Status) (len : ℕ) → EachAfter (MayFollow o) h
    → MayFollow o h (Finish n status len) → (c : ℕ)
    → map (may_be_incomplete o (h ++ Finish n status len ∷ [])) (uncollected o c h)
    ≡ map (may_be_incomplete o h) (uncollected o c h)
flags_finish o h n status len each may c =
    agree_on (may_be_incomplete o (h ++ Finish n status len ∷ [])) (may_be_incomplete o h) (uncollected o c h)
    (λ i x at. by_kind x (uncollected_answer o h (legal_facts o h each) c i x at))
  where
    by_kind : (x : Entry) → IsFinish o h x ⊎ IsReply x
        → may_be_incomplete o (h ++ Finish n status len ∷ []) x ≡ may_be_incomplete o h x
    by_kind x (inl f) =
        rw (f.is, incomplete_push o h (Finish n status len))
        (flag_of_old n f.number (incomplete o h).flagged _
        (let number = finish_number o h n status len each may in let below = f.finished in omega arith))
    by_kind x (inr r) = rw r.is refl

-- and has its own
pub flag_of_finish : (o : Opening) (h : List Entry) (n : ℕ) (status : Status) (len : ℕ) → EachAfter (MayFollow o) h
    → MayFollow o h (Finish n status len)
    → may_be_incomplete o (h ++ Finish n status len ∷ []) (Finish n status len)
    ≡ is_end_flagged (key_of_first (unfinished h)) status (head_of_result n h) (incomplete o h).keys
flag_of_finish o h n status len each may =
    rw (incomplete_push o h (Finish n status len))
    (flag_of_new n (incomplete o h).flagged _
    (rw (← finish_number o h n status len each may) at (flagged_below o h each)))
