-- How what a log says about broken answers changes with each entry.
use Rattle.rdm_log.proofs.Common.{◌≡◌, ℕ, ◌+◌, ◌<◌, Bool, true, false, List, [], ◌∷◌, ◌++◌, length, None, refl}
use Rattle.rdm_log.proofs.Common.{sym, ap, ◌∙◌, arith, append_assoc, append-nil, length-append, ◌==◌, ◌||◌, list_any}
use Rattle.rdm_log.proofs.Common.{ne_eqb, eq-eqb, list_any-append, AllByRecursion, EachAfter, Status, Opening, Entry}
use Rattle.rdm_log.proofs.Common.{Finish, finishes, MayFollow, ◌⊎◌, inl, inr}
use Rattle.rdm_log.specs.log.Entries.{finished_of}
use Rattle.rdm_log.specs.log.Broken.{Incomplete, after_entry, incomplete, flags_more}
unfoldable use Rattle.rdm_log.specs.log.Broken.{after_entries}
use Rattle.rdm_log.proofs.LogLemmas.LegalFacts.{along, legal_facts, unfinished_number}
use Rattle.rdm_log.proofs.LogLemmas.PushLemmas.{finishes-push}

-- the entries of one list after those of another
pub after_entries-append : (front xs ys : List Entry) (i : Incomplete)
    → after_entries front (xs ++ ys) i ≡ after_entries (front ++ xs) ys (after_entries front xs i)
unfolding after_entries
after_entries-append front [] ys i = ap (λ l. after_entries l ys i) (sym (append-nil front))
after_entries-append front (x ∷ xs) ys i =
    after_entries-append (front ++ x ∷ []) xs ys (after_entry front x i)
    ∙ ap (λ l. after_entries l ys (after_entries (front ++ x ∷ []) xs (after_entry front x i)))
    (append_assoc front (x ∷ []) xs)

-- one entry more
pub incomplete_push : (o : Opening) (h : List Entry) (e : Entry)
    → incomplete o (h ++ e ∷ []) ≡ after_entry h e (incomplete o h)
unfolding after_entries
incomplete_push o h e = after_entries-append [] h (e ∷ []) (record { keys = o.broken; flagged = [] })

-- an entry that is no Finish
pub unchanged : (h : List Entry) (e : Entry) (i : Incomplete) → finished_of e ≡ None → after_entry h e i ≡ i
unchanged h (Finish n status len) i other = cc
unchanged h _ i other = refl

pub incomplete_same : (o : Opening) (h : List Entry) (e : Entry) → finished_of e ≡ None
    → incomplete o (h ++ e ∷ []) ≡ incomplete o h
incomplete_same o h e other = incomplete_push o h e ∙ unchanged h e (incomplete o h) other

-- only finished requests are flagged
below_more : (n m : ℕ) (ns : List ℕ) → n < m → AllByRecursion (λ k. k < n) ns → AllByRecursion (λ k. k < m) ns
below_more n m [] more all = tt
below_more n m (k ∷ ns) more all = (omega (arith, all.0, more), below_more n m ns more all.1)

below_push : (n m : ℕ) (ns : List ℕ) (b : Bool) → n < m → AllByRecursion (λ k. k < n) ns
    → AllByRecursion (λ k. k < m) (flags_more b n ns)
below_push n m ns false more all = below_more n m ns more all
below_push n m [] true more all = (more, tt)
below_push n m (k ∷ ns) true more all = (omega (arith, all.0, more), below_push n m ns true more all.1)

-- an entry is a Finish, or it isn't
pub record IsFinishOf (e : Entry) : Type 0 where
  pub number : ℕ
  pub status : Status
  pub len : ℕ
  pub is : e ≡ Finish number status len

pub which : (e : Entry) → IsFinishOf e ⊎ (finished_of e ≡ None)
which (Finish n status len) = inl (record { number = n; status = status; len = len; is = refl })
which _ = inr refl

-- a Finish that may follow has the next number
pub finish_number : (o : Opening) (h : List Entry) (n : ℕ) (status : Status) (len : ℕ) → EachAfter (MayFollow o) h
    → MayFollow o h (Finish n status len) → n ≡ o.next_request + length (finishes h)
finish_number o h n status len each may =
    may.number ∙ (unfinished_number o h (legal_facts o h each) 0 may.accepted may.oldest ∙ omega arith)

pub flagged_below : (o : Opening) (h : List Entry) → EachAfter (MayFollow o) h
    → AllByRecursion (λ k. k < o.next_request + length (finishes h)) (incomplete o h).flagged
unfolding finishes after_entries
flagged_below o h each = along o Q tt step h each
  where
    Q : List Entry → Type 0
    Q k = AllByRecursion (λ m. m < o.next_request + length (finishes k)) (incomplete o k).flagged

    step : (k : List Entry) (e : Entry) → EachAfter (MayFollow o) k → Q k → MayFollow o k e → Q (k ++ e ∷ [])
    step k e all below may = by_kind (which e)
      where
        by_kind : IsFinishOf e ⊎ (finished_of e ≡ None) → Q (k ++ e ∷ [])
        by_kind (inr other) = rw (incomplete_same o k e other, finishes-push k e, other) below
        by_kind (inl f) =
            rw (
              f.is,
              incomplete_push o k (Finish f.number f.status f.len),
              finishes-push k (Finish f.number f.status f.len),
              length-append (finishes k) _,
            )
            (below_push f.number (o.next_request + (length (finishes k) + 1)) (incomplete o k).flagged _
            (let number = finish_number o k f.number f.status f.len all (rw f.is at may) in omega arith)
            (rw (← finish_number o k f.number f.status f.len all (rw f.is at may)) at below))

-- whether a request is flagged, if the others have lower numbers
pub none_listed : (n : ℕ) (ns : List ℕ) → AllByRecursion (λ k. k < n) ns → list_any (λ m. n == m) ns ≡ false
none_listed n [] all = refl
none_listed n (k ∷ ns) all = rw (ne_eqb n k (λ same. apart same all.0), none_listed n ns all.1) refl
  where
    apart : {a b : ℕ} → a ≡ b → b < a → ⊥
    apart p q = omega arith

pub flag_of_new : (n : ℕ) (ns : List ℕ) (b : Bool) → AllByRecursion (λ k. k < n) ns
    → list_any (λ m. n == m) (flags_more b n ns) ≡ b
flag_of_new n ns false all = none_listed n ns all
flag_of_new n ns true all =
    list_any-append (λ m. n == m) ns (n ∷ []) ∙ rw (eq-eqb n n refl, none_listed n ns all) refl

pub flag_of_old : (n m : ℕ) (ns : List ℕ) (b : Bool) → m < n
    → list_any (λ k. m == k) (flags_more b n ns) ≡ list_any (λ k. m == k) ns
flag_of_old n m ns false less = refl
flag_of_old n m ns true less =
    list_any-append (λ k. m == k) ns (n ∷ [])
    ∙ rw (ne_eqb m n (λ same. apart same less)) (or_false (list_any (λ k. m == k) ns))
  where
    apart : {a b : ℕ} → a ≡ b → a < b → ⊥
    apart p q = omega arith

    or_false : (c : Bool) → (c || (false || false)) ≡ c
    or_false true = refl
    or_false false = refl
