-- An answer that isn't flagged has all its parts, and a flag has its cause.
use Rattle.rdm_log.proofs.Common.{◌≡◌, ℕ, ◌+◌, Bool, true, false, List, [], ◌∷◌, ◌++◌, length, Option, Some, None, refl}
use Rattle.rdm_log.proofs.Common.{sym, ap, ◌∙◌, subst, arith, append_assoc, slice_get, ◌⊎◌, inl, inr, ◌&&◌, ◌||◌, ◌==◌}
use Rattle.rdm_log.proofs.Common.{list_any, list_any-append, eq-eqb, false≢true, same_Some}
use Rattle.rdm_log.proofs.Common.{if◌then◌else◌, EachAfter, Status, Opening, Entry, Finish, Accepted, accepts, finishes}
use Rattle.rdm_log.proofs.Common.{MayFollow, Legal, append-nil, ◌<◌, length-append, Completed, drop}
use Rattle.rdm_log.proofs.LogLemmas.PushLemmas.{finishes-push}
use Rattle.rdm_join.specs.declared.joiner.ReplyHead.{ReplyHead}
use Rattle.rdm_log.specs.declared.broken.AnswerKey.{AnswerKey}
use Rattle.rdm_log.specs.log.Entries.{finished_of}
use Rattle.rdm_log.specs.log.History.{unfinished, was_sent}
use Rattle.rdm_log.specs.log.BrokenKeys.{BrokenKeys, is_open, same_key, with_open, with_closed}
use Rattle.rdm_log.specs.log.Broken.{Incomplete, key_of, key_of_first, head_of_result, is_whole, breaks_off, after_end}
use Rattle.rdm_log.specs.log.Broken.{after_entry, after_finish, is_end_flagged, flags_more, incomplete}
use Rattle.rdm_log.specs.log.Broken.{may_be_incomplete, broken_keys}
unfoldable use Rattle.rdm_log.specs.log.Broken.{after_entries}
use Rattle.rdm_log.specs.promises.Flags.{IsGetOf, BreaksOff, AnswersWhole, WholeWithin, BrokenWithin, FlagsHold}
use Rattle.rdm_log.specs.promises.Flags.{IsLeftBroken, NeedsFlag}
use Rattle.rdm_log.proofs.LogLemmas.Grows.{front as front_of}
use Rattle.rdm_log.proofs.LogLemmas.LegalFacts.{legal_facts, unfinished_index, LogFacts}
use Rattle.rdm_log.proofs.LogLemmas.BrokenLemmas.{after_entries-append, which, IsFinishOf, finish_number}
use Rattle.rdm_log.proofs.LogLemmas.BrokenLemmas.{flag_of_new, flag_of_old, flagged_below, unchanged}
use Rattle.rdm_log.proofs.LogLemmas.KeyLemmas.{same_from, opens_own, opens_none_else, closes_none_else}
use Rattle.rdm_log.proofs.LogLemmas.KeyLemmas.{closes_own}
use Rattle.rdm_log.proofs.LogLemmas.KeyLemmas.{opened_before, closed_before, inverted_of}
use Rattle.std.proofs.lemmas.Bool.{and_parts}
use Rattle.std.proofs.Math.Bool.{or-true}
use Rattle.rdm_wire.proofs.EachAfterLemmas.{no_element}

-- the request of a Finish is the oldest unfinished one
key_is_first : (o : Opening) (h : List Entry) (n : ℕ) (status : Status) (len : ℕ) (key : AnswerKey)
    → EachAfter (MayFollow o) h → MayFollow o h (Finish n status len) → IsGetOf h n key
    → key_of_first (unfinished h) ≡ Some key
key_is_first o h n status len key each may get =
    rw may.oldest (ap (λ (a : Accepted). key_of a.request) same ∙ get.key_is)
  where
    facts : LogFacts o h
    facts = legal_facts o h each

    index : get.index ≡ length (finishes h) + 0
    index =
        let here = facts.accept_numbers get.index get.accepted get.stands in
        let there = facts.accept_numbers (length (finishes h) + 0) may.accepted
        (unfinished_index h 0 may.accepted may.oldest) in
        let one = get.number in let two = may.number in omega arith

    same : may.accepted ≡ get.accepted
    same =
        same_Some may.accepted get.accepted
        (sym (unfinished_index h 0 may.accepted may.oldest) ∙ (ap (λ i. slice_get (accepts h) i) (sym index)
        ∙ get.stands))

first_is_get : (o : Opening) (h : List Entry) (n : ℕ) (status : Status) (len : ℕ) (key : AnswerKey)
    → MayFollow o h (Finish n status len) → key_of_first (unfinished h) ≡ Some key → IsGetOf h n key
first_is_get o h n status len key may is = record {
  accepted = may.accepted;
  index = length (finishes h) + 0;
  stands = unfinished_index h 0 may.accepted may.oldest;
  number = sym may.number;
  key_is = rw may.oldest at is;
}

-- one entry more at the front of a block
whole_later : (front : List Entry) (e : Entry) (entries : List Entry) (key : AnswerKey)
    → WholeWithin (front ++ e ∷ []) entries key → WholeWithin front (e ∷ entries) key
whole_later front e entries key w = record {
  first = e ∷ w.first;
  last = w.last;
  number = w.number;
  status = w.status;
  len = w.len;
  stands = ap (λ l. e ∷ l) w.stands;
  whole = subst (λ l. AnswersWhole l w.number w.status key) (append_assoc front (e ∷ []) w.first) w.whole;
}

broken_later : (front : List Entry) (e : Entry) (entries : List Entry) (key : AnswerKey)
    → BrokenWithin (front ++ e ∷ []) entries key → BrokenWithin front (e ∷ entries) key
broken_later front e entries key w = record {
  first = e ∷ w.first;
  last = w.last;
  number = w.number;
  status = w.status;
  len = w.len;
  stands = ap (λ l. e ∷ l) w.stands;
  broken = subst (λ l. BreaksOff l w.number w.status key) (append_assoc front (e ∷ []) w.first) w.broken;
  since = subst (λ l. WholeWithin l w.last key → ⊥)
      (append_assoc front (e ∷ []) (w.first ++ Finish w.number w.status w.len ∷ [])) w.since;
}

-- a Finish leaves an open key open, unless it is of a GET of that key whose answer was read to the end
end_leaves : (key : AnswerKey) (own : Option AnswerKey) (sent : Bool) (status : Status) (head : Option ReplyHead)
    (b : BrokenKeys) → is_open b key ≡ true
    → ((own ≡ Some key) × (is_whole status head ≡ true)) ⊎ (is_open (after_end own sent status head b) key ≡ true)
end_leaves key None sent status head b was = inr was
end_leaves key (Some own) sent status head b was = by_whole (is_whole status head) refl
  where
    by_key : (c : Bool) → same_key own key ≡ c → is_whole status head ≡ true
        → ((Some own ≡ Some key) × (is_whole status head ≡ true)) ⊎ (is_open (with_closed own b) key ≡ true)
    by_key true same whole = inl (ap (λ k. Some k) (same_from own key same), whole)
    by_key false other whole = inr (closes_none_else key own b other was)

    by_sent : (c : Bool) → is_open (if c then with_open own b else b) key ≡ true
    by_sent true = opens_none_else key own b was
    by_sent false = was

    by_whole : (c : Bool) → is_whole status head ≡ c
        → ((Some own ≡ Some key) × (is_whole status head ≡ true))
        ⊎ (is_open (if c then with_closed own b else if sent && breaks_off status then with_open own b else b) key
        ≡ true)
    by_whole true whole = by_key (same_key own key) refl whole
    by_whole false whole = inr (by_sent (sent && breaks_off status))

-- so a key stays open over a block, or a GET of it was answered whole there
stays_open : (o : Opening) (front entries : List Entry) (key : AnswerKey) (i : Incomplete)
    → EachAfter (MayFollow o) (front ++ entries) → is_open i.keys key ≡ true
    → WholeWithin front entries key ⊎ (is_open (after_entries front entries i).keys key ≡ true)
unfolding after_entries
stays_open o front [] key i each was = inr was
stays_open o front (e ∷ entries) key i each was =
    by_kind (which e) (λ is. stays_open o (front ++ e ∷ []) entries key (after_entry front e i)
    (rw (append_assoc front (e ∷ []) entries) each) is)
  where
    Goes : Type 0
    Goes = is_open (after_entry front e i).keys key ≡ true
        → WholeWithin (front ++ e ∷ []) entries key
        ⊎ (is_open (after_entries (front ++ e ∷ []) entries (after_entry front e i)).keys key ≡ true)

    Result : Type 0
    Result = WholeWithin front (e ∷ entries) key
        ⊎ (is_open (after_entries (front ++ e ∷ []) entries (after_entry front e i)).keys key ≡ true)

    either : WholeWithin (front ++ e ∷ []) entries key
        ⊎ (is_open (after_entries (front ++ e ∷ []) entries (after_entry front e i)).keys key ≡ true) → Result
    either (inl w) = inl (whole_later front e entries key w)
    either (inr is) = inr is

    by_end : (f : IsFinishOf e) → ((key_of_first (unfinished front) ≡ Some key)
        × (is_whole f.status (head_of_result f.number front) ≡ true))
        ⊎ (is_open (after_end (key_of_first (unfinished front)) (was_sent f.number front) f.status
        (head_of_result f.number front) i.keys) key ≡ true) → Goes → Result
    by_end f (inr is) later = either (later (rw f.is is))
    by_end f (inl whole) later = inl (record {
      first = [];
      last = entries;
      number = f.number;
      status = f.status;
      len = f.len;
      stands = ap (λ x. x ∷ entries) f.is;
      whole = rw append-nil (record {
        get = first_is_get o front f.number f.status f.len key (rw f.is at (each front entries e refl)) whole.0;
        whole = whole.1;
      });
    })

    by_kind : IsFinishOf e ⊎ (finished_of e ≡ None) → Goes → Result
    by_kind (inr other) later = either (later (rw (unchanged front e i other) was))
    by_kind (inl f) later =
        by_end f (end_leaves key (key_of_first (unfinished front)) (was_sent f.number front) f.status
        (head_of_result f.number front) i.keys was) later

-- a request that is flagged stays flagged
still_flagged : (n : ℕ) (front entries : List Entry) (i : Incomplete) → list_any (λ m. n == m) i.flagged ≡ true
    → list_any (λ m. n == m) (after_entries front entries i).flagged ≡ true
unfolding after_entries
still_flagged n front [] i is = is
still_flagged n front (e ∷ entries) i is =
    still_flagged n (front ++ e ∷ []) entries (after_entry front e i) (by_kind (which e))
  where
    more : (m : ℕ) (b : Bool) → list_any (λ k. n == k) (flags_more b m i.flagged) ≡ true
    more m false = is
    more m true = list_any-append (λ k. n == k) i.flagged (m ∷ []) ∙ rw is refl

    by_kind : IsFinishOf e ⊎ (finished_of e ≡ None)
        → list_any (λ m. n == m) (after_entry front e i).flagged ≡ true
    by_kind (inl f) = rw f.is (more f.number _)
    by_kind (inr other) = rw (unchanged front e i other) is

-- what a Finish's flag is, in a log that goes on
flag_is : (o : Opening) (h front back : List Entry) (n : ℕ) (status : Status) (len : ℕ) → Legal o h
    → h ≡ front ++ Finish n status len ∷ back
    → is_end_flagged (key_of_first (unfinished front)) status (head_of_result n front) (incomplete o front).keys ≡ true
    → may_be_incomplete o h (Finish n status len) ≡ true
unfolding after_entries
flag_is o h front back n status len legal is flagged =
    rw (is, after_entries-append [] front (Finish n status len ∷ back) (record { keys = o.broken; flagged = [] }))
    (still_flagged n (front ++ Finish n status len ∷ []) back (after_finish front n status (incomplete o front))
    (here _ flagged))
  where
    here : (b : Bool) → b ≡ true → list_any (λ m. n == m) (flags_more b n (incomplete o front).flagged) ≡ true
    here false flagged = absurd (false≢true flagged)
    here true flagged =
        list_any-append (λ m. n == m) (incomplete o front).flagged (n ∷ [])
        ∙ or_last (list_any (λ m. n == m) (incomplete o front).flagged)
      where
        or_last : (c : Bool) → (c || (n == n || false)) ≡ true
        or_last c = rw (eq-eqb n n refl) (or-true c)

-- a request that broke off wasn't read to the end
not_whole : (status : Status) (head : Option ReplyHead) → breaks_off status ≡ true → is_whole status head ≡ false
not_whole Completed head broken = absurd (false≢true broken)
not_whole _ head broken = refl

after_broken : (own : Option AnswerKey) (key : AnswerKey) (sent : Bool) (status : Status) (head : Option ReplyHead)
    (b : BrokenKeys) → own ≡ Some key → sent ≡ true → breaks_off status ≡ true
    → is_open (after_end own sent status head b) key ≡ true
after_broken own key sent status head b is was_sent_ broken =
    rw (is, was_sent_, not_whole status head broken, broken) (opens_own key b)

end_flagged : (own : Option AnswerKey) (key : AnswerKey) (status : Status) (head : Option ReplyHead) (b : BrokenKeys)
    → own ≡ Some key → is_whole status head ≡ true → is_end_flagged own status head b ≡ is_open b key
end_flagged own key status head b is whole = rw (is, whole) refl

-- what a legal log says of an entry in it, and of those before it
record Stands (o : Opening) (front : List Entry) (e : Entry) : Type 0 where
  each : EachAfter (MayFollow o) front
  may : MayFollow o front e

stands : (o : Opening) (h front back : List Entry) (e : Entry) → EachAfter (MayFollow o) h → h ≡ front ++ e ∷ back
    → Stands o front e
stands o h front back e each is = record {
  each = front_of o front (e ∷ back) (rw is at each);
  may = each front back e is;
}

-- the key of a GET that isn't flagged wasn't open
not_open : (o : Opening) (h front back : List Entry) (n : ℕ) (status : Status) (len : ℕ) (key : AnswerKey) → Legal o h
    → h ≡ front ++ Finish n status len ∷ back → AnswersWhole front n status key
    → may_be_incomplete o h (Finish n status len) ≡ false → is_open (incomplete o front).keys key ≡ true → ⊥
not_open o h front back n status len key legal is whole unflagged open_ =
    false≢true (sym unflagged ∙ flag_is o h front back n status len legal is
    (end_flagged (key_of_first (unfinished front)) key status (head_of_result n front) (incomplete o front).keys
    (key_is_first o front n status len key here.each here.may whole.get) whole.whole ∙ open_))
  where
    here : Stands o front (Finish n status len)
    here = stands o h front back (Finish n status len) legal.each is

-- the key of a GET that broke off stays open, or a GET of it was answered whole
broken_left : (o : Opening) (h front back : List Entry) (m : ℕ) (lost : Status) (none : ℕ) (key : AnswerKey)
    → EachAfter (MayFollow o) h → h ≡ front ++ Finish m lost none ∷ back → BreaksOff front m lost key
    → WholeWithin (front ++ Finish m lost none ∷ []) back key ⊎ (is_open (broken_keys o h) key ≡ true)
unfolding after_entries
broken_left o h front back m lost none key each is broken =
    rw is
    (subst (λ (i : Incomplete). WholeWithin (front ++ e ∷ []) back key ⊎ (is_open i.keys key ≡ true))
    (sym (after_entries-append [] front (e ∷ back) (record { keys = o.broken; flagged = [] })))
    (stays_open o (front ++ e ∷ []) back key (after_entry front e (incomplete o front))
    (rw (append_assoc front (e ∷ []) back, ← is) each) opened))
  where
    e : Entry
    e = Finish m lost none

    here : Stands o front e
    here = stands o h front back e each is

    opened : is_open (after_entry front e (incomplete o front)).keys key ≡ true
    opened =
        after_broken (key_of_first (unfinished front)) key (was_sent m front) lost (head_of_result m front)
        (incomplete o front).keys (key_is_first o front m lost none key here.each here.may broken.get) broken.sent
        broken.broken

broken_flagged : (o : Opening) (h front middle back : List Entry) (m n : ℕ) (lost status : Status) (none len : ℕ)
    (key : AnswerKey) → Legal o h → h ≡ front ++ Finish m lost none ∷ (middle ++ Finish n status len ∷ back)
    → BreaksOff front m lost key → AnswersWhole (front ++ Finish m lost none ∷ middle) n status key
    → may_be_incomplete o h (Finish n status len) ≡ false → WholeWithin (front ++ Finish m lost none ∷ []) middle key
broken_flagged o h front middle back m n lost status none len key legal is broken whole unflagged =
    by_open (broken_left o (front ++ e ∷ middle) front middle m lost none key until refl broken)
  where
    e : Entry
    e = Finish m lost none

    later : h ≡ (front ++ e ∷ middle) ++ Finish n status len ∷ back
    later = is ∙ sym (append_assoc front (e ∷ middle) (Finish n status len ∷ back))

    until : EachAfter (MayFollow o) (front ++ e ∷ middle)
    until = (stands o h (front ++ e ∷ middle) back (Finish n status len) legal.each later).each

    by_open : WholeWithin (front ++ e ∷ []) middle key ⊎ (is_open (broken_keys o (front ++ e ∷ middle)) key ≡ true)
        → WholeWithin (front ++ e ∷ []) middle key
    by_open (inl w) = w
    by_open (inr open_) =
        absurd (not_open o h (front ++ e ∷ middle) back n status len key legal later whole unflagged open_)

opened_flagged : (o : Opening) (h front back : List Entry) (n : ℕ) (status : Status) (len : ℕ) (key : AnswerKey)
    → Legal o h → h ≡ front ++ Finish n status len ∷ back → is_open o.broken key ≡ true
    → AnswersWhole front n status key → may_be_incomplete o h (Finish n status len) ≡ false
    → WholeWithin [] front key
opened_flagged o h front back n status len key legal is was whole unflagged =
    by_open (stays_open o [] front key (record { keys = o.broken; flagged = [] })
    (stands o h front back (Finish n status len) legal.each is).each was)
  where
    by_open : WholeWithin [] front key ⊎ (is_open (incomplete o front).keys key ≡ true) → WholeWithin [] front key
    by_open (inl w) = w
    by_open (inr open_) = absurd (not_open o h front back n status len key legal is whole unflagged open_)

-- a key that is open after a Finish was open before, or this is of a GET of it that broke off
end_opens : (key : AnswerKey) (own : Option AnswerKey) (sent : Bool) (status : Status) (head : Option ReplyHead)
    (b : BrokenKeys) → (after_end own sent status head b).inverted ≡ false
    → is_open (after_end own sent status head b) key ≡ true
    → ((own ≡ Some key) × (sent ≡ true) × (breaks_off status ≡ true))
    ⊎ ((b.inverted ≡ false) × (is_open b key ≡ true))
end_opens key None sent status head b fits is = inr (fits, is)
end_opens key (Some own) sent status head b fits is = by_whole (is_whole status head) fits is
  where
    by_key : (c : Bool) → same_key own key ≡ c → sent ≡ true → breaks_off status ≡ true
        → (with_open own b).inverted ≡ false → is_open (with_open own b) key ≡ true
        → ((Some own ≡ Some key) × (sent ≡ true) × (breaks_off status ≡ true))
        ⊎ ((b.inverted ≡ false) × (is_open b key ≡ true))
    by_key true same was broken fits is = inl (ap (λ k. Some k) (same_from own key same), was, broken)
    by_key false other was broken fits is = inr (opened_before key own b fits other is)

    by_sent : (c d : Bool) → sent ≡ c → breaks_off status ≡ d
        → inverted_of (if c && d then with_open own b else b) ≡ false
        → is_open (if c && d then with_open own b else b) key ≡ true
        → ((Some own ≡ Some key) × (sent ≡ true) × (breaks_off status ≡ true))
        ⊎ ((b.inverted ≡ false) × (is_open b key ≡ true))
    by_sent true true was broken fits is = by_key (same_key own key) refl was broken fits is
    by_sent true false was broken fits is = inr (fits, is)
    by_sent false d was broken fits is = inr (fits, is)

    by_whole : (c : Bool)
        → inverted_of (if c then with_closed own b else if sent && breaks_off status then with_open own b else b)
        ≡ false
        → is_open (if c then with_closed own b else if sent && breaks_off status then with_open own b else b) key
        ≡ true
        → ((Some own ≡ Some key) × (sent ≡ true) × (breaks_off status ≡ true))
        ⊎ ((b.inverted ≡ false) × (is_open b key ≡ true))
    by_whole true fits is = inr (closed_before key own b fits is)
    by_whole false fits is = by_sent sent (breaks_off status) refl refl fits is

-- an answer that was read to the end closes its key
whole_closes : (own : Option AnswerKey) (key : AnswerKey) (sent : Bool) (status : Status) (head : Option ReplyHead)
    (b : BrokenKeys) → own ≡ Some key → is_whole status head ≡ true
    → is_open (after_end own sent status head b) key ≡ false
whole_closes own key sent status head b is whole = rw (is, whole) (closes_own key b)

-- so no answer was read to the end in a block, if the key is open after its first entry, and none was after that
none_whole : (o : Opening) (front entries : List Entry) (e : Entry) (key : AnswerKey) (i : Incomplete)
    → EachAfter (MayFollow o) (front ++ e ∷ entries) → is_open (after_entry front e i).keys key ≡ true
    → (WholeWithin (front ++ e ∷ []) entries key → ⊥) → WholeWithin front (e ∷ entries) key → ⊥
none_whole o front entries e key i each is later w =
    by_first w.first w.last w.number w.status w.len w.stands w.whole
  where
    by_end : (n : ℕ) (status : Status) (len : ℕ) → e ≡ Finish n status len → AnswersWhole front n status key → ⊥
    by_end n status len same whole =
        false≢true (sym (whole_closes (key_of_first (unfinished front)) key (was_sent n front) status
        (head_of_result n front) i.keys (key_is_first o front n status len key (front_of o front (e ∷ entries) each)
        (rw same at (each front entries e refl)) whole.get) whole.whole) ∙ (rw same at is))

    by_first : (first last : List Entry) (n : ℕ) (status : Status) (len : ℕ)
        → e ∷ entries ≡ first ++ Finish n status len ∷ last → AnswersWhole (front ++ first) n status key → ⊥
    by_first [] last n status len same whole =
        by_end n status len (same_Some e (Finish n status len) (ap (λ l. slice_get l 0) same))
        (rw append-nil at whole)
    by_first (x ∷ first) last n status len same whole = later (record {
      first = first;
      last = last;
      number = n;
      status = status;
      len = len;
      stands = ap (drop 1) same;
      whole = subst (λ y. AnswersWhole ((front ++ y ∷ []) ++ first) n status key)
          (sym (same_Some e x (ap (λ l. slice_get l 0) same)))
          (rw (append_assoc front (x ∷ []) first) whole);
    })

-- So a key that is open after a block was open before, or a GET of it broke off there. None was answered whole since.
was_open : (o : Opening) (front entries : List Entry) (key : AnswerKey) (i : Incomplete)
    → EachAfter (MayFollow o) (front ++ entries) → (after_entries front entries i).keys.inverted ≡ false
    → is_open (after_entries front entries i).keys key ≡ true
    → BrokenWithin front entries key
    ⊎ ((i.keys.inverted ≡ false) × (is_open i.keys key ≡ true) × (WholeWithin front entries key → ⊥))
unfolding after_entries
was_open o front [] key i each fits is = inr (fits, is, λ w. no_element w.first w.last _ w.stands)
was_open o front (e ∷ entries) key i each fits is =
    either (was_open o (front ++ e ∷ []) entries key (after_entry front e i)
    (rw (append_assoc front (e ∷ []) entries) each) fits is)
  where
    Result : Type 0
    Result = BrokenWithin front (e ∷ entries) key
        ⊎ ((i.keys.inverted ≡ false) × (is_open i.keys key ≡ true) × (WholeWithin front (e ∷ entries) key → ⊥))

    ended : (f : IsFinishOf e) → (WholeWithin (front ++ e ∷ []) entries key → ⊥)
        → (WholeWithin front (e ∷ entries) key → ⊥)
        → ((key_of_first (unfinished front) ≡ Some key) × (was_sent f.number front ≡ true)
        × (breaks_off f.status ≡ true)) ⊎ ((i.keys.inverted ≡ false) × (is_open i.keys key ≡ true)) → Result
    ended f later none (inr before) = inr (before.0, before.1, none)
    ended f later none (inl broken) = inl (record {
      first = [];
      last = entries;
      number = f.number;
      status = f.status;
      len = f.len;
      stands = ap (λ x. x ∷ entries) f.is;
      broken = rw append-nil (record {
        get = first_is_get o front f.number f.status f.len key (rw f.is at (each front entries e refl)) broken.0;
        sent = broken.1;
        broken = broken.2;
      });
      since = subst (λ x. WholeWithin (front ++ x ∷ []) entries key → ⊥) f.is later;
    })

    by_kind : (after_entry front e i).keys.inverted ≡ false → is_open (after_entry front e i).keys key ≡ true
        → (WholeWithin (front ++ e ∷ []) entries key → ⊥) → (WholeWithin front (e ∷ entries) key → ⊥)
        → IsFinishOf e ⊎ (finished_of e ≡ None) → Result
    by_kind fits is later none (inr other) =
        inr (rw (unchanged front e i other) at fits, rw (unchanged front e i other) at is, none)
    by_kind fits is later none (inl f) =
        ended f later none (end_opens key (key_of_first (unfinished front)) (was_sent f.number front) f.status
        (head_of_result f.number front) i.keys (rw f.is at fits) (rw f.is at is))

    either : BrokenWithin (front ++ e ∷ []) entries key
        ⊎ (((after_entry front e i).keys.inverted ≡ false) × (is_open (after_entry front e i).keys key ≡ true)
        × (WholeWithin (front ++ e ∷ []) entries key → ⊥)) → Result
    either (inl w) = inl (broken_later front e entries key w)
    either (inr before) =
        by_kind before.0 before.1 before.2 (none_whole o front entries e key i each before.1 before.2) (which e)

-- a request that is flagged in the end was flagged by its own Finish
flagged_there : (o : Opening) (front entries : List Entry) (n : ℕ) (i : Incomplete)
    → EachAfter (MayFollow o) (front ++ entries) → n < o.next_request + length (finishes front)
    → list_any (λ m. n == m) (after_entries front entries i).flagged ≡ true
    → list_any (λ m. n == m) i.flagged ≡ true
unfolding after_entries
flagged_there o front [] n i each old is = is
flagged_there o front (e ∷ entries) n i each old is =
    by_kind (which e) (flagged_there o (front ++ e ∷ []) entries n (after_entry front e i)
    (rw (append_assoc front (e ∷ []) entries) each) (more (which e)) is)
  where
    more : IsFinishOf e ⊎ (finished_of e ≡ None) → n < o.next_request + length (finishes (front ++ e ∷ []))
    more (inr other) = rw (finishes-push front e, other) old
    more (inl f) =
        rw (f.is, finishes-push front (Finish f.number f.status f.len), length-append (finishes front) _)
        (omega (arith, old))

    by_kind : IsFinishOf e ⊎ (finished_of e ≡ None) → list_any (λ m. n == m) (after_entry front e i).flagged ≡ true
        → list_any (λ m. n == m) i.flagged ≡ true
    by_kind (inr other) is = rw (unchanged front e i other) at is
    by_kind (inl f) is =
        sym (flag_of_old f.number n i.flagged _
        (let number = finish_number o front f.number f.status f.len (front_of o front (e ∷ entries) each)
        (rw f.is at (each front entries e refl)) in omega (arith, old)))
        ∙ (rw f.is at is)

-- what is flagged is a GET whose answer was read to the end, and its key was open
record EndFlagged (own : Option AnswerKey) (status : Status) (head : Option ReplyHead) (b : BrokenKeys) : Type 0 where
  key : AnswerKey
  is : own ≡ Some key
  whole : is_whole status head ≡ true
  was_open_ : is_open b key ≡ true

flagged_end : (own : Option AnswerKey) (status : Status) (head : Option ReplyHead) (b : BrokenKeys)
    → is_end_flagged own status head b ≡ true → EndFlagged own status head b
flagged_end None status head b flagged = absurd (false≢true flagged)
flagged_end (Some key) status head b flagged =
    let both = and_parts (is_whole status head) (is_open b key) flagged in
    record { key = key; is = refl; whole = both.0; was_open_ = both.1 }

own_flag : (o : Opening) (h front back : List Entry) (n : ℕ) (status : Status) (len : ℕ) → Legal o h
    → h ≡ front ++ Finish n status len ∷ back → may_be_incomplete o h (Finish n status len) ≡ true
    → is_end_flagged (key_of_first (unfinished front)) status (head_of_result n front) (incomplete o front).keys ≡ true
unfolding after_entries
own_flag o h front back n status len legal is flagged =
    sym (flag_of_new n (incomplete o front).flagged _
    (rw (← finish_number o front n status len here.each here.may) at (flagged_below o front here.each))) ∙ own
  where
    e : Entry
    e = Finish n status len

    here : Stands o front e
    here = stands o h front back e legal.each is

    each : EachAfter (MayFollow o) ((front ++ e ∷ []) ++ back)
    each = rw (append_assoc front (e ∷ []) back, ← is) legal.each

    old : n < o.next_request + length (finishes (front ++ e ∷ []))
    old =
        rw (finishes-push front e, length-append (finishes front) _)
        (let number = finish_number o front n status len here.each here.may in omega arith)

    own : list_any (λ m. n == m) (after_entry front e (incomplete o front)).flagged ≡ true
    own =
        flagged_there o (front ++ e ∷ []) back n (after_entry front e (incomplete o front)) each old
        (rw (is, after_entries-append [] front (e ∷ back) (record { keys = o.broken; flagged = [] })) at flagged)

flag_needed : (o : Opening) (h front back : List Entry) (n : ℕ) (status : Status) (len : ℕ) → Legal o h
    → h ≡ front ++ Finish n status len ∷ back → may_be_incomplete o h (Finish n status len) ≡ true
    → NeedsFlag o front n status
unfolding after_entries
flag_needed o h front back n status len legal is flagged = record {
  key = own.key;
  whole = record { get = first_is_get o front n status len own.key here.may own.is; whole = own.whole };
  cause = λ fits. either (was_open o [] front own.key (record { keys = o.broken; flagged = [] }) here.each fits
      own.was_open_);
}
  where
    here : Stands o front (Finish n status len)
    here = stands o h front back (Finish n status len) legal.each is

    own : EndFlagged (key_of_first (unfinished front)) status (head_of_result n front) (incomplete o front).keys
    own = flagged_end _ _ _ _ (own_flag o h front back n status len legal is flagged)

    either : BrokenWithin [] front own.key
        ⊎ ((o.broken.inverted ≡ false) × (is_open o.broken own.key ≡ true) × (WholeWithin [] front own.key → ⊥))
        → IsLeftBroken o front own.key
    either (inl w) = inr w
    either (inr before) = inl (before.1, before.2)

pub flags_hold : (o : Opening) (h : List Entry) → Legal o h → FlagsHold o h
flags_hold o h legal = record {
  broken = λ front middle back m n lost status none len key is broken whole unflagged.
      broken_flagged o h front middle back m n lost status none len key legal is broken whole unflagged;
  opened = λ front back n status len key is was whole unflagged.
      opened_flagged o h front back n status len key legal is was whole unflagged;
  needed = λ front back n status len is flagged. flag_needed o h front back n status len legal is flagged;
  left = λ front back m lost none key is broken. broken_left o h front back m lost none key legal.each is broken;
  left_open = λ key was. stays_open o [] h key (record { keys = o.broken; flagged = [] }) legal.each was;
}
