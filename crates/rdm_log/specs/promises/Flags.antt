-- What a flag on an answer says, and what its absence says.
use Rattle.std.specs.Prelude.{◌≡◌, ◌⊎◌, ℕ, true, false, List, [], ◌∷◌, ◌++◌, Some, slice_get}
use Rattle.rdm_join.specs.declared.status.Status.{Status}
use Rattle.rdm_log.specs.declared.broken.AnswerKey.{AnswerKey}
use Rattle.rdm_log.specs.declared.entry.Opening.{Opening}
use Rattle.rdm_log.specs.declared.entry.Entry.{Entry}
use Rattle.rdm_log.specs.declared.entry.Entry.TheVariants.{Finish}
use Rattle.rdm_log.specs.log.Entries.{Accepted, accepts}
use Rattle.rdm_log.specs.log.History.{was_sent}
use Rattle.rdm_log.specs.log.BrokenKeys.{is_open}
use Rattle.rdm_log.specs.log.Broken.{key_of, breaks_off, is_whole, head_of_result, broken_keys, may_be_incomplete}

-- request n is a GET of this key
pub record IsGetOf (h : List Entry) (n : ℕ) (key : AnswerKey) : Type 0 where
  pub accepted : Accepted
  pub index : ℕ
  pub stands : slice_get (accepts h) index ≡ Some accepted
  pub number : accepted.number ≡ n
  pub key_is : key_of accepted.request ≡ Some key

-- request n, whose Finish with this status follows h, is a GET of this key that broke off: a frame was sent for it, and
-- its answer wasn't read to the end
pub record BreaksOff (h : List Entry) (n : ℕ) (status : Status) (key : AnswerKey) : Type 0 where
  pub get : IsGetOf h n key
  pub sent : was_sent n h ≡ true
  pub broken : breaks_off status ≡ true

-- request n, whose Finish with this status follows h, is a GET of this key, and its answer was read to the end
pub record AnswersWhole (h : List Entry) (n : ℕ) (status : Status) (key : AnswerKey) : Type 0 where
  pub get : IsGetOf h n key
  pub whole : is_whole status (head_of_result n h) ≡ true

-- among these entries, which follow those of front, is the Finish of a GET whose answer was read to the end
pub record WholeWithin (front entries : List Entry) (key : AnswerKey) : Type 0 where
  pub first : List Entry
  pub last : List Entry
  pub number : ℕ
  pub status : Status
  pub len : ℕ
  pub stands : entries ≡ first ++ Finish number status len ∷ last
  pub whole : AnswersWhole (front ++ first) number status key

-- the same of a GET that broke off, and after it no answer to a GET of this key was read to the end
pub record BrokenWithin (front entries : List Entry) (key : AnswerKey) : Type 0 where
  pub first : List Entry
  pub last : List Entry
  pub number : ℕ
  pub status : Status
  pub len : ℕ
  pub stands : entries ≡ first ++ Finish number status len ∷ last
  pub broken : BreaksOff (front ++ first) number status key
  pub since : WholeWithin (front ++ (first ++ Finish number status len ∷ [])) last key → ⊥

-- a GET of this key broke off, here or before the first entry, and since then none was read to the end
abbrev pub IsLeftBroken : Opening → List Entry → AnswerKey → Type 0
IsLeftBroken o h key = ((is_open o.broken key ≡ true) × (WholeWithin [] h key → ⊥)) ⊎ BrokenWithin [] h key

-- why request n, whose Finish with this status follows h, is flagged
pub record NeedsFlag (o : Opening) (h : List Entry) (n : ℕ) (status : Status) : Type 0 where
  pub key : AnswerKey
  -- it is a GET whose answer was read to the end
  pub whole : AnswersWhole h n status key
  -- and one of the same broke off, unless the set of keys is inverted
  pub cause : (broken_keys o h).inverted ≡ false → IsLeftBroken o h key

-- A device begins its answer at the first part, unless the last GET of it broke off. So the answer to a GET that isn't
-- flagged has all its parts: after each GET of the same that broke off, another was read to the end.
pub record FlagsHold (o : Opening) (h : List Entry) : Type 0 where
  -- if request m broke off, request n is flagged, or another was read to the end between them
  pub broken : (front middle back : List Entry) (m n : ℕ) (lost status : Status) (none len : ℕ) (key : AnswerKey)
      → h ≡ front ++ Finish m lost none ∷ (middle ++ Finish n status len ∷ back) → BreaksOff front m lost key
      → AnswersWhole (front ++ Finish m lost none ∷ middle) n status key
      → may_be_incomplete o h (Finish n status len) ≡ false → WholeWithin (front ++ Finish m lost none ∷ []) middle key
  -- the same of a GET that broke off before the first entry
  pub opened : (front back : List Entry) (n : ℕ) (status : Status) (len : ℕ) (key : AnswerKey)
      → h ≡ front ++ Finish n status len ∷ back → is_open o.broken key ≡ true → AnswersWhole front n status key
      → may_be_incomplete o h (Finish n status len) ≡ false → WholeWithin [] front key
  -- each flag has its cause
  pub needed : (front back : List Entry) (n : ℕ) (status : Status) (len : ℕ)
      → h ≡ front ++ Finish n status len ∷ back → may_be_incomplete o h (Finish n status len) ≡ true
      → NeedsFlag o front n status
  -- if request m broke off, its key is open at the end, for the next log, or another was read to the end
  pub left : (front back : List Entry) (m : ℕ) (lost : Status) (none : ℕ) (key : AnswerKey)
      → h ≡ front ++ Finish m lost none ∷ back → BreaksOff front m lost key
      → WholeWithin (front ++ Finish m lost none ∷ []) back key ⊎ (is_open (broken_keys o h) key ≡ true)
  -- the same of a GET that broke off before the first entry
  pub left_open : (key : AnswerKey) → is_open o.broken key ≡ true
      → WholeWithin [] h key ⊎ (is_open (broken_keys o h) key ≡ true)
