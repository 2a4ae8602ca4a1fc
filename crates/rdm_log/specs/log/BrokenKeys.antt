-- A set of keys that lists at most MOST_BROKEN. A key that was opened and not closed since is always in it.
use Rattle.std.specs.Prelude.{Bool, true, false, ◌&&◌, not, List, [], ◌∷◌, ◌++◌, length, drop, filter, ◌==◌, nat_lt}
use Rattle.std.specs.Prelude.{if◌then◌else◌}
use Rattle.std.specs.List.{list_any}
use Rattle.rdm_log.specs.declared.broken.AnswerKey.{AnswerKey}
use Rattle.rdm_log.specs.declared.broken.TheConstants.{MOST_BROKEN}

-- The keys that are open. Once there are more than MOST_BROKEN, the set is inverted: from then on it lists the
-- MOST_BROKEN keys that were closed last, and each other counts as open.
pub record BrokenKeys : Type 0 where
  pub inverted : Bool
  pub keys : List AnswerKey

-- no key is open
abbrev pub none_open : BrokenKeys
none_open = record { inverted = false; keys = [] }

-- whether two keys are the same
abbrev pub same_key : AnswerKey → AnswerKey → Bool
same_key a b = (a.target == b.target) && ((a.sub_device == b.sub_device) && (a.pid == b.pid))

-- whether a list has a key
abbrev pub lists : AnswerKey → List AnswerKey → Bool
lists key keys = list_any (same_key key) keys

-- the list without a key
abbrev pub without : AnswerKey → List AnswerKey → List AnswerKey
without key keys = filter (λ k. not (same_key key k)) keys

-- whether a key is open
abbrev pub is_open : BrokenKeys → AnswerKey → Bool
is_open b key = if b.inverted then not (lists key b.keys) else lists key b.keys

-- a key as the newest of those that aren't inverted; if they are MOST_BROKEN already, all keys count as open
abbrev pub listed_open : AnswerKey → List AnswerKey → BrokenKeys
listed_open key others =
    if nat_lt (length others) MOST_BROKEN then record { inverted = false; keys = others ++ key ∷ [] }
    else record { inverted = true; keys = [] }

-- the set after a key was opened
abbrev pub with_open : AnswerKey → BrokenKeys → BrokenKeys
with_open key b =
    if b.inverted then record { inverted = true; keys = without key b.keys } else listed_open key (without key b.keys)

-- a key as the newest of those that were closed; if they are MOST_BROKEN already, the oldest is dropped
abbrev pub listed_closed : AnswerKey → List AnswerKey → BrokenKeys
listed_closed key others =
    record {
      inverted = true;
      keys = (if nat_lt (length others) MOST_BROKEN then others else drop 1 others) ++ key ∷ [];
    }

-- the set after a key was closed
abbrev pub with_closed : AnswerKey → BrokenKeys → BrokenKeys
with_closed key b =
    if b.inverted then listed_closed key (without key b.keys)
    else record { inverted = false; keys = without key b.keys }
