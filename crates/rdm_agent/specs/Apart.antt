-- UIDs that a sweep sets apart, since they can't be read or muted, and the gaps between them.
use Rattle.std.specs.Prelude.{ℕ, ◌+◌, ◌-◌, Bool, false, ◌&&◌, not, List, [], ◌∷◌, filter, fold, length}
use Rattle.std.specs.Prelude.{Option, Some, None, ◌==◌, nat_lt, nat_le, if◌then◌else◌, slice_get}
use Rattle.rdm_agent.specs.declared.belief.Belief.{Belief}
use Rattle.rdm_agent.specs.declared.belief.Alone.TheVariants as alone
use Rattle.rdm_agent.specs.declared.limits.TheConstants.{MOST_APART}
use Rattle.rdm_agent.specs.Beliefs.{last_uid}

-- The UIDs that are set apart, the newest first, without this one
abbrev pub without : ℕ → List ℕ → List ℕ
without u us = filter (λ v. not (v == u)) us

-- whether another UID may be set apart
abbrev pub has_room : List ℕ → Bool
has_room us = nat_lt (length us) MOST_APART

-- The first UID from this one on that isn't set apart. Those from this one on are ascending here
abbrev pub past : ℕ → List ℕ → ℕ
past from us = fold (λ n u. if u == n then n + 1 else n) from us

-- the end of the gap that begins here: just below the next UID set apart. The greatest UID is in no gap
abbrev pub up_to : ℕ → List ℕ → ℕ
up_to lo us = fold (λ n u. if nat_lt lo u && nat_le u n then u - 1 else n) (last_uid - 1) us

-- ALONE. At the end each UID that was set apart is asked alone, the newest first. If none is left the whole range is
-- asked
abbrev pub all_again : Belief → Belief
all_again b = record b {
  base = 0;
  lo = 0;
  at = last_uid + 1;
  need = 0;
  gap = 0;
  top = last_uid;
  alone = alone.No;
  suspect = None;
  found_nothing = false;
  again = false;
}

-- this one is asked, whose turn it is
abbrev pub ask_apart : ℕ → ℕ → Belief → Belief
ask_apart turn u b = record b { alone = alone.Apart; turn = turn; end = u; suspect = None }

-- the newest one is asked
abbrev pub ask_first : List ℕ → Belief → Belief
ask_first [] b = all_again b
ask_first (u ∷ us) b = ask_apart 0 u b

-- the one whose turn it is, if there is one, or else the newest one
abbrev pub ask_next : Option ℕ → List ℕ → ℕ → Belief → Belief
ask_next (Some u) us turn b = ask_apart turn u b
ask_next None us turn b = ask_first us b

-- of these UIDs, the newest first, that at this index is asked
abbrev pub ask_turn : List ℕ → ℕ → Belief → Belief
ask_turn us turn b = ask_next (slice_get us turn) us turn b

-- GAPS. The gap from one UID to another is searched
abbrev pub enter_gap : ℕ → ℕ → Belief → Belief
enter_gap lo top b = record b {
  base = lo;
  lo = lo;
  at = lo;
  need = 0;
  width = 2;
  growth = 2;
  quiet = 0;
  begun = 0;
  back = 1;
  gap = lo;
  top = top;
  alone = alone.No;
  suspect = None;
  found_nothing = false;
  again = false;
}

-- The gap from this UID on is searched. Above the last gap each UID that was set apart is asked alone
abbrev pub gap_from : ℕ → List ℕ → Belief → Belief
gap_from lo us b = if nat_lt lo last_uid then enter_gap lo (up_to lo us) b else ask_first us b

-- the next gap, above this UID that was set apart
abbrev pub next_gap : ℕ → List ℕ → Belief → Belief
next_gap u us b = gap_from (past u us) us b

-- A UID was set apart, the newest of these. What is below it in its gap is asked as a whole first
abbrev pub set_apart : ℕ → List ℕ → Belief → Belief
set_apart u us b =
    if nat_lt b.gap u then record b {
      lo = u;
      at = u;
      need = 0;
      quiet = 0;
      begun = 0;
      top = u - 1;
      alone = alone.No;
      suspect = None;
      found_nothing = false;
      again = false;
      doubt = 0;
    }
    else next_gap u us (record b { doubt = 0 })
