-- UIDs that had many bad answers.
use Rattle.std.specs.Prelude.{ℕ, Bool, ◌||◌, List, Option, Some, None, filter, length, nat_le, take}
use Rattle.rdm_agent.specs.declared.limits.TheConstants.{TRIES}
use Rattle.rdm_explain.specs.declared.exchange.Exchange.{Exchange}
use Rattle.rdm_findings.specs.Ends.{is_garbled_mute}
use Rattle.rdm_findings.specs.Mentions.{is_misread}

-- the exchanges before the one that failed, if one did: nobody is to blame for what follows
abbrev pub before_failure : Option ℕ → List Exchange → List Exchange
before_failure None xs = xs
before_failure (Some at) xs = take at xs

-- whether u was asked alone or muted, and bytes came that are no right answer
abbrev pub is_bad_answer : ℕ → Exchange → Bool
is_bad_answer u e = is_misread u e || is_garbled_mute u e

-- how many of these exchanges are so
abbrev pub bad_answers : ℕ → List Exchange → ℕ
bad_answers u xs = length (filter (is_bad_answer u) xs)

-- whether u had as many bad answers as a mute is tried, before an exchange failed
abbrev pub is_stubborn : Option ℕ → List Exchange → ℕ → Bool
is_stubborn failure xs u = nat_le TRIES (bad_answers u (before_failure failure xs))
