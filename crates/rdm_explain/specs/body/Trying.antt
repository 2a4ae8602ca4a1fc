-- Which UIDs were tried, as covered ranges of one UID each.
use Rattle.std.specs.Prelude.{ℕ, Bool, false, ◌||◌, not, List, map}
use Rattle.rdm_wire.specs.Uid.{is_broadcast}
use Rattle.rdm_wire.specs.Honest.{Asked, Heard, Seen}
use Rattle.rdm_wire.specs.Honest.Asked.{Unmute, Branch, Mute, Other}
use Rattle.rdm_wire.specs.Honest.Heard.{Silent, Acked}
use Rattle.rdm_explain.specs.declared.cover.Stretch.{Stretch}
use Rattle.rdm_explain.specs.declared.uids.Uids.{Uids}
use Rattle.rdm_explain.specs.body.Covering.{cover_state}
use Rattle.rdm_explain.specs.body.Trees.{in_tree}

abbrev pub seen : Asked → Heard → Seen
seen asked heard = record { asked = asked; heard = heard }

abbrev pub alone_of : Asked → Heard → Seen
alone_of (Mute u) (Acked ack) = seen (Mute u) (Acked ack)
alone_of (Mute u) heard = seen (Branch u u) Silent
alone_of _ _ = seen Other Silent

-- a mute without acknowledgement as a silent branch of its UID alone, and no other branches
abbrev pub alone : Seen → Seen
alone e = alone_of e.asked e.heard

-- what five such branches in a row and acknowledgements cover
abbrev pub tried_points : List Seen → List Stretch
tried_points x = (cover_state (map alone x)).covered

-- the lower bounds
abbrev pub lows : List Stretch → List ℕ
lows ss = map (λ (s : Stretch). s.lo) ss

abbrev pub asks_untried : Uids → Asked → Bool
asks_untried tried (Mute u) = is_broadcast u || not (in_tree tried u)
asks_untried tried Unmute = false
asks_untried tried (Branch lo hi) = false
asks_untried tried Other = false

-- whether an exchange mutes a UID that is no device's, or isn't in the set
abbrev pub mutes_untried : Uids → Seen → Bool
mutes_untried tried e = asks_untried tried e.asked
