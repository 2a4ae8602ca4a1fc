-- Whether an exchange mutes a UID that isn't in a tree.
use Rattle.std.specs.Prelude.{Bool, false, not}
use Rattle.rdm_wire.specs.Honest.{Asked, Seen}
use Rattle.rdm_wire.specs.Honest.Asked.{Unmute, Branch, Mute, Other}
use Rattle.rdm_explain.specs.declared.uids.Uids.{Uids}
use Rattle.rdm_explain.specs.body.Trees.{in_tree}

abbrev pub asks_other : Uids → Asked → Bool
asks_other named (Mute u) = not (in_tree named u)
asks_other named Unmute = false
asks_other named (Branch lo hi) = false
asks_other named Other = false

abbrev pub mutes_other : Uids → Seen → Bool
mutes_other named e = asks_other named e.asked
