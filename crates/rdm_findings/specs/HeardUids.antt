-- The UIDs that a run heard.
use Rattle.std.specs.Prelude.{ℕ, Bool, List, Option, Some, None, filter_map}
use Rattle.std.specs.Ordering.{nat_cmp}
use Rattle.std.specs.BTreeSet.{contains}
use Rattle.rdm_wire.specs.Honest.{Asked, Heard, Seen}
use Rattle.rdm_wire.specs.Honest.Asked.{Branch, Mute}
use Rattle.rdm_wire.specs.Honest.Heard.{One, Acked}
use Rattle.rdm_findings.specs.declared.heard.RunUids.{RunUids}

-- the UID that was heard: that of a reply to a branch, or of an acknowledged mute
abbrev pub heard_uid : Asked → Heard → Option ℕ
heard_uid (Branch lo hi) (One u) = Some u
heard_uid (Mute u) (Acked ack) = Some u
heard_uid _ _ = None

-- the UID that was heard in an exchange
abbrev pub heard_by : Seen → Option ℕ
heard_by e = heard_uid e.asked e.heard

-- the UIDs that were heard, in order
abbrev pub heard_in : List Seen → List ℕ
heard_in x = filter_map heard_by x

-- whether a UID is in a set of those that a run shows
abbrev pub in_uids : RunUids → ℕ → Bool
in_uids uids u = contains nat_cmp uids.tree u
