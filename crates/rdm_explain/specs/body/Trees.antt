-- UIDs in a tree.
use Rattle.std.specs.Prelude.{◌≡◌, ℕ, Bool, ◌||◌, List}
use Rattle.std.specs.Ordering.{nat_cmp}
use Rattle.std.specs.BTreeSet.{contains}
use Rattle.rdm_wire.specs.Uid.{has}
use Rattle.rdm_explain.specs.declared.uids.Uids.{Uids}

-- whether the tree has u
abbrev pub in_tree : Uids → ℕ → Bool
in_tree t u = contains nat_cmp t.tree u

-- the tree has the UIDs of this list, and no others
abbrev pub Holds : List ℕ → Uids → Type 0
Holds us t = (u : ℕ) → in_tree t u ≡ has us u

-- the tree has also the UIDs of this list
abbrev pub Gains : List ℕ → Uids → Uids → Type 0
Gains us old new = (u : ℕ) → in_tree new u ≡ (in_tree old u || has us u)
