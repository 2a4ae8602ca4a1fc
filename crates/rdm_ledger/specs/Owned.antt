-- What the halves of lists own: for each list an entry under the ledger's name, which is cut in two.
use Rattle.std.specs.Prelude.{ℕ, List, [], ◌∷◌}
use base.Fraction.{full_share}
use base.Share.{three_quarters}
use base.Stored.{Gv, code_l}
use base.Fml.{Fml}
use types.Keyed.{entries_from}
use Rattle.atomic_table.specs.Seated.{halved, seen, roster}

-- the code of a list without items
abbrev pub no_items : Gv
no_items = code_l (λ (g : Gv). g) []

-- no list was begun
unfoldable pub blank_owns : ℕ → Fml
blank_owns δ = entries_from halved δ 0 (λ _. (full_share, no_items))

module _ {V : Type 0} (c : V → Gv) where
  -- one part of each list's entry, and the entries that no list has yet
  unfoldable pub book_owns : ℕ → List V → Fml
  book_owns δ vs = roster c δ 0 vs

  -- the other part of one list's entry
  unfoldable pub share_owns : ℕ → ℕ → V → Fml
  share_owns δ k v = seen c δ k three_quarters v
