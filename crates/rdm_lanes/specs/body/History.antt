-- The rule of the view history that a session's parts share, and what its steps show.
use Rattle.std.specs.Prelude.{◌≡◌, ℕ, ◌==◌, true, List, [], ◌∷◌, ◌++◌, length, MatchBool}
use Rattle.logbook.specs.Pages.{Cell, Step, View, Book, Named}
use Rattle.rdm_client.specs.declared.view.DeviceView.{DeviceView}
use Rattle.rdm_lanes.specs.Views.{AreViews}

-- the first of its two words is its length; the second is left at 0
pub record IsKept (cells : List Cell) (views : List DeviceView) : Type 0 where
  pub words : cells ≡ (length views, true) ∷ (0, true) ∷ []
  pub are : AreViews views

-- the word of a history that holds its length
abbrev pub head_of : Book → Named
head_of b = record { tracked = true; key = 0; book = b }

-- the view was added to all that had been seen; or the history was longer, and was seen
abbrev pub Adds : Step DeviceView → View DeviceView ℕ → ℕ → View DeviceView ℕ → Type 0
Adds s v found w =
    MatchBool (found == s.old) ((w.0 ≡ v.0 ++ s.ask ∷ []) × AreViews w.0) ((length w.0 ≡ found) × AreViews w.0)
