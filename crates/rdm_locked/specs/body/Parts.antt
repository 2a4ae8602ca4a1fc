-- The parts of a book of calls.
use Rattle.std.specs.Prelude.{◌≡◌, ◌+◌, ◌≤◌, ℕ}

-- Of 17 parts each client that joined has one, and the others have counted no call. No more left than joined.
pub record HasParts (parts amount joined left : ℕ) : Type 0 where
  pub one_each : parts + joined ≡ 17
  pub few : joined ≤ 16
  pub unused : amount ≡ 0
  pub left_once : left ≤ joined
