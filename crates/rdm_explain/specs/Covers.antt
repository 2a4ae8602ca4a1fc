-- Which UIDs exchanges cover.
use Rattle.std.specs.Prelude.{◌≡◌, ◌⊎◌, ℕ, ◌+◌, ◌<◌, ◌≤◌, ◌^◌, true, List, Option, Some, None}
use Rattle.rdm_wire.specs.Uid.{has}
use Rattle.rdm_wire.specs.Honest.{Seen}
use Rattle.rdm_agent.specs.Run.{acked_in}
use Rattle.rdm_agent.specs.Certificate.{IsCleared}
use Rattle.rdm_explain.specs.declared.exchange.Exchange.{Exchange}
use Rattle.rdm_explain.specs.Exchanges.{seen_all}

-- u was acknowledged, or is in a range that was branched five times in a row without a byte
abbrev pub IsCovered : List Seen → ℕ → Type 0
IsCovered x u = (has (acked_in x) u ≡ true) ⊎ IsCleared x u

-- u is the least UID that isn't covered
pub record IsFirstUncovered (x : List Seen) (u : ℕ) : Type 0 where
  pub below : u < 2 ^ 48
  pub uncovered : IsCovered x u → ⊥
  pub before : (v : ℕ) → v < u → IsCovered x v

-- all UIDs are covered, or this is the first that isn't
abbrev pub FirstUncovered : List Exchange → Option ℕ → Type 0
FirstUncovered xs None = (u : ℕ) → u < 2 ^ 48 → IsCovered (seen_all xs) u
FirstUncovered xs (Some u) = IsFirstUncovered (seen_all xs) u

-- the UIDs from u to this one aren't covered, and the next one is, unless this is the greatest
pub record IsLastUncovered (x : List Seen) (u last : ℕ) : Type 0 where
  pub from : u ≤ last
  pub below : last < 2 ^ 48
  pub each : (v : ℕ) → u ≤ v → v ≤ last → IsCovered x v → ⊥
  pub next : last + 1 < 2 ^ 48 → IsCovered x (last + 1)

-- if a first UID isn't covered, this is the last of those in a row that aren't
abbrev pub LastUncovered : List Exchange → (first last : Option ℕ) → Type 0
LastUncovered xs None last = last ≡ None
LastUncovered xs (Some u) None = ⊥
LastUncovered xs (Some u) (Some last) = IsLastUncovered (seen_all xs) u last
