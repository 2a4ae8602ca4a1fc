-- Open ranges: halves of halves of the whole, ascending from the top of the stack.
use Rattle.rdm_agent.proofs.Common.{◌≡◌, ℕ, zero, suc, ◌+◌, ◌-◌, ◌*◌, ◌/◌, ◌^◌, ◌<◌, ◌≤◌, List, [], ◌∷◌, length, refl}
use Rattle.rdm_agent.proofs.Common.{arith, ◌==◌, if◌then◌else◌, eqb-false, pow_pos, pow-suc, Span, whole, lower_half}
use Rattle.rdm_agent.proofs.Common.{upper_half, IsStack}
use Rattle.std.specs.Prelude.{Bool, true, false, Some, None}
use Rattle.rdm_agent.specs.body.Sound.{Ascends}

-- they begin among the UIDs
pub Ascends-below : (from level : ℕ) (rs : List Span) → Ascends from level rs → from ≤ 2 ^ 48
Ascends-below from level [] a = omega (arith, a)
Ascends-below from level (r ∷ rs) a =
    let up = Ascends-below (r.hi + 1) (suc a.0) rs a.5 in let size = a.4 in omega arith

Ascends-weaker : (from level : ℕ) (rs : List Span) → Ascends from (suc level) rs → Ascends from level rs
Ascends-weaker from level [] a = a
Ascends-weaker from level (r ∷ rs) a = let above : suc level ≤ a.0 = a.1 in (a.0, omega arith, a.2, a.3, a.4, a.5)

-- no more than 49 are open
Ascends-length : (from level : ℕ) (rs : List Span) → level ≤ 48 → Ascends from level rs → length rs + level ≤ 48
Ascends-length from level [] low a = omega arith
Ascends-length from level (r ∷ rs) low a =
    let above : level ≤ a.0 = a.1 in let height : a.0 ≤ 47 = a.2 in
    let rest : length rs + suc a.0 ≤ 48 = Ascends-length (r.hi + 1) (suc a.0) rs (omega arith) a.5 in omega arith

pub IsStack-length : (top : Span) (below : List Span) → IsStack top below → length below + 1 ≤ 49
IsStack-length top below s = let few = Ascends-length (top.hi + 1) s.level below s.height s.rest in omega arith

-- the whole range, with which the search begins
pub IsStack-whole : IsStack whole []
IsStack-whole = record { level = 48; height = omega arith; size = refl; rest = refl }

-- a range ends after its begin, and within all UIDs
pub IsStack-ends : (top : Span) (below : List Span) → IsStack top below → (top.lo ≤ top.hi) × (top.hi < 2 ^ 48)
IsStack-ends top below s =
    let end = Ascends-below (top.hi + 1) s.level below s.rest in let size = s.size in
    let some : 0 < 2 ^ s.level = pow_pos s.level in (omega arith, omega arith)

-- the top range is popped
pub IsStack-pop : (top r : Span) (rs : List Span) → IsStack top (r ∷ rs) → IsStack r rs
IsStack-pop top r rs s =
    let a = s.rest in let height : a.0 ≤ 47 = a.2 in let at : r.lo ≡ top.hi + 1 = a.3 in
    let size : r.hi + 1 ≡ top.hi + 1 + 2 ^ a.0 = a.4 in
    record { level = a.0; height = omega arith; size = omega arith; rest = Ascends-weaker (r.hi + 1) a.0 rs a.5 }

-- the top range is split in halves
pub IsStack-split : (top : Span) (below : List Span) → (top.lo ≡ top.hi → ⊥) → IsStack top below
    → IsStack (lower_half top) (upper_half top ∷ below)
IsStack-split top below two s = by_level s.level s.height s.size s.rest
  where
    by_level : (level : ℕ) → level ≤ 48 → top.hi + 1 ≡ top.lo + 2 ^ level → Ascends (top.hi + 1) level below
        → IsStack (lower_half top) (upper_half top ∷ below)
    by_level zero height size rest = absurd (two (omega arith))
    by_level (suc l) height size rest =
        let half : (top.hi - top.lo) / 2 + 1 ≡ 2 ^ l = half_is top.lo top.hi (2 ^ l) (pow_pos l) (rw pow-suc at size) in
        let doubled : top.hi + 1 ≡ top.lo + 2 ^ l * 2 = rw pow-suc at size in
        record {
          level = l;
          height = omega arith;
          size = omega arith;
          rest = (l, omega arith, omega arith, refl, omega arith, rest);
        }
      where
        half_is : (lo hi p : ℕ) → 0 < p → hi + 1 ≡ lo + p * 2 → (hi - lo) / 2 + 1 ≡ p
        half_is lo hi p some size = omega arith

-- where the top range has two halves there is room for one more below it
pub IsStack-room : (top : Span) (below : List Span) → (top.lo ≡ top.hi → ⊥) → IsStack top below → length below < 48
IsStack-room top below two s =
    let few = IsStack-length (lower_half top) (upper_half top ∷ below) (IsStack-split top below two s) in omega arith

-- the halves that a range has, as they are answered
pub IsStack-halves : (top : Span) (below : List Span) (halves : Span × Span)
    → Some halves ≡ (if top.lo == top.hi then None else Some (lower_half top, upper_half top)) → IsStack top below
    → IsStack halves.0 (halves.1 ∷ below) × (length below < 48)
IsStack-halves top below halves shown s = by_test (top.lo == top.hi) refl shown
  where
    by_test : (b : Bool) → (top.lo == top.hi) ≡ b
        → Some halves ≡ (if b then None else Some (lower_half top, upper_half top))
        → IsStack halves.0 (halves.1 ∷ below) × (length below < 48)
    by_test true e some = cc
    by_test false e some =
        let two : top.lo ≡ top.hi → ⊥ = eqb-false top.lo top.hi e in
        let are : halves ≡ (lower_half top, upper_half top) = cc in
        rw are (IsStack-split top below two s, IsStack-room top below two s)
