-- What covers the open ranges, as a device is found and as a range is split.
use Rattle.rdm_agent.proofs.Common.{◌≡◌, ℕ, zero, suc, ◌+◌, ◌-◌, ◌*◌, ◌/◌, ◌^◌, ◌<◌, ◌≤◌, Bool, true, false, ◌&&◌, not}
use Rattle.rdm_agent.proofs.Common.{List, [], ◌∷◌, refl, sym, ap, ◌∙◌, true≢false, arith, nat_le, leb-true, and_parts}
use Rattle.rdm_agent.proofs.Common.{and_from, pow_pos, pow-suc, has, is_within, IsAscending, Span, middle, lower_half}
use Rattle.rdm_agent.proofs.Common.{upper_half}
use Rattle.rdm_agent.proofs.Potential.{is_left, left_in, worth, Covers}
use Rattle.rdm_agent.proofs.LeftLemmas.{no_more, one_fewer, at_most_one, left-halves}

-- with no more devices left a range is worth no more
pub worth-fewer : (level m n : ℕ) → m ≤ n → worth level m ≤ worth level n
worth-fewer level m n fewer = grind arith

-- a device that is found pays for five branches and five mutes
pub worth-found : (level m n : ℕ) → m + 1 ≤ n → worth level m + 20 ≤ worth level n
worth-found level m n fewer = grind arith

-- the halves of a range are worth five silences more at most
worth-halves : (level a b : ℕ) → worth level a + worth level b ≤ worth (suc level) (a + b) + 10
worth-halves level a b = grind arith

-- a range with two devices is worth its halves, and five branches and five mutes
worth-split : (level a b : ℕ) → 2 ≤ a + b → worth level a + worth level b + 20 ≤ worth (suc level) (a + b)
worth-split level a b two = grind arith

module _ (present found : List ℕ) where
  -- more is covered by more
  pub Covers-more : (rs : List Span) (m n : ℕ) → m ≤ n → Covers present found rs m → Covers present found rs n
  Covers-more [] m n more covered = tt
  Covers-more (r ∷ rs) m n more covered =
      let fits = covered.3 in (covered.0, covered.1, covered.2, omega arith, covered.4)

  -- a range is worth five silences
  pub Covers-some : (r : Span) (rs : List Span) (n : ℕ) → Covers present found (r ∷ rs) n → 10 ≤ n
  Covers-some r rs n covered = let fits = covered.3 in omega arith

  -- and where a device is left, ten exchanges more
  pub Covers-left : (r : Span) (rs : List Span) (n : ℕ) → 1 ≤ left_in present found r → Covers present found (r ∷ rs) n
      → 30 ≤ n
  Covers-left r rs n some covered =
      let fits = covered.3 in let paid = worth-found covered.0 0 (left_in present found r) some in omega arith

  module _ (more : List ℕ) (grows : (u : ℕ) → has found u ≡ true → has more u ≡ true) where
    -- what isn't found then wasn't before
    still_left : (r : Span) (u : ℕ) → is_left more r u ≡ true → is_left found r u ≡ true
    still_left r u left =
        and_from (is_within r.lo r.hi u) (not (has found u))
        (and_parts (is_within r.lo r.hi u) (not (has more u)) left).0 (absent (has found u) refl)
      where
        absent : (b : Bool) → has found u ≡ b → not b ≡ true
        absent true here =
            absurd (true≢false
            (sym (and_parts (is_within r.lo r.hi u) (not (has more u)) left).1 ∙ ap not (grows u here)))
        absent false new = refl

    -- where more is found the ranges are covered as before
    pub Covers-found : (rs : List Span) (n : ℕ) → Covers present found rs n → Covers present more rs n
    Covers-found [] n covered = tt
    Covers-found (r ∷ rs) n covered =
        let fits = covered.3 in
        let less : worth covered.0 (left_in present more r) ≤ worth covered.0 (left_in present found r) =
        worth-fewer covered.0 _ _ (no_more (is_left found r) (is_left more r) present (still_left r)) in
        (covered.0, covered.1, covered.2, omega arith, Covers-found rs covered.1 covered.4)

    -- a device of the top range that is found pays for five branches and five mutes
    pub Covers-device : (u : ℕ) (top : Span) (below : List Span) (n : ℕ) → has present u ≡ true
        → is_left found top u ≡ true → has more u ≡ true → Covers present found (top ∷ below) n
        → (m : ℕ) × (m + 20 ≤ n) × Covers present more (top ∷ below) m
    Covers-device u top below n here left now covered =
        let fits = covered.3 in
        let less : worth covered.0 (left_in present more top) + 20 ≤ worth covered.0 (left_in present found top)
        = worth-found covered.0 _ _
        (one_fewer (is_left found top) (is_left more top) present u (still_left top) left
        (gone (is_within top.lo top.hi u)) here) in (
          worth covered.0 (left_in present more top) + covered.1,
          omega arith,
          (covered.0, covered.1, covered.2, omega arith, Covers-found below covered.1 covered.4),
        )
      where
        gone : (b : Bool) → (b && not (has more u)) ≡ false
        gone true = ap not now
        gone false = refl

  -- of a range of one UID at most one device is left
  pub one_uid : (r : Span) → r.hi ≤ r.lo → IsAscending present → left_in present found r ≤ 1
  one_uid r one ascending = at_most_one (is_left found r) present r.lo ascending at_lo
    where
      at_lo : (u : ℕ) → is_left found r u ≡ true → u ≡ r.lo
      at_lo u left =
          let within = and_parts (nat_le r.lo u) (nat_le u r.hi)
          (and_parts (is_within r.lo r.hi u) (not (has found u)) left).0 in
          let least = leb-true r.lo u within.0 in let greatest = leb-true u r.hi within.1 in omega arith

  -- a range of several UIDs has halves, and ten more cover them
  pub Covers-halves : (top : Span) (below : List Span) (n : ℕ) → (top.lo ≡ top.hi → ⊥)
      → Covers present found (top ∷ below) n
      → (m : ℕ) × (m ≤ n + 10) × Covers present found (lower_half top ∷ upper_half top ∷ below) m
  Covers-halves top below n several covered = by_level covered.0 covered.2 covered.3
    where
      by_level : (level : ℕ) → top.hi + 1 ≡ top.lo + 2 ^ level → worth level (left_in present found top) + covered.1 ≤ n
          → (m : ℕ) × (m ≤ n + 10) × Covers present found (lower_half top ∷ upper_half top ∷ below) m
      by_level zero size fits = absurd (several (omega arith))
      by_level (suc l) size fits =
          let half : (top.hi - top.lo) / 2 + 1
          ≡ 2 ^ l = half_is top.lo top.hi (2 ^ l) (pow_pos l) (rw pow-suc at size) in
          let doubled : top.hi + 1 ≡ top.lo + 2 ^ l * 2 = rw pow-suc at size in
          let some : 0 < 2 ^ l = pow_pos l in
          let sum : left_in present found top ≡ left_in present found (lower_half top) + left_in present found
          (upper_half top) = left-halves present found top.lo (middle top) top.hi (omega arith) (omega arith) in
          let pays : worth l (left_in present found (lower_half top)) + worth l
          (left_in present found (upper_half top)) ≤ worth (suc l) (left_in present found top) + 10
          = rw sum (worth-halves l _ _) in (
            worth l (left_in present found (lower_half top)) + (worth l
                (left_in present found (upper_half top)) + covered.1),
            omega arith,
            (
              l,
              worth l (left_in present found (upper_half top)) + covered.1,
              omega arith,
              omega arith,
              (l, covered.1, omega arith, omega arith, covered.4),
            ),
          )
        where
          half_is : (lo hi p : ℕ) → 0 < p → hi + 1 ≡ lo + p * 2 → (hi - lo) / 2 + 1 ≡ p
          half_is lo hi p some size = omega arith

  -- a range in which two are left has halves, and pays for them and for five branches and five mutes
  pub Covers-split : (top : Span) (below : List Span) (n : ℕ) → IsAscending present → 2 ≤ left_in present found top
      → Covers present found (top ∷ below) n
      → (top.lo ≡ top.hi → ⊥) × (m : ℕ) × (m + 20 ≤ n)
      × Covers present found (lower_half top ∷ upper_half top ∷ below) m
  Covers-split top below n ascending two covered =
      let halved = by_level covered.0 covered.2 covered.3 in (several, halved.0, halved.1, halved.2)
    where
      several : top.lo ≡ top.hi → ⊥
      several same = let one = one_uid top (omega arith) ascending in omega arith

      by_level : (level : ℕ) → top.hi + 1 ≡ top.lo + 2 ^ level → worth level (left_in present found top) + covered.1 ≤ n
          → (m : ℕ) × (m + 20 ≤ n) × Covers present found (lower_half top ∷ upper_half top ∷ below) m
      by_level zero size fits = absurd (several (omega arith))
      by_level (suc l) size fits =
          let half : (top.hi - top.lo) / 2 + 1
          ≡ 2 ^ l = half_is top.lo top.hi (2 ^ l) (pow_pos l) (rw pow-suc at size) in
          let doubled : top.hi + 1 ≡ top.lo + 2 ^ l * 2 = rw pow-suc at size in
          let some : 0 < 2 ^ l = pow_pos l in
          let sum : left_in present found top ≡ left_in present found (lower_half top) + left_in present found
          (upper_half top) = left-halves present found top.lo (middle top) top.hi (omega arith) (omega arith) in
          let pays : worth l (left_in present found (lower_half top)) + worth l
          (left_in present found (upper_half top)) + 20 ≤ worth (suc l) (left_in present found top)
          = rw sum (worth-split l _ _ (rw sum at two)) in (
            worth l (left_in present found (lower_half top)) + (worth l
                (left_in present found (upper_half top)) + covered.1),
            omega arith,
            (
              l,
              worth l (left_in present found (upper_half top)) + covered.1,
              omega arith,
              omega arith,
              (l, covered.1, omega arith, omega arith, covered.4),
            ),
          )
        where
          half_is : (lo hi p : ℕ) → 0 < p → hi + 1 ≡ lo + p * 2 → (hi - lo) / 2 + 1 ≡ p
          half_is lo hi p some size = omega arith
