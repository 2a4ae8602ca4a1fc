-- When one UID is corrupt.
use Rattle.rdm_agent.proofs.Common.{◌≡◌, ℕ, ◌<◌, ◌≤◌, ◌^◌, true, false, not, ◌&&◌, List, [], ◌∷◌, ◌++◌, length, refl}
use Rattle.rdm_agent.proofs.Common.{sym, ap, ap₂, ◌∙◌, subst, inl, inr, true≢false, arith, append_assoc, ◌⊎◌, ◌≢◌}
use Rattle.rdm_agent.proofs.Common.{nat_le, AllByRecursion, le-leb, leb-true, and_parts, not-true, has, is_within}
use Rattle.rdm_agent.proofs.Common.{is_broadcast, IsDevice, Span, Heard, Seen, Branch, Mute, Acked, Failed, Silent, One}
use Rattle.rdm_agent.proofs.Common.{MuteAck, acked_by, acked_in, asks_range, is_branch, IsLostMute, IsCorrupt, is_new}
use Rattle.rdm_agent.proofs.Common.{TRIES, Search, Steady, Quick, IsCorruptBy, spare_at, BAD_ANSWERS, cases_lt}
use Rattle.rdm_agent.proofs.Common.{cases_Bool, eqb-false, ◌==◌}
use Rattle.std.proofs.lemmas.Bool.{not-false}
use Rattle.rdm_agent.specs.Cause.{IsCorruptReply}
use Rattle.rdm_agent.proofs.Members.{last_part, tails, heads}
use Rattle.rdm_agent.proofs.OneDevice.{NotFailed}
use Rattle.rdm_agent.proofs.Pushes.{All-at, All-push, has-front}
use Rattle.rdm_agent.proofs.FoundLemmas.{IsFound-has}
use Rattle.rdm_agent.proofs.Invariant.{IsFound, WasSpelt}
use Rattle.rdm_agent.proofs.Rows.{NotCorrupt, Answered, none-row, silent-none, acked-none, unbranched-none}
use Rattle.rdm_agent.proofs.Rows.{few-answers, several-none}
use Rattle.rdm_agent.proofs.Common.{◌+◌}
use Rattle.std.proofs.lemmas.Bool.{le-ltb}

-- a UID that may be a new device is one of the range, and isn't found
pub record IsNewDevice (found : List ℕ) (top : Span) (u : ℕ) : Type 0 where
  pub own : is_broadcast u ≡ false
  pub from : top.lo ≤ u
  pub to : u ≤ top.hi
  pub new : has found u ≡ false

-- and only such a one passes the test
pub is_new-device : (found : List ℕ) (top : Span) (u : ℕ) → is_new found top u ≡ true → IsNewDevice found top u
is_new-device found top u h = record {
  own = not-true (is_broadcast u) parts.0;
  from = leb-true top.lo u within.0;
  to = leb-true u top.hi within.1;
  new = not-true (has found u) last.1;
}
  where
    last : ((not (is_broadcast u) && is_within top.lo top.hi u) ≡ true) × (not (has found u) ≡ true)
    last = and_parts (not (is_broadcast u) && is_within top.lo top.hi u) (not (has found u)) h

    parts : (not (is_broadcast u) ≡ true) × (is_within top.lo top.hi u ≡ true)
    parts = and_parts (not (is_broadcast u)) (is_within top.lo top.hi u) last.0

    within : (nat_le top.lo u ≡ true) × (nat_le u top.hi ≡ true)
    within = and_parts (nat_le top.lo u) (nat_le u top.hi) parts.1

-- a device of the range that may not be new is found
pub not_new-found : (found : List ℕ) (top : Span) (u : ℕ) → is_new found top u ≡ false → is_broadcast u ≡ false
    → top.lo ≤ u → u ≤ top.hi → has found u ≡ true
not_new-found found top u old own from to = not-false (has found u) (sym opened ∙ old)
  where
    opened : is_new found top u ≡ not (has found u)
    opened = rw (own, le-leb top.lo u from, le-leb u top.hi to) refl

-- a reply to the branch of one UID that isn't a new device
pub corrupt-reply : (top : Span) (x : List Seen) (found : List ℕ) (h : Heard) → IsFound x found → h ≢ Failed
    → h ≢ Silent → ((u : ℕ) → h ≡ One u → is_new found top u ≡ false) → top.lo ≡ top.hi
    → IsCorrupt top.lo (x ++ record { asked = Branch top.lo top.hi; heard = h } ∷ [])
corrupt-reply top x found h is_found sound loud refused one = record {
  before = x;
  heard = h;
  mutes = [];
  whole = ap (λ n. x ++ record { asked = Branch top.lo n; heard = h } ∷ []) (sym one);
  cause = inl (
    refl,
    record {
      not_failed = sound;
      not_silent = loud;
      not_found = λ is device. IsFound-has x found is_found top.lo
          ∙ not_new-found found top top.lo (refused top.lo is) device.own (omega arith) (omega (arith, one));
    },
  );
}

-- a UID that alone was spelt by its range, and whose five mutes are lost
pub corrupt-mutes : (top : Span) (u : ℕ) (x : List Seen) (found : List ℕ) → AllByRecursion NotFailed x
    → IsNewDevice found top u → WasSpelt u TRIES top x → top.lo ≡ top.hi → IsCorrupt top.lo x
corrupt-mutes top u x found sound new spelt one = record {
  before = spelt.before;
  heard = One u;
  mutes = spelt.mutes;
  whole = spelt.whole
      ∙ ap (λ n. spelt.before ++ record { asked = Branch top.lo n; heard = One u } ∷ spelt.mutes) (sym one);
  cause = inr (ap One is, spelt.many, subst (λ v. AllByRecursion (IsLostMute v) spelt.mutes) is spelt.lost, after.1);
}
  where
    is : u ≡ top.lo
    is = let from = new.from in let to = new.to in omega arith

    after : AllByRecursion NotFailed (record { asked = Branch top.lo top.hi; heard = One u } ∷ spelt.mutes)
    after = last_part NotFailed spelt.before (record { asked = Branch top.lo top.hi; heard = One u } ∷ spelt.mutes)
        (subst (λ l. AllByRecursion NotFailed l) spelt.whole sound)

-- an exchange that branches no range
abbrev pub NoBranch : Seen → Type 0
NoBranch e = is_branch e ≡ false

-- the last branch of a list: its index, and what stands after it
record SameLast (front back : List Seen) (b : Seen) (other after : List Seen) (c : Seen) : Type 0 where
  pub fronts : front ≡ other
  pub branches : b ≡ c
  pub backs : back ≡ after

last_branch : (front back : List Seen) (b : Seen) (other after : List Seen) (c : Seen) → is_branch b ≡ true
    → AllByRecursion NoBranch back → is_branch c ≡ true → AllByRecursion NoBranch after
    → front ++ b ∷ back ≡ other ++ c ∷ after → SameLast front back b other after c
last_branch [] back b [] after c p ps q qs same = record { fronts = refl; branches = cc; backs = cc }
last_branch [] back b (d ∷ other) after c p ps q qs same =
    absurd (true≢false (sym q ∙ All-at NoBranch back other after c ps (tails same)))
last_branch (d ∷ front) back b [] after c p ps q qs same =
    absurd (true≢false (sym p ∙ All-at NoBranch after front back b qs (tails (sym same))))
last_branch (d ∷ front) back b (e ∷ other) after c p ps q qs same =
    let inner = last_branch front back b other after c p ps q qs (tails same) in record {
      fronts = ap₂ (λ x l. x ∷ l) (heads same) inner.fronts;
      branches = inner.branches;
      backs = inner.backs;
    }

-- mutes branch no range
pub lost_no_branches : (u : ℕ) (x : List Seen) → AllByRecursion (IsLostMute u) x → AllByRecursion NoBranch x
lost_no_branches u [] all = tt
lost_no_branches u (e ∷ x) all = (ap asks_range all.0.0, lost_no_branches u x all.1)

-- the last branch is of the range of u alone
record OfOne (u lo hi : ℕ) (front back : List Seen) (h : Heard) : Type 0 where
  pub from : lo ≡ u
  pub to : hi ≡ u
  pub cause : ((back ≡ []) × IsCorruptReply u front h)
      ⊎ ((h ≡ One u) × (length back ≡ TRIES) × AllByRecursion (IsLostMute u) back)

of_one : (u : ℕ) (x front back : List Seen) (lo hi : ℕ) (h : Heard)
    → x ≡ front ++ record { asked = Branch lo hi; heard = h } ∷ back → AllByRecursion NoBranch back → IsCorrupt u x
    → OfOne u lo hi front back h
of_one u x front back lo hi h whole others c = record {
  from = (bounds (ap (λ e. e.asked) s.branches)).0;
  to = (bounds (ap (λ e. e.asked) s.branches)).1;
  cause = cause c.cause;
}
  where
    after : AllByRecursion NoBranch c.mutes
    after = elim c.cause [
      | inl bad ↦ subst (λ l. AllByRecursion NoBranch l) (sym bad.0) tt
      | inr lost ↦ lost_no_branches u c.mutes lost.2
    ]

    s : SameLast front back (record { asked = Branch lo hi; heard = h }) c.before c.mutes (record {
      asked = Branch u u;
      heard = c.heard;
    })
    s = last_branch front back (record { asked = Branch lo hi; heard = h }) c.before c.mutes
        (record { asked = Branch u u; heard = c.heard }) refl others refl after (sym whole ∙ c.whole)

    bounds : Branch lo hi ≡ Branch u u → (lo ≡ u) × (hi ≡ u)
    bounds p = (cc, cc)

    heard : h ≡ c.heard
    heard = ap (λ e. e.heard) s.branches

    cause : ((c.mutes ≡ []) × IsCorruptReply u c.before c.heard)
        ⊎ ((c.heard ≡ One u) × (length c.mutes ≡ TRIES) × AllByRecursion (IsLostMute u) c.mutes
        × AllByRecursion NotFailed c.mutes)
        → ((back ≡ []) × IsCorruptReply u front h)
        ⊎ ((h ≡ One u) × (length back ≡ TRIES) × AllByRecursion (IsLostMute u) back)
    cause (inl bad) = inl (
      s.backs ∙ bad.0,
      record {
        not_failed = λ p. bad.1.not_failed (sym heard ∙ p);
        not_silent = λ p. bad.1.not_silent (sym heard ∙ p);
        not_found = λ is device. subst (λ l. has (acked_in l) u ≡ true) (sym s.fronts)
            (bad.1.not_found (sym heard ∙ is) device);
      },
    )
    cause (inr lost) =
        inr (
          heard ∙ lost.0,
          ap length s.backs ∙ lost.1,
          subst (λ l. AllByRecursion (IsLostMute u) l) (sym s.backs) lost.2,
        )

-- nothing is corrupt without a branch,
pub not_corrupt-no_branch : (u : ℕ) (x : List Seen) → AllByRecursion NoBranch x → IsCorrupt u x → ⊥
not_corrupt-no_branch u x none c =
    true≢false (All-at NoBranch x c.before c.mutes (record { asked = Branch u u; heard = c.heard }) none c.whole)

-- nor where the last branch is of several UIDs,
pub not_corrupt-several : (u : ℕ) (x front back : List Seen) (lo hi : ℕ) (h : Heard)
    → x ≡ front ++ record { asked = Branch lo hi; heard = h } ∷ back → AllByRecursion NoBranch back → (lo ≡ hi → ⊥)
    → IsCorrupt u x → ⊥
not_corrupt-several u x front back lo hi h whole others several c =
    let o = of_one u x front back lo hi h whole others c in several (o.from ∙ sym o.to)

-- or silent,
pub not_corrupt-silent : (u : ℕ) (x : List Seen) (lo hi : ℕ)
    → IsCorrupt u (x ++ record { asked = Branch lo hi; heard = Silent } ∷ []) → ⊥
not_corrupt-silent u x lo hi c =
    elim (of_one u (x ++ record { asked = Branch lo hi; heard = Silent } ∷ []) x [] lo hi Silent refl tt c).cause [
      | inl bad ↦ bad.1.not_silent refl
      | inr lost ↦ not_one lost.0
    ]
  where
    not_one : Silent ≡ One u → ⊥
    not_one p = cc

-- or where it spelt a new device, whose mutes aren't all lost yet,
pub not_corrupt-spelt : (w u tries : ℕ) (top : Span) (x : List Seen) (found : List ℕ) → IsFound x found
    → top.hi < 2 ^ 48 → IsNewDevice found top u → WasSpelt u tries top x → tries < TRIES → IsCorrupt w x → ⊥
not_corrupt-spelt w u tries top x found is_found end new spelt few c = elim o.cause [
  | inl bad ↦ true≢false (sym (here bad.1) ∙ new.new)
  | inr lost ↦ let many = spelt.many in let five = lost.1 in omega arith
]
  where
    o : OfOne w top.lo top.hi spelt.before spelt.mutes (One u)
    o = of_one w x spelt.before spelt.mutes top.lo top.hi (One u) spelt.whole
        (lost_no_branches u spelt.mutes spelt.lost) c

    same : u ≡ w
    same = let from = new.from in let to = new.to in let lo = o.from in let hi = o.to in omega arith

    here : IsCorruptReply w spelt.before (One u) → has found u ≡ true
    here bad = sym (IsFound-has x found is_found u)
        ∙ subst (λ l. has (acked_in l) u ≡ true) (sym spelt.whole)
        (has-front acked_by spelt.before (record { asked = Branch top.lo top.hi; heard = One u } ∷ spelt.mutes) u
        before)
      where
        device : IsDevice u
        device = let to = new.to in record { in_range = omega arith; own = new.own }

        before : has (acked_in spelt.before) u ≡ true
        before = subst (λ (v : ℕ). has (acked_in spelt.before) v ≡ true) (sym same)
            (bad.not_found (ap One same) (subst (λ (v : ℕ). IsDevice v) same device))

-- or acknowledges
pub not_corrupt-acked : (w u tries : ℕ) (ack : MuteAck) (top : Span) (x : List Seen) → WasSpelt u tries top x
    → IsCorrupt w (x ++ record { asked = Mute u; heard = Acked ack } ∷ []) → ⊥
not_corrupt-acked w u tries ack top x spelt c = elim o.cause [
  | inl bad ↦ none_after spelt.mutes bad.0
  | inr lost ↦ true≢false (last_part (IsLostMute w) spelt.mutes (e ∷ []) lost.2).0.1
]
  where
    e : Seen
    e = record { asked = Mute u; heard = Acked ack }

    o : OfOne w top.lo top.hi spelt.before (spelt.mutes ++ e ∷ []) (One u)
    o = of_one w (x ++ e ∷ []) spelt.before (spelt.mutes ++ e ∷ []) top.lo top.hi (One u)
        (ap (λ l. l ++ e ∷ []) spelt.whole ∙ append_assoc spelt.before
        (record { asked = Branch top.lo top.hi; heard = One u } ∷ spelt.mutes) (e ∷ []))
        (All-push NoBranch spelt.mutes e (lost_no_branches u spelt.mutes spelt.lost) refl) c

    none_after : (l : List Seen) → l ++ e ∷ [] ≡ [] → ⊥
    none_after [] p = cc
    none_after (d ∷ l) p = cc

-- whatever range comes next: nothing is corrupt without a branch, after a silence or after an acknowledgement
pub sound-no_branch : (search : Search) (r : Span) (x : List Seen) → AllByRecursion NoBranch x → NotCorrupt search r 0 x
sound-no_branch Steady r x none = λ u c. not_corrupt-no_branch u x none c
sound-no_branch Quick r x none = none-row r x (λ u. unbranched-none u x none)

pub sound-silent : (search : Search) (r : Span) (x : List Seen) (lo hi : ℕ)
    → NotCorrupt search r 0 (x ++ record { asked = Branch lo hi; heard = Silent } ∷ [])
sound-silent Steady r x lo hi = λ u c. not_corrupt-silent u x lo hi c
sound-silent Quick r x lo hi =
    none-row r (x ++ record { asked = Branch lo hi; heard = Silent } ∷ []) (λ u. silent-none u x lo hi)

pub sound-acked : (search : Search) (r : Span) (u tries : ℕ) (ack : MuteAck) (top : Span) (x : List Seen)
    → WasSpelt u tries top x → NotCorrupt search r 0 (x ++ record { asked = Mute u; heard = Acked ack } ∷ [])
sound-acked Steady r u tries ack top x spelt = λ w c. not_corrupt-acked w u tries ack top x spelt c
sound-acked Quick r u tries ack top x spelt =
    none-row r (x ++ record { asked = Mute u; heard = Acked ack } ∷ []) (λ w. acked-none w x u ack)

-- so no UID is corrupt as its search has it
pub not_corrupt-by : (search : Search) (r : Span) (bads : ℕ) (x : List Seen) → NotCorrupt search r bads x → (u : ℕ)
    → IsCorruptBy search u x → ⊥
not_corrupt-by Steady r bads x sound u c = sound u c
not_corrupt-by Quick r bads x row u c = let few = row.few u in let many = c.1 in omega (arith, few, many)

-- while what a range spelt is muted, nothing is corrupt: fewer than five mutes were lost, or the UID wasn't answered
-- often enough
pub read-sound : (search : Search) (u tries spare bads : ℕ) (top : Span) (x : List Seen) (found : List ℕ)
    → IsFound x found → top.hi < 2 ^ 48 → IsNewDevice found top u → (n : ℕ) → WasSpelt u n top x → tries < TRIES
    → n + spare ≡ tries + spare_at search top bads → spare ≤ spare_at search top bads → Answered search top bads x
    → (w : ℕ) → IsCorruptBy search w x → ⊥
read-sound Steady u tries spare bads top x found is_found end new n spelt few counted spared a w c =
    not_corrupt-spelt w u n top x found is_found end new spelt (omega (arith, few, counted, spared)) c
read-sound Quick u tries spare bads top x found is_found end new n spelt few counted spared a w c =
    elim (cases_lt bads BAD_ANSWERS) [
      | inl less ↦ let fewer = few-answers top bads x a (λ one. less) w in let many = c.1 in omega (arith, fewer, many)
      | inr last ↦ elim (cases_Bool (top.lo == top.hi)) [
        | inl one ↦ not_corrupt-spelt w u n top x found is_found end new spelt
            (let none = none_spare one last in omega (arith, few, counted, spared, none)) c.0
        | inr several ↦ let none = several-none top bads x a (eqb-false top.lo top.hi several) w in
            let many = c.1 in omega (arith, none, many)
      ]
    ]
  where
    none_spare : (top.lo == top.hi) ≡ true → BAD_ANSWERS ≤ bads → spare_at Quick top bads ≡ 0
    none_spare one last = rw (one, le-ltb bads BAD_ANSWERS last) refl
