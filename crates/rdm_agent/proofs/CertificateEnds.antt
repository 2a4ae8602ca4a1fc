-- A run that has a certificate has ended, without fault: what clears the greatest UID is the end of the search.
use Rattle.rdm_agent.proofs.Common.{◌≡◌, ℕ, zero, suc, ◌+◌, ◌^◌, ◌<◌, ◌≤◌, Bool, true, false, cond, List, [], ◌∷◌}
use Rattle.rdm_agent.proofs.Common.{◌++◌, length, append_assoc, append-nil, Option, None, Some, refl, sym, ap, ◌∙◌}
use Rattle.rdm_agent.proofs.Common.{subst, inl, inr, true≢false, arith, ◌≢◌, ◌⊎◌, ◌==◌, nat_le, nat_lt, MatchOption}
use Rattle.rdm_agent.proofs.Common.{eqb-false, leb-true, and_parts, cond_both, AllByRecursion, has, IsDevice, none-some}
use Rattle.rdm_agent.proofs.Common.{IsDeviceSet, uids_of, Span, whole, Asked, Heard, Seen, Unmute, Branch, Mute, Other}
use Rattle.rdm_agent.proofs.Common.{Acked, Failed, Silent, One, Noise, acked_uid, muted_uid, acked_in, muted_in}
use Rattle.rdm_agent.proofs.Common.{InSuccession, IsSilentBranch, SearchShows, Phase, AgentState, Runs, start_by}
use Rattle.rdm_agent.proofs.Common.{wanted, fed, fault_of, heard_by_phase, search_below, found_uids, is_whole, choose}
use Rattle.rdm_agent.proofs.Common.{sweep_on_after, sweep_silent, believed_silent, Belief, Sweep, Unmuting}
use Rattle.rdm_agent.proofs.Common.{counted_silent, hushing, check_silent, is_checked_again, is_last}
use Rattle.rdm_agent.proofs.Common.{unassigned, Checking, MutingStray, ◌&&◌, believed_apart, is_in_vain}
use Rattle.rdm_agent.proofs.Common.{MutingKnown, Searching, MutingRead, Sweeping, MutingSwept, Ended, IsStack, Kind}
use Rattle.rdm_agent.proofs.Common.{Search, Steady, TRIES, search_silent, search_whole, spent_more}
use Rattle.std.proofs.lemmas.List.{length-append, same_from_push}
use Rattle.rdm_agent.specs.Statements.{CertificateIsTheEnd}
use Rattle.rdm_agent.proofs.Members.{member, first_part, last_part, put-has, has-put, has-first}
use Rattle.rdm_agent.proofs.Sets.{has-set_of}
use Rattle.rdm_agent.proofs.Stacks.{IsStack-pop, IsStack-ends}
use Rattle.rdm_agent.specs.declared.belief.Part.{Part}
use Rattle.rdm_agent.specs.declared.belief.Part.TheVariants as parts
use Rattle.rdm_agent.specs.Machine.{fifth_silence, is_apart}
use Rattle.rdm_agent.proofs.Common.{sweep_on, to_phase, eqb-true, limit_of}
use Rattle.rdm_agent.specs.Apart.{next_gap}
use Rattle.rdm_agent.proofs.Choices.{IsChosen, IsOut, Asks, chosen}
use Rattle.rdm_agent.proofs.Invariant.{EndsWith, InPhase}
use Rattle.rdm_agent.proofs.Runs.{stands_by, wanted_next}
use Rattle.rdm_agent.proofs.CallLemmas.{runs-push}

-- the greatest UID, which no device has
abbrev greatest : ℕ
greatest = 0xffffffffffff

-- a list is empty or has a last element
last_of : {X : Type 0} (l : List X) → (l ≡ []) ⊎ ((front : List X) × (last : X) × (l ≡ front ++ last ∷ []))
last_of [] = inl refl
last_of (a ∷ l) =
    elim (last_of l) [ inl none ↦ inr ([], a, ap (λ t. a ∷ t) none) | inr s ↦ inr (a ∷ s.0, s.1, ap (λ t. a ∷ t) s.2) ]

module _ {P : Seen → Type 0} where
  -- the last exchanges of a list that grew by one
  grown_end : (n : ℕ) (x : List Seen) (e : Seen) → EndsWith (suc n) P (x ++ e ∷ []) → P e × EndsWith n P x
  grown_end n x e s = elim (last_of s.run) [
    | inl none ↦ absurd (short (sym (ap length none) ∙ s.many))
    | inr r ↦ by_last r.0 r.1 r.2
  ]
    where
      short : 0 ≡ suc n → ⊥
      short h = omega (arith, h)

      by_last : (run : List Seen) (last : Seen) → s.run ≡ run ++ last ∷ [] → P e × EndsWith n P x
      by_last run last is =
          let same = same_from_push x (s.front ++ run) e last
          (s.whole ∙ ap (λ l. s.front ++ l) is ∙ sym (append_assoc s.front run (last ∷ []))) in
          let each = subst (λ l. AllOf l) is s.each in (
            subst P (sym same.1) (last_part P run (last ∷ []) each).0,
            record {
              front = s.front;
              run = run;
              whole = same.0;
              many = fewer (ap length is) s.many;
              each = first_part P run (last ∷ []) each;
            },
          )
        where
          AllOf : List Seen → Type 0
          AllOf l = AllByRecursion P l

          fewer : length s.run ≡ length (run ++ last ∷ []) → length s.run ≡ suc n → length run ≡ n
          fewer p q = omega (arith, p, q, length-append run (last ∷ []))

  -- some in a row of such a list were there before, or are the last ones
  grown_succession : (n : ℕ) (x : List Seen) (e : Seen) → InSuccession n P (x ++ e ∷ []) → InSuccession n P x
      ⊎ EndsWith n P (x ++ e ∷ [])
  grown_succession n x e s = elim (last_of s.back) [
    | inl none ↦ inr (record {
      front = s.front;
      run = s.run;
      whole = s.whole ∙ ap (λ l. s.front ++ s.run ++ l) none ∙ append-nil (s.front ++ s.run);
      many = s.many;
      each = s.each;
    })
    | inr b ↦ inl (record {
      front = s.front;
      run = s.run;
      back = b.0;
      whole = (same_from_push x (s.front ++ s.run ++ b.0) e b.1
          (s.whole ∙ ap (λ l. s.front ++ s.run ++ l) b.2 ∙ aside b.0 b.1)).0;
      many = s.many;
      each = s.each;
    })
  ]
    where
      aside : (back : List Seen) (last : Seen)
          → s.front ++ s.run ++ (back ++ last ∷ []) ≡ (s.front ++ s.run ++ back) ++ last ∷ []
      aside back last = sym (append_assoc (s.front ++ s.run) back (last ∷ []))

-- While the search goes on, the range that it asks was silent no more often at the end than the phase counts. Of those
-- that a sweep asks, only one with the greatest UID matters
abbrev FewSilent : Phase → List Seen → Type 0
FewSilent (Searching silences bads spent top below) x = (n : ℕ) → EndsWith n (IsSilentBranch top.lo top.hi) x
    → n ≤ silences
FewSilent (Unmuting more known) x = Unit {0}
FewSilent (MutingKnown u tries spare known) x = Unit {0}
FewSilent (MutingRead u tries spare bads top below) x = Unit {0}
FewSilent (Sweeping sweep) x = greatest ≤ sweep.question.range.hi → (n : ℕ)
    → EndsWith n (IsSilentBranch sweep.question.range.lo sweep.question.range.hi) x → n ≤ sweep.silences
FewSilent (MutingSwept u tries spare sweep) x = Unit {0}
FewSilent (Checking u silences sweep) x =
    (n : ℕ) → EndsWith n (IsSilentBranch unassigned.lo unassigned.hi) x → n ≤ silences
FewSilent (MutingStray u tries spare sweep) x = Unit {0}
FewSilent (Ended fault) x = Unit {0}

-- and no range with the greatest UID was silent five times in a row, unless the run has ended without fault
record IsUncleared (phase : Phase) (x : List Seen) : Type 0 where
  cleared_last : (lo hi : ℕ) → greatest ≤ hi → InSuccession TRIES (IsSilentBranch lo hi) x → phase ≡ Ended None
  few : FewSilent phase x

-- an exchange that is no silent branch leaves it so, whatever the phase then
other_exchange : (phase new : Phase) (x : List Seen) (e : Seen) → phase ≢ Ended None
    → ((lo hi : ℕ) → IsSilentBranch lo hi e → ⊥) → IsUncleared phase x → IsUncleared new (x ++ e ∷ [])
other_exchange phase new x e goes loud k = record {
  cleared_last = λ lo hi far s. elim (grown_succession TRIES x e s) [
    | inl before ↦ absurd (goes (k.cleared_last lo hi far before))
    | inr ends ↦ absurd (loud lo hi (grown_end 4 x e ends).0)
  ];
  few = of_phase new;
}
  where
    none : (lo hi silences n : ℕ) → EndsWith n (IsSilentBranch lo hi) (x ++ e ∷ []) → n ≤ silences
    none lo hi silences zero ends = omega arith
    none lo hi silences (suc n) ends = absurd (loud lo hi (grown_end n x e ends).0)

    of_phase : (p : Phase) → FewSilent p (x ++ e ∷ [])
    of_phase (Searching silences bads spent top below) = none top.lo top.hi silences
    of_phase (Unmuting more known) = tt
    of_phase (MutingKnown u tries spare known) = tt
    of_phase (MutingRead u tries spare bads top below) = tt
    of_phase (Sweeping sweep) = λ far. none sweep.question.range.lo sweep.question.range.hi sweep.silences
    of_phase (MutingSwept u tries spare sweep) = tt
    of_phase (Checking u silences sweep) = none unassigned.lo unassigned.hi silences
    of_phase (MutingStray u tries spare sweep) = tt
    of_phase (Ended fault) = tt

-- the top range is silent once more
module _ (silences bads spent : ℕ) (top : Span) (below : List Span) (x : List Seen) (stack : IsStack top below)
    (fewer : silences < TRIES) (k : IsUncleared (Searching silences bads spent top below) x) where
  abbrev again : Seen
  again = record { asked = Branch top.lo top.hi; heard = Silent }

  same_range : (lo hi : ℕ) → IsSilentBranch lo hi again → (top.lo ≡ lo) × (top.hi ≡ hi)
  same_range lo hi s = (low s.0, high s.0)
    where
      low : Branch top.lo top.hi ≡ Branch lo hi → top.lo ≡ lo
      low e = cc

      high : Branch top.lo top.hi ≡ Branch lo hi → top.hi ≡ hi
      high e = cc

  not_ended : Searching silences bads spent top below ≢ Ended None
  not_ended e = cc

  -- five times at most: the next range is another one, and the last one ends the run
  popped : (rest : List Span) → IsStack top rest → IsUncleared (search_below rest) (x ++ again ∷ [])
  popped [] s = record { cleared_last = λ lo hi far five. refl; few = tt }
  popped (r ∷ rs) s = record {
    cleared_last = λ lo hi far five. elim (grown_succession TRIES x again five) [
      | inl before ↦ absurd (not_ended (k.cleared_last lo hi far before))
      | inr ends ↦ absurd (too_far hi far (same_range lo hi (grown_end 4 x again ends).0).1)
    ];
    few = others;
  }
    where
      next : (r.lo ≡ top.hi + 1) × (r.lo ≤ r.hi) × (r.hi < 2 ^ 48) × (top.lo ≤ top.hi)
      next = let ends = IsStack-ends r rs (IsStack-pop top r rs s) in
          (s.rest.3, ends.0, ends.1, (IsStack-ends top (r ∷ rs) s).0)

      too_far : (hi : ℕ) → greatest ≤ hi → top.hi ≡ hi → ⊥
      too_far hi far is =
          let at = next.0 in let some = next.1 in let end = next.2 in omega (arith, is, far, at, some, end)

      others : (n : ℕ) → EndsWith n (IsSilentBranch r.lo r.hi) (x ++ again ∷ []) → n ≤ 0
      others zero ends = omega arith
      others (suc n) ends =
          absurd (let same : top.lo ≡ r.lo = (same_range r.lo r.hi (grown_end n x again ends).0).0 in let at = next.0 in
          let some = next.3 in omega (arith, same, at, some))

  silent_again : (now : ℕ) → (silences + 1 ≡ TRIES → ⊥)
      → IsUncleared (Searching (silences + 1) 0 now top below) (x ++ again ∷ [])
  silent_again now not_five = record {
    cleared_last = λ lo hi far five. elim (grown_succession TRIES x again five) [
      | inl before ↦ absurd (not_ended (k.cleared_last lo hi far before))
      | inr ends ↦ absurd (five_before lo hi (grown_end 4 x again ends))
    ];
    few = counted;
  }
    where
      five_before : (lo hi : ℕ) → IsSilentBranch lo hi again × EndsWith 4 (IsSilentBranch lo hi) x → ⊥
      five_before lo hi g =
          let same = same_range lo hi g.0 in
          let four : 4 ≤ silences = k.few 4
          (subst (λ l. EndsWith 4 (IsSilentBranch l top.hi) x) (sym same.0)
          (subst (λ h. EndsWith 4 (IsSilentBranch lo h) x) (sym same.1) g.1)) in
          not_five (omega (arith, four, fewer))

      counted : (n : ℕ) → EndsWith n (IsSilentBranch top.lo top.hi) (x ++ again ∷ []) → n ≤ silences + 1
      counted zero ends = omega arith
      counted (suc n) ends = let before : n ≤ silences = k.few n (grown_end n x again ends).1 in omega (arith, before)

  branch_silent : (now : ℕ) → IsUncleared (search_silent silences now top below) (x ++ again ∷ [])
  branch_silent now =
      cond_both ((silences + 1) == TRIES) _ _ (λ p. IsUncleared p (x ++ again ∷ [])) (λ five. popped below stack)
      (λ not. silent_again now (eqb-false (silences + 1) TRIES not))

-- a range that a sweep asks is silent once more
module _ (phase : Phase) (range : Span) (silences : ℕ) (x : List Seen) (fewer : silences < TRIES)
    (not_over : phase ≢ Ended None) (k : IsUncleared phase x)
    (so_few : greatest ≤ range.hi → (n : ℕ) → EndsWith n (IsSilentBranch range.lo range.hi) x → n ≤ silences) where
  abbrev swept_again : Seen
  swept_again = record { asked = Branch range.lo range.hi; heard = Silent }

  swept_ends : (lo hi : ℕ) → IsSilentBranch lo hi swept_again → (range.lo ≡ lo) × (range.hi ≡ hi)
  swept_ends lo hi s = (low s.0, high s.0)
    where
      low : Branch range.lo range.hi ≡ Branch lo hi → range.lo ≡ lo
      low e = cc

      high : Branch range.lo range.hi ≡ Branch lo hi → range.hi ≡ hi
      high e = cc

  -- it was silent no more often than is counted now
  more : greatest ≤ range.hi → (m : ℕ) → EndsWith m (IsSilentBranch range.lo range.hi) (x ++ swept_again ∷ [])
      → m ≤ silences + 1
  more far zero ends = omega arith
  more far (suc m) ends =
      let before : m ≤ silences = so_few far m (grown_end m x swept_again ends).1 in omega (arith, before)

  -- and no other range was
  so_often : (r : Span) (count : ℕ) → (r ≡ range → count ≡ silences + 1) → greatest ≤ r.hi → (m : ℕ)
      → EndsWith m (IsSilentBranch r.lo r.hi) (x ++ swept_again ∷ []) → m ≤ count
  so_often r count counts far zero ends = omega arith
  so_often r count counts far (suc m) ends = by (swept_ends r.lo r.hi (grown_end m x swept_again ends).0)
    where
      from_to : ℕ → ℕ → Span
      from_to lo hi = record { lo = lo; hi = hi }

      by : (range.lo ≡ r.lo) × (range.hi ≡ r.hi) → suc m ≤ count
      by same =
          let is : r ≡ range = ap (λ l. from_to l r.hi) (sym same.0) ∙ ap (λ h. from_to range.lo h) (sym same.1) in
          let is_count = counts is in let hi = same.1 in
          let most : suc m ≤ silences + 1 = more (omega (arith, far, hi)) (suc m)
          (subst (λ (q : Span). EndsWith (suc m) (IsSilentBranch q.lo q.hi) (x ++ swept_again ∷ [])) is ends) in
          omega (arith, is_count, most)

  -- it is without the greatest UID, however often it was silent
  goes_below : range.hi < greatest → (sweep : Sweep) (now n : ℕ) (b : Belief)
      → IsUncleared (sweep_on_after sweep range now 0 n b) (x ++ swept_again ∷ [])
  goes_below low sweep now n b =
      cond_both (nat_lt sweep.made n) _ _ (λ p. IsUncleared p (x ++ swept_again ∷ []))
      (λ goes. record {
        cleared_last = λ lo hi far five. absurd (no_five lo hi far five);
        few = λ far m ends. let none = none_far _ far m ends in omega (arith, none);
      })
      (λ out. record {
        cleared_last = λ lo hi far five. absurd (no_five lo hi far five);
        few = λ m ends. let none = none_far whole (omega arith) m ends in omega (arith, none);
      })
    where
      no_five : (lo hi : ℕ) → greatest ≤ hi → InSuccession TRIES (IsSilentBranch lo hi) (x ++ swept_again ∷ []) → ⊥
      no_five lo hi far five = elim (grown_succession TRIES x swept_again five) [
        | inl before ↦ not_over (k.cleared_last lo hi far before)
        | inr ends ↦ let same = (swept_ends lo hi (grown_end 4 x swept_again ends).0).1 in omega (arith, same, low, far)
      ]

      none_far : (r : Span) → greatest ≤ r.hi → (m : ℕ) → EndsWith m (IsSilentBranch r.lo r.hi) (x ++ swept_again ∷ [])
          → m ≤ 0
      none_far r far zero ends = omega arith
      none_far r far (suc m) ends = let same = (swept_ends r.lo r.hi (grown_end m x swept_again ends).0).1 in
          absurd (omega (arith, same, low, far))

  module _ (not_five : silences + 1 ≡ TRIES → ⊥) where
    five_before : (lo hi : ℕ) → greatest ≤ hi → InSuccession TRIES (IsSilentBranch lo hi) (x ++ swept_again ∷ []) → ⊥
    five_before lo hi far five = elim (grown_succession TRIES x swept_again five) [
      | inl before ↦ not_over (k.cleared_last lo hi far before)
      | inr ends ↦ no_five (grown_end 4 x swept_again ends)
    ]
      where
        no_five : IsSilentBranch lo hi swept_again × EndsWith 4 (IsSilentBranch lo hi) x → ⊥
        no_five g =
            let same = swept_ends lo hi g.0 in let is_hi = same.1 in
            let four : 4 ≤ silences = so_few (omega (arith, far, is_hi)) 4
            (subst (λ l. EndsWith 4 (IsSilentBranch l range.hi) x) (sym same.0)
            (subst (λ h. EndsWith 4 (IsSilentBranch lo h) x) (sym same.1) g.1)) in
            not_five (omega (arith, four, fewer))

    -- the steady search begins
    begins_again : (count : ℕ) → (whole ≡ range → count ≡ silences + 1)
        → IsUncleared (search_whole count) (x ++ swept_again ∷ [])
    begins_again count counts = record {
      cleared_last = λ lo hi far five. absurd (five_before lo hi far five);
      few = so_often whole count counts (omega arith);
    }

    -- the sweep goes on, or the steady search begins
    goes_to : (sweep : Sweep) (n : ℕ) (b : Belief)
        → IsUncleared (sweep_on_after sweep range (silences + 1) 0 n b) (x ++ swept_again ∷ [])
    goes_to sweep n b =
        cond_both (nat_lt sweep.made n) _ _ (λ p. IsUncleared p (x ++ swept_again ∷ []))
        (λ goes. next (choose sweep.made (silences + 1) 0 range b)
        (chosen sweep.made (silences + 1) 0 range b (omega (arith, fewer, not_five_less))))
        (λ out. cond_both (is_whole range) (silences + 1) 0
        (λ c. IsUncleared (search_whole c) (x ++ swept_again ∷ []))
        (λ all. begins_again (silences + 1) (λ is. refl))
        (λ other. begins_again 0 (λ is. absurd (true≢false (sym (whole_is is) ∙ other)))))
      where
        not_five_less : silences + 1 < TRIES
        not_five_less = grind (arith, fewer, not_five)

        whole_is : whole ≡ range → is_whole range ≡ true
        whole_is is = subst (λ (r : Span). is_whole r ≡ true) is refl

        next : (c : Sweep) → IsChosen sweep.made (silences + 1) 0 range c
            → IsUncleared (Sweeping c) (x ++ swept_again ∷ [])
        next c is = record {
          cleared_last = λ lo hi far five. absurd (five_before lo hi far five);
          few = so_often c.question.range c.silences is.counted;
        }

-- what a sweep asks is silent once more
swept_silent : (a : AgentState) (sweep : Sweep) (x : List Seen) → Asks sweep → IsUncleared (Sweeping sweep) x
    → IsUncleared (sweep_silent a (counted_silent sweep)).phase
    (x ++ record { asked = Branch sweep.question.range.lo sweep.question.range.hi; heard = Silent } ∷ [])
swept_silent a sweep x asks k = cond_both ((sweep.silences + 1) == TRIES) _ _ After
    (λ five. fifth (asks.last (eqb-true (sweep.silences + 1) TRIES five)) sweep.question.part asks.apart)
    (λ other. goes_to (Sweeping sweep) sweep.question.range sweep.silences x asks.few (λ p. cc) k k.few
    (eqb-false (sweep.silences + 1) TRIES other) (counted_silent sweep) (limit_of a)
    (believed_silent sweep.question.part sweep.question.range (hushing sweep.belief)))
  where
    e : Seen
    e = record { asked = Branch sweep.question.range.lo sweep.question.range.hi; heard = Silent }

    After : AgentState → Type 0
    After b = IsUncleared b.phase (x ++ e ∷ [])

    below : sweep.question.range.hi < greatest → (limit : ℕ) (b : Belief)
        → IsUncleared (sweep_on (counted_silent sweep) 0 0 limit b) (x ++ e ∷ [])
    below low limit b = goes_below (Sweeping sweep) sweep.question.range sweep.silences x asks.few (λ p. cc) k k.few low
        (counted_silent sweep) 0 limit b

    gap : IsOut sweep.question.range → After (cond (is_whole sweep.question.range) (to_phase a (Ended None))
        (to_phase a (sweep_on (counted_silent sweep) 0 0 (limit_of a)
        (next_gap (sweep.belief.top + 1) a.apart (hushing sweep.belief)))))
    gap out = cond_both (is_whole sweep.question.range) _ _ After
        (λ all. record { cleared_last = λ lo hi far s. refl; few = tt })
        (λ other. elim out [
          | inl all ↦ absurd (true≢false (sym (subst (λ (r : Span). is_whole r ≡ true) (sym all) refl) ∙ other))
          | inr low ↦ below low _ _
        ])

    fifth : IsOut sweep.question.range → (part : Part) → (is_apart part ≡ true → sweep.question.range.hi < greatest)
        → After (fifth_silence part a (counted_silent sweep))
    fifth out parts.Apart low = below (low refl) _ _
    fifth out parts.Fresh low = gap out
    fifth out parts.Lower low = gap out
    fifth out parts.Rest low = gap out
    fifth out parts.All low = gap out
    fifth out parts.Whole low = gap out
    fifth out parts.End low = gap out
    fifth out parts.Spelt low = gap out

-- the range without devices is silent once more
checked_silent : (u silences : ℕ) (sweep : Sweep) (n : ℕ) (x : List Seen) → silences < 2
    → IsUncleared (Checking u silences sweep) x
    → IsUncleared (check_silent u silences (counted_silent sweep) n)
    (x ++ record { asked = Branch unassigned.lo unassigned.hi; heard = Silent } ∷ [])
checked_silent u silences sweep n x few k =
    cond_both (is_checked_again (counted_silent sweep).belief silences) _ _ (λ p. IsUncleared p (x ++ e ∷ []))
    (λ again. record {
      cleared_last = λ lo hi far five.
          absurd (five_before phase unassigned silences x fewer goes k (λ far. k.few) not_five lo hi far five);
      few = more phase unassigned silences x fewer goes k (λ far. k.few) (omega arith);
    })
    (λ split. cond_both (is_last sweep.question.part && is_in_vain sweep.belief) _ _
    (λ p. IsUncleared p (x ++ e ∷ []))
    (λ found_nothing. begins_again phase unassigned silences x fewer goes k (λ far. k.few) not_five 0
    (λ is. absurd (not_whole (ap (λ (r : Span). r.lo) is))))
    (λ other. goes_to phase unassigned silences x fewer goes k (λ far. k.few) not_five (counted_silent sweep) n
    (believed_apart sweep.question.part sweep.question.range sweep.silences (hushing sweep.belief))))
  where
    e : Seen
    e = record { asked = Branch unassigned.lo unassigned.hi; heard = Silent }

    phase : Phase
    phase = Checking u silences sweep

    goes : phase ≢ Ended None
    goes p = cc

    fewer : silences < TRIES
    fewer = omega (arith, few)

    not_five : silences + 1 ≡ TRIES → ⊥
    not_five five = omega (arith, few, five)

    not_whole : whole.lo ≡ unassigned.lo → ⊥
    not_whole same = omega (arith, same)

module _ (kind : Kind) (known : List ℕ) (budget : ℕ) where
  -- what is asked but a branch is no silent branch, and so is what is heard but silence
  loud : (asked : Asked) (heard : Heard) → ((lo hi : ℕ) → asked ≡ Branch lo hi → heard ≡ Silent → ⊥) → (lo hi : ℕ)
      → IsSilentBranch lo hi (record { asked = asked; heard = heard }) → ⊥
  loud asked heard other lo hi s = other lo hi s.0 s.1

  -- the run stays so with each exchange
  module _ (x : List Seen) (a : AgentState) where
    After : Heard → Phase → Option Asked → Type 0
    After h phase o =
        MatchOption o (Unit {0})
        (λ asked. IsUncleared (heard_by_phase a phase h).phase (x ++ record { asked = asked; heard = h } ∷ []))

    by_phase : (phase : Phase) (h : Heard) → h ≢ Failed → InPhase a.search kind known budget phase x (found_uids a)
        → IsUncleared phase x → After h phase (wanted phase)
    unfolding After
    by_phase (Unmuting more left) h sound p k =
        other_exchange (Unmuting more left) _ x _ (λ e. cc) (loud Unmute h (λ lo hi e s. cc)) k
    by_phase (MutingKnown u tries spare left) h sound p k =
        other_exchange (MutingKnown u tries spare left) _ x _ (λ e. cc) (loud (Mute u) h (λ lo hi e s. cc)) k
    by_phase (Searching silences bads spent top below) Silent sound p k =
        branch_silent silences bads spent top below x p.searches.stack p.few k (spent_more spent)
    by_phase (Searching silences bads spent top below) (One u) sound p k =
        other_exchange (Searching silences bads spent top below) _ x _ (λ e. cc)
        (loud (Branch top.lo top.hi) (One u) (λ lo hi e s. cc)) k
    by_phase (Searching silences bads spent top below) (Acked ack) sound p k =
        other_exchange (Searching silences bads spent top below) _ x _ (λ e. cc)
        (loud (Branch top.lo top.hi) (Acked ack) (λ lo hi e s. cc)) k
    by_phase (Searching silences bads spent top below) Noise sound p k =
        other_exchange (Searching silences bads spent top below) _ x _ (λ e. cc)
        (loud (Branch top.lo top.hi) Noise (λ lo hi e s. cc)) k
    by_phase (Searching silences bads spent top below) Failed sound p k = absurd (sound refl)
    by_phase (MutingRead u tries spare bads top below) h sound p k =
        other_exchange (MutingRead u tries spare bads top below) _ x _ (λ e. cc) (loud (Mute u) h (λ lo hi e s. cc)) k
    by_phase (Sweeping sweep) Silent sound p k = swept_silent a sweep x p.asks k
    by_phase (Sweeping sweep) (One u) sound p k =
        other_exchange (Sweeping sweep) _ x _ (λ e. cc)
        (loud (Branch sweep.question.range.lo sweep.question.range.hi) (One u) (λ lo hi e s. cc)) k
    by_phase (Sweeping sweep) (Acked ack) sound p k =
        other_exchange (Sweeping sweep) _ x _ (λ e. cc)
        (loud (Branch sweep.question.range.lo sweep.question.range.hi) (Acked ack) (λ lo hi e s. cc)) k
    by_phase (Sweeping sweep) Noise sound p k =
        other_exchange (Sweeping sweep) _ x _ (λ e. cc)
        (loud (Branch sweep.question.range.lo sweep.question.range.hi) Noise (λ lo hi e s. cc)) k
    by_phase (Sweeping sweep) Failed sound p k = absurd (sound refl)
    by_phase (MutingSwept u tries spare sweep) h sound p k =
        other_exchange (MutingSwept u tries spare sweep) _ x _ (λ e. cc) (loud (Mute u) h (λ lo hi e s. cc)) k
    by_phase (Checking u silences sweep) Silent sound p k = checked_silent u silences sweep (limit_of a) x p.few k
    by_phase (Checking u silences sweep) (One v) sound p k =
        other_exchange (Checking u silences sweep) _ x _ (λ e. cc)
        (loud (Branch unassigned.lo unassigned.hi) (One v) (λ lo hi e s. cc)) k
    by_phase (Checking u silences sweep) (Acked ack) sound p k =
        other_exchange (Checking u silences sweep) _ x _ (λ e. cc)
        (loud (Branch unassigned.lo unassigned.hi) (Acked ack) (λ lo hi e s. cc)) k
    by_phase (Checking u silences sweep) Noise sound p k =
        other_exchange (Checking u silences sweep) _ x _ (λ e. cc)
        (loud (Branch unassigned.lo unassigned.hi) Noise (λ lo hi e s. cc)) k
    by_phase (Checking u silences sweep) Failed sound p k = absurd (sound refl)
    by_phase (MutingStray u tries spare sweep) h sound p k =
        other_exchange (MutingStray u tries spare sweep) _ x _ (λ e. cc) (loud (Mute u) h (λ lo hi e s. cc)) k
    by_phase (Ended fault) h sound p k = tt

    goes_on : (phase : Phase) (asked : Asked) → wanted phase ≡ Some asked → phase ≢ Ended None
    goes_on phase asked w e = none-some asked (sym (ap wanted e) ∙ w)

    fed-uncleared : (asked : Asked) (h : Heard) → wanted a.phase ≡ Some asked
        → InPhase a.search kind known budget a.phase x (found_uids a) → IsUncleared a.phase x
        → IsUncleared (fed a h).phase (x ++ record { asked = asked; heard = h } ∷ [])
    unfolding After
    fed-uncleared asked Failed w p k =
        other_exchange a.phase _ x _ (goes_on a.phase asked w) (loud asked Failed (λ lo hi e s. cc)) k
    fed-uncleared asked Silent w p k = subst (After Silent a.phase) w (by_phase a.phase Silent (λ q. cc) p k)
    fed-uncleared asked (One u) w p k = subst (After (One u) a.phase) w (by_phase a.phase (One u) (λ q. cc) p k)
    fed-uncleared asked (Acked ack) w p k =
        subst (After (Acked ack) a.phase) w (by_phase a.phase (Acked ack) (λ q. cc) p k)
    fed-uncleared asked Noise w p k = subst (After Noise a.phase) w (by_phase a.phase Noise (λ q. cc) p k)

  runs-uncleared : (search : Search) → IsDeviceSet known → (front x : List Seen) (a b : AgentState)
      → Runs (start_by search kind known budget) front a → Runs a x b → IsUncleared a.phase front
      → IsUncleared b.phase (front ++ x)
  runs-uncleared search set front [] a b before end k =
      subst (λ l. IsUncleared b.phase l) (sym (append-nil front))
      (subst (λ (c : AgentState). IsUncleared c.phase front) (sym end) k)
  runs-uncleared search set front (e ∷ x) a b before run k =
      let w = wanted_next kind known budget a e.asked run.0 in
      subst (λ l. IsUncleared b.phase l) (append_assoc front (e ∷ []) x)
      (runs-uncleared search set (front ++ e ∷ []) x (fed a e.heard) b
      (runs-push front (start_by search kind known budget) a e.asked e.heard before run.0) run.1
      (fed-uncleared front a e.asked e.heard w.1 (stands_by search kind known budget front a set before).phase k))

-- before the first exchange
begins : (phase : Phase) → FewSilent phase [] → IsUncleared phase []
begins phase few = record {
  cleared_last = λ lo hi far s. absurd (nothing s.front s.run s.back s.whole s.many);
  few = few;
}
  where
    nothing : (front run back : List Seen) → [] ≡ front ++ run ++ back → length run ≡ TRIES → ⊥
    nothing front run back whole many =
        let sizes : 0 ≡ length (front ++ run ++ back) = ap length whole in
        omega (arith, many, sizes, length-append (front ++ run) back, length-append front run)

-- an acknowledged UID was muted
acked-muted : (x : List Seen) (u : ℕ) → has (acked_in x) u ≡ true → has (muted_in x) u ≡ true
acked-muted [] u h = absurd (true≢false (sym h))
acked-muted (e ∷ x) u h =
    elim (put-has (acked_uid e.asked e.heard) (acked_in x) u h) [
      | inl here ↦ has-first (muted_uid e.asked) (muted_in x) u (one e.asked e.heard here)
      | inr later ↦ has-put (muted_uid e.asked) (muted_in x) u (acked-muted x u later)
    ]
  where
    one : (asked : Asked) (heard : Heard) → acked_uid asked heard ≡ Some u → muted_uid asked ≡ Some u
    one (Mute v) (Acked ack) is = is
    one (Mute v) Failed is = cc
    one (Mute v) Silent is = cc
    one (Mute v) (One w) is = cc
    one (Mute v) Noise is = cc
    one Unmute heard is = cc
    one (Branch lo hi) heard is = cc
    one Other heard is = cc

-- so the greatest UID isn't in a certificate's set
greatest_absent : (kind : Kind) (known : List ℕ) (x : List Seen) (s : List ℕ) → SearchShows kind known x s
    → has s greatest ≡ true → ⊥
greatest_absent kind known x s c h = no_device
    (member _ (muted_in x) greatest c.tried (acked-muted x greatest
    (sym (has-set_of (acked_in x) greatest) ∙ subst (λ l. has l greatest ≡ true) c.set h))).device
  where
    no_device : IsDevice greatest → ⊥
    no_device d = true≢false d.own

pub certificate_ends_by : (search : Search) → CertificateIsTheEnd search
certificate_ends_by search kind known budget x b set run s certificate =
    (asks_nothing (nat_lt b.frames b.budget), ap fault_of over)
  where
    k : IsUncleared b.phase x
    k = runs-uncleared kind known budget search set [] x (start_by search kind known budget) b refl run
        (begins (start_by search kind known budget).phase tt)

    over : b.phase ≡ Ended None
    over = elim (certificate.search.cleared greatest (omega arith)) [
      | inl there ↦ absurd (greatest_absent kind known x (uids_of s) certificate.search there)
      | inr c ↦ k.cleared_last c.lo c.hi
          (leb-true greatest c.hi (and_parts (nat_le c.lo greatest) (nat_le greatest c.hi) c.within).1) c.silent
    ]

    asks_nothing : (goes : Bool) → cond goes (wanted b.phase) None ≡ None
    asks_nothing true = ap wanted over
    asks_nothing false = refl

-- the same of the steady search
pub certificate_ends : CertificateIsTheEnd Steady
certificate_ends = certificate_ends_by Steady
