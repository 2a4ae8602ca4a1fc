-- The search: branches of the top range, and mutes of what it spells.
use Rattle.rdm_agent.proofs.Common.{◌≡◌, ℕ, ◌+◌, ◌<◌, ◌^◌, true, false, List, [], ◌∷◌, ◌++◌, Option, None, Some, refl}
use Rattle.rdm_agent.proofs.Common.{sym, subst, inl, inr, arith, ◌⊎◌, ◌==◌, nat_le, before_first, eqb-true, eqb-false}
use Rattle.rdm_agent.proofs.Common.{le-leb, and_from, cases_lt, cond_both, has, IsDevice, Span, middle, Heard, Seen}
use Rattle.rdm_agent.proofs.Common.{is_acked, Branch, Mute, Acked, MuteAck, muted_by, muted_in, read_in, is_branch}
use Rattle.rdm_agent.proofs.Common.{InSuccession, IsSilentBranch, IsLostMute, SearchShows, IsTried, IsCleared, known_of}
use Rattle.rdm_agent.proofs.Common.{IsCorrupt, split, search_below, Kind, TRIES, Search, Steady, Quick, IsCorruptBy}
use Rattle.rdm_agent.proofs.Common.{asks_again, spare_at, search_apart, lower_half, nat_lt, ltb-true, ltb-false, ◌≤◌}
use Rattle.rdm_agent.proofs.Common.{eq-eqb, ◌∙◌, BAD_ANSWERS, answers_in_a_row, none-some}
use Rattle.rdm_agent.proofs.Rows.{NotCorrupt, Answered, same-row, none-row, several-none}
use Rattle.rdm_agent.proofs.Members.{first_part}
use Rattle.rdm_agent.proofs.OneDevice.{NotFailed}
use Rattle.rdm_agent.proofs.Pushes.{has-before_branch, IsCleared-push}
use Rattle.rdm_agent.proofs.Sets.{each_member}
use Rattle.rdm_agent.proofs.Stacks.{IsStack-pop, IsStack-split}
use Rattle.rdm_agent.proofs.FoundLemmas.{IsFound-all_reported, found-same}
use Rattle.rdm_agent.proofs.UnderWay.{EndsWith-none, named-mute, lost-acks_none, under_way-branch, under_way-lost}
use Rattle.rdm_agent.proofs.UnderWay.{under_way-acked, under_way-given_up}
use Rattle.rdm_agent.proofs.Invariant.{IsFound, IsUnderWay, Searches, InPhase}

module _ (known : List ℕ) (top : Span) (below : List Span) (x : List Seen) (found : List ℕ) where
  -- the top range is branched
  pub search-branch : (busy : Option ℕ) (lo hi : ℕ) (h : Heard) → Searches known None top below x found
      → NotFailed (record { asked = Branch lo hi; heard = h })
      → Searches known busy top below (x ++ record { asked = Branch lo hi; heard = h } ∷ []) found
  search-branch busy lo hi h s sound = record {
    under_way = under_way-branch known x found busy lo hi h s.under_way sound
        (found-same x found e s.under_way.is_found refl);
    known_first = λ u k. has-before_branch muted_by x (e ∷ []) u (s.known_first u k);
    stack = s.stack;
    cleared = λ u low. elim (s.cleared u low)
        [ inl here ↦ inl here | inr cleared ↦ inr (IsCleared-push (e ∷ []) cleared) ];
  }
    where
      e : Seen
      e = record { asked = Branch lo hi; heard = h }

  -- a mute of what it spelt is lost
  pub search-lost : (u : ℕ) (h : Heard) → Searches known (Some u) top below x found → has (read_in x) u ≡ true
      → NotFailed (record { asked = Mute u; heard = h }) → is_acked h ≡ false
      → Searches known (Some u) top below (x ++ record { asked = Mute u; heard = h } ∷ []) found
  search-lost u h s was sound lost = record {
    under_way = under_way-lost known x found u h s.under_way sound
        (found-same x found e s.under_way.is_found (lost-acks_none u h lost)) (named-mute known x u h (inr was));
    known_first = λ v k. has-before_branch muted_by x (e ∷ []) v (s.known_first v k);
    stack = s.stack;
    cleared = λ v low. elim (s.cleared v low)
        [ inl here ↦ inl here | inr cleared ↦ inr (IsCleared-push (e ∷ []) cleared) ];
  }
    where
      e : Seen
      e = record { asked = Mute u; heard = h }

  -- one is acknowledged
  pub search-acked : (u : ℕ) (ack : MuteAck) (more : List ℕ) → IsDevice u → Searches known (Some u) top below x found
      → has (read_in x) u ≡ true → IsFound (x ++ record { asked = Mute u; heard = Acked ack } ∷ []) more
      → ((v : ℕ) → has found v ≡ true → has more v ≡ true) → has more u ≡ true
      → Searches known None top below (x ++ record { asked = Mute u; heard = Acked ack } ∷ []) more
  search-acked u ack more device s was is_found grows here = record {
    under_way = under_way-acked known x found u ack more device s.under_way is_found grows here
        (named-mute known x u (Acked ack) (inr was));
    known_first = λ v k. has-before_branch muted_by x (e ∷ []) v (s.known_first v k);
    stack = s.stack;
    cleared = λ v low. elim (s.cleared v low)
        [ inl old ↦ inl (grows v old) | inr cleared ↦ inr (IsCleared-push (e ∷ []) cleared) ];
  }
    where
      e : Seen
      e = record { asked = Mute u; heard = Acked ack }

  -- five were lost
  pub search-given_up : (u : ℕ) → IsDevice u → InSuccession TRIES (IsLostMute u) x
      → Searches known (Some u) top below x found → Searches known None top below x found
  search-given_up u device five s = record {
    under_way = under_way-given_up known u x found device five s.under_way;
    known_first = s.known_first;
    stack = s.stack;
    cleared = s.cleared;
  }

  -- the top range is split
  pub search-split : (top.lo ≡ top.hi → ⊥) → Searches known None top below x found
      → Searches known None (record { lo = top.lo; hi = middle top })
      (record { lo = middle top + 1; hi = top.hi } ∷ below) x found
  search-split two s = record {
    under_way = s.under_way;
    known_first = s.known_first;
    stack = IsStack-split top below two s.stack;
    cleared = s.cleared;
  }

  -- five silences clear the top range
  pub search-cleared : InSuccession TRIES (IsSilentBranch top.lo top.hi) x → Searches known None top below x found
      → (u : ℕ) → u < top.hi + 1 → (has found u ≡ true) ⊎ IsCleared x u
  search-cleared five s u low = elim (cases_lt u top.lo) [
    | inl lower ↦ s.cleared u lower
    | inr inside ↦ inr (record {
      lo = top.lo;
      hi = top.hi;
      within = and_from (nat_le top.lo u) (nat_le u top.hi) (le-leb top.lo u inside) (le-leb u top.hi (omega arith));
      silent = five;
    })
  ]

-- all is cleared
pub all_cleared : (kind : Kind) (known : List ℕ) (x : List Seen) (found : List ℕ)
    → IsUnderWay (known_of kind known) None x found
    → ((u : ℕ) → has (known_of kind known) u ≡ true → has (muted_in (before_first is_branch x)) u ≡ true)
    → ((u : ℕ) → u < 2 ^ 48 → (has found u ≡ true) ⊎ IsCleared x u) → SearchShows kind known x found
all_cleared kind known x found w known_first cleared = record {
  unmutes = w.begun;
  no_failure = w.no_failure;
  set = w.is_found.set;
  tried = each_member (IsTried found x) (muted_in x)
      (λ u muted. elim (w.tried u muted) [ inl nobody ↦ absurd (none-some u nobody) | inr tried ↦ tried ]);
  cleared = cleared;
  known_first = each_member _ (known_of kind known) known_first;
  read_first = w.named;
}

-- the top range is popped: the next one is searched, or the run ends
pub search-next : (search : Search) (kind : Kind) (known : List ℕ) (budget : ℕ) (top : Span) (below : List Span)
    (x : List Seen) (e : Seen) (found : List ℕ) → Searches (known_of kind known) None top below (x ++ e ∷ []) found
    → InSuccession TRIES (IsSilentBranch top.lo top.hi) (x ++ e ∷ [])
    → ((r : Span) → NotCorrupt search r 0 (x ++ e ∷ []))
    → InPhase search kind known budget (search_below below) (x ++ e ∷ []) found
search-next search kind known budget top [] x e found s five not_corrupt = record {
  before = x;
  last = e;
  whole = refl;
  no_failure = first_part NotFailed x (e ∷ []) s.under_way.no_failure;
  certified = all_cleared kind known (x ++ e ∷ []) found s.under_way s.known_first
      (λ u low. search-cleared (known_of kind known) top [] (x ++ e ∷ []) found five s u
      (subst (λ n. u < n) (sym s.stack.rest) low));
}
search-next search kind known budget top (r ∷ rs) x e found s five not_corrupt = record {
  searches = record {
    under_way = s.under_way;
    known_first = s.known_first;
    stack = IsStack-pop top r rs s.stack;
    cleared = λ u low. search-cleared (known_of kind known) top (r ∷ rs) (x ++ e ∷ []) found five s u
        (subst (λ n. u < n) s.stack.rest.3 low);
  };
  few = omega arith;
  silent = EndsWith-none _ (x ++ e ∷ []);
  not_corrupt = not_corrupt r;
}

-- a collision splits the top range; one UID is corrupt
search-collided : (search : Search) (kind : Kind) (known : List ℕ) (budget : ℕ) (top : Span) (below : List Span)
    (x : List Seen) (e : Seen) (found : List ℕ) → Searches (known_of kind known) None top below (x ++ e ∷ []) found
    → (top.lo ≡ top.hi → IsCorruptBy search top.lo (x ++ e ∷ []))
    → ((top.lo ≡ top.hi → ⊥) → NotCorrupt search (lower_half top) 0 (x ++ e ∷ []))
    → InPhase search kind known budget (split top below) (x ++ e ∷ []) found
search-collided search kind known budget top below x e found s corrupt not_corrupt =
    cond_both (top.lo == top.hi) _ _ (λ p. InPhase search kind known budget p (x ++ e ∷ []) found)
    (λ one. record {
      before = x;
      last = e;
      whole = refl;
      no_failure = first_part NotFailed x (e ∷ []) s.under_way.no_failure;
      certified = (corrupt (eqb-true top.lo top.hi one), IsFound-all_reported (x ++ e ∷ []) found s.under_way.is_found);
    })
    (λ two. record {
      searches = search-split (known_of kind known) top below (x ++ e ∷ []) found (eqb-false top.lo top.hi two) s;
      few = omega arith;
      silent = EndsWith-none _ (x ++ e ∷ []);
      not_corrupt = not_corrupt (eqb-false top.lo top.hi two);
    })

-- the top range had so many bad answers in a row: it is asked again, or split
pub search-apart : (search : Search) (kind : Kind) (known : List ℕ) (budget bads spent : ℕ) (top : Span)
    (below : List Span) (x : List Seen) (e : Seen) (found : List ℕ)
    → Searches (known_of kind known) None top below (x ++ e ∷ []) found
    → Answered search top bads (x ++ e ∷ [])
    → (top.lo ≡ top.hi → spare_at search top bads ≡ 0 → IsCorrupt top.lo (x ++ e ∷ []))
    → ((top.lo ≡ top.hi → ⊥) → (u : ℕ) → IsCorrupt u (x ++ e ∷ []) → ⊥)
    → InPhase search kind known budget (search_apart search bads spent top below) (x ++ e ∷ []) found
search-apart Steady kind known budget bads spent top below x e found s answered corrupt sound =
    search-collided Steady kind known budget top below x e found s (λ one. corrupt one refl) sound
search-apart Quick kind known budget bads spent top below x e found s answered corrupt sound =
    cond_both (asks_again Quick top bads spent) _ _ (λ p. InPhase Quick kind known budget p (x ++ e ∷ []) found)
    (λ again. record {
      searches = s;
      few = omega arith;
      silent = EndsWith-none _ (x ++ e ∷ []);
      not_corrupt = same-row top bads (x ++ e ∷ []) answered
          (λ one. ltb-true bads BAD_ANSWERS (sym (opened one) ∙ again));
    })
    (λ last. search-collided Quick kind known budget top below x e found s
    (λ one. (corrupt one (none_spare one last), enough one last))
    (λ several. none-row (lower_half top) (x ++ e ∷ []) (several-none top bads (x ++ e ∷ []) answered several)))
  where
    opened : top.lo ≡ top.hi → asks_again Quick top bads spent ≡ nat_lt bads BAD_ANSWERS
    opened one = rw (eq-eqb top.lo top.hi one) refl

    none_spare : top.lo ≡ top.hi → asks_again Quick top bads spent ≡ false → spare_at Quick top bads ≡ 0
    none_spare one last = rw (eq-eqb top.lo top.hi one, sym (opened one) ∙ last) refl

    enough : top.lo ≡ top.hi → asks_again Quick top bads spent ≡ false
        → BAD_ANSWERS ≤ answers_in_a_row top.lo (x ++ e ∷ [])
    enough one last = let is = answered.own one in
        let many = ltb-false bads BAD_ANSWERS (sym (opened one) ∙ last) in omega (arith, is, many)
