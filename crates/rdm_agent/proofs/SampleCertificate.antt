-- The sample run has its certificate.
use Rattle.rdm_agent.proofs.Common.{◌≡◌, ℕ, true, List, [], ◌∷◌, take, drop, Some, refl, subst, inl, inr}
use Rattle.rdm_agent.proofs.Common.{arith, ◌⊎◌, nat_le, le-leb, and_from, has, EachAfter, Seen, Unmute, Mute, Silent}
use Rattle.rdm_agent.proofs.Common.{One, Acked, EachAfter-push, muted_by, read_in, Certificate, SearchShows, sample_run}
use Rattle.rdm_agent.proofs.Common.{sample_uid, sample_device, exchange, all_branch, Full, none-some}
use Rattle.rdm_agent.specs.SampleRun.{sample_ack}
use Rattle.rdm_wire.proofs.EachAfterLemmas.{no_element}

-- a muted UID was read before
abbrev WasRead : List Seen → Seen → Type 0
WasRead before e = (u : ℕ) → muted_by e ≡ Some u → (has [] u ≡ true) ⊎ (has (read_in before) u ≡ true)

is_sample : (u : ℕ) → Some sample_uid ≡ Some u → (has [] u ≡ true) ⊎ (has (sample_uid ∷ []) u ≡ true)
is_sample u h = inr (subst (λ (v : ℕ). has (sample_uid ∷ []) v ≡ true) (same h) refl)
  where
    same : Some sample_uid ≡ Some u → sample_uid ≡ u
    same k = cc

first_five : EachAfter WasRead (take 5 sample_run)
first_five =
    EachAfter-push WasRead (take 4 sample_run) (exchange (Mute sample_uid) (Acked sample_ack))
    (EachAfter-push WasRead (take 3 sample_run) (exchange all_branch (One sample_uid))
    (EachAfter-push WasRead (take 2 sample_run) (exchange Unmute Silent)
    (EachAfter-push WasRead (take 1 sample_run) (exchange Unmute Silent)
    (EachAfter-push WasRead [] (exchange Unmute Silent) (λ front back e w. absurd (no_element front back e w))
    (λ u m. absurd (none-some u m)))
    (λ u m. absurd (none-some u m)))
    (λ u m. absurd (none-some u m)))
    (λ u m. absurd (none-some u m)))
    is_sample

silent_branch : Seen
silent_branch = exchange all_branch Silent

pub read_before : EachAfter WasRead sample_run
unfolding silent_branch
read_before =
    EachAfter-push WasRead (take 9 sample_run) silent_branch
    (EachAfter-push WasRead (take 8 sample_run) silent_branch
    (EachAfter-push WasRead (take 7 sample_run) silent_branch
    (EachAfter-push WasRead (take 6 sample_run) silent_branch
    (EachAfter-push WasRead (take 5 sample_run) silent_branch first_five (λ u m. absurd (none-some u m)))
    (λ u m. absurd (none-some u m)))
    (λ u m. absurd (none-some u m)))
    (λ u m. absurd (none-some u m)))
    (λ u m. absurd (none-some u m))

shown : SearchShows Full [] sample_run (sample_uid ∷ [])
shown = record {
  unmutes = refl;
  no_failure = (
    (λ h. cc),
    (
      (λ h. cc),
      ((λ h. cc), ((λ h. cc), ((λ h. cc), ((λ h. cc), ((λ h. cc), ((λ h. cc), ((λ h. cc), ((λ h. cc), tt)))))))),
    ),
  );
  set = refl;
  tried = (record { device = record { in_range = omega arith; own = refl }; tried = inl refl }, tt);
  cleared = λ u below. inr (record {
    lo = 0;
    hi = 0xffffffffffff;
    within = and_from (nat_le 0 u) (nat_le u 0xffffffffffff) (le-leb 0 u (omega arith))
        (le-leb u 0xffffffffffff (omega arith));
    silent = record {
      front = take 5 sample_run;
      run = drop 5 sample_run;
      back = [];
      whole = refl;
      many = refl;
      each = ((refl, refl), ((refl, refl), ((refl, refl), ((refl, refl), ((refl, refl), tt)))));
    };
  });
  known_first = tt;
  read_first = read_before;
}

pub certified : Certificate Full [] sample_run (sample_device ∷ [])
certified = record { search = shown; first = (refl, tt) }
