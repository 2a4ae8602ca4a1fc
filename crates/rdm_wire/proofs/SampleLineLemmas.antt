-- The sample lines: what is honest of them, and what isn't.
use Rattle.std.proofs.Common.{◌≡◌, ◌≢◌, ℕ, Bool, true, false, ◌||◌, List, [], ◌∷◌, refl, sym, inl, inr, true≢false}
use Rattle.std.proofs.Common.{arith}
use Rattle.std.specs.Prelude.{◌==◌}
use Rattle.rdm_wire.specs.Uid.{has, IsDeviceSet}
use Rattle.rdm_wire.specs.Honest.{Seen, LineState, LineCounts, before_run}
use Rattle.rdm_wire.specs.Honest.Heard.{Failed, One, Noise}
use Rattle.rdm_wire.specs.HonestOver.{HonestOver, ComeAndLeave}
use Rattle.rdm_wire.specs.SampleLines.{first_device, one_there, two_there, asked_all}

pub one-devices : IsDeviceSet one_there
one-devices = record { devices = (record { in_range = omega arith; own = refl }, tt); ascending = (tt, tt) }

two-devices : IsDeviceSet two_there
two-devices = record {
  devices = (record { in_range = omega arith; own = refl }, (record { in_range = omega arith; own = refl }, tt));
  ascending = ((omega arith, tt), (tt, tt));
}

-- nobody is muted, and nothing was lost
abbrev quiet : LineState
quiet = before_run (λ u. false)

quiet-counts : LineCounts quiet 0 0 0
quiet-counts = record {
  branches = refl;
  mutes = refl;
  unmutes = refl;
  few_branches = omega arith;
  few_mutes = omega arith;
}

-- who comes wasn't there before, and nobody is muted
quiet-moves : (earlier last present : List ℕ)
    → ((u : ℕ) → has last u ≡ false → has present u ≡ true → has earlier u ≡ false)
    → ComeAndLeave earlier last present quiet quiet
quiet-moves earlier last present new = record {
  stays = λ u was is. refl;
  comes = λ u was is. (new u was is, refl);
  leaves = λ u away. refl;
  lost_branches = refl;
  lost_mutes = refl;
  unmutes = refl;
}

-- who wasn't the only one before isn't it twice
twice : (b : Bool) → (b || false) ≡ false → (b || (b || false)) ≡ false
twice true h = h
twice false h = refl

pub comes : HonestOver (one_there ∷ two_there ∷ []) (asked_all (One first_device) ∷ asked_all Noise ∷ [])
comes = record {
  one_each = refl;
  devices = (one-devices, (two-devices, tt));
  muted = λ u. false;
  present = λ u h. absurd (true≢false (sym h));
  chain = (
    quiet,
    quiet-moves one_there one_there one_there (λ u was is. was),
    inr (
      quiet,
      (inl refl, (λ u. refl), quiet-counts),
      (
        quiet,
        quiet-moves (first_device ∷ first_device ∷ []) one_there two_there (λ u was is. twice (u == first_device) was),
        inr (quiet, (tt, (λ u. refl), quiet-counts), tt),
      ),
    ),
  );
}

pub leaves : HonestOver (two_there ∷ one_there ∷ []) (asked_all Noise ∷ asked_all (One first_device) ∷ [])
leaves = record {
  one_each = refl;
  devices = (two-devices, (one-devices, tt));
  muted = λ u. false;
  present = λ u h. absurd (true≢false (sym h));
  chain = (
    quiet,
    quiet-moves two_there two_there two_there (λ u was is. was),
    inr (
      quiet,
      (tt, (λ u. refl), quiet-counts),
      (
        quiet,
        quiet-moves _ two_there one_there (λ u was is. only_two u was is),
        inr (quiet, (inl refl, (λ u. refl), quiet-counts), tt),
      ),
    ),
  );
}
  where
    only_two : {P : Type 0} → (u : ℕ) → has two_there u ≡ false → has one_there u ≡ true → P
    only_two {P} u was is = by_test (u == first_device) was is
      where
        by_test : (b : Bool) → (b || has (0x9abc00000002 ∷ []) u) ≡ false → (b || false) ≡ true → P
        by_test true was is = absurd (true≢false was)
        by_test false was is = absurd (true≢false (sym is))

pub comes_back : (a b c : Seen) → a.heard ≢ Failed → b.heard ≢ Failed
    → HonestOver (two_there ∷ one_there ∷ two_there ∷ []) (a ∷ b ∷ c ∷ []) → ⊥
comes_back a b c first second over =
    elim over.chain.2 [
      | inl failed ↦ first failed
      | inr step ↦ elim step.2.2 [
        | inl failed ↦ second failed
        | inr later ↦ true≢false (later.2.1.comes 0x9abc00000002 refl refl).0
      ]
    ]
