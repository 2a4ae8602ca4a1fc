use Rattle.std.proofs.Common.{◌≡◌, ◌-◌, ◌≤◌, ◌∙◌, ap, refl, arith, ℕ, List, [], ◌∷◌, length, take, drop, None}
use Rattle.std.proofs.lemmas.Bool.{ne_eqb}
use Rattle.std.proofs.lemmas.List.{take_rest}
use Rattle.std.specs.List.{prefix_len}
use Rattle.rdm_wire.specs.Reading.{after_preamble}
use Rattle.rdm_wire.proofs.BranchLemmas.{is_fe, after_separator, preamble_too_long, after_preamble-short}
use Rattle.rdm_wire.proofs.branch.after_preamble.Goals as goal

-- what is read after a preamble of n bytes, where at most this many may stand
after : (most : ℕ) (bytes : List ℕ) (n : ℕ) → n ≡ prefix_len is_fe bytes → n ≤ most
    → after_preamble most bytes ≡ after_separator (take (length bytes - n) (drop n bytes))
after most bytes n is short = rw (take_rest bytes n, is) (after_preamble-short most bytes (omega arith))

none_after : (bytes : List ℕ) → length bytes ≡ 0 → after_separator bytes ≡ None
none_after [] len = refl
none_after (x ∷ xs) len = absurd (omega arith)

pub returns-then-preamble-from : goal.returns-then-preamble-from
returns-then-preamble-from c = preamble_too_long _ c.args.bytes.now (omega arith)

pub returns-in_err-separator : goal.returns-in_err-separator
returns-in_err-separator c =
    rw c.from_residual.ensures
    (after _ _ _ c.preamble_len-preamble.ensures.value (omega arith)
    ∙ none_after _ c.in_err-separator.ensures.cases)

pub returns-then-separator : goal.returns-then-separator
returns-then-separator c =
    after _ _ _ c.preamble_len-preamble.ensures.value (omega arith)
    ∙ ap after_separator c.in_ok-separator.ensures.cases.0 ∙ rw c.if-separator.true refl

pub returns-else-separator : goal.returns-else-separator
returns-else-separator c =
    after _ _ _ c.preamble_len-preamble.ensures.value (omega arith)
    ∙ ap after_separator c.in_ok-separator.ensures.cases.0
    ∙ rw (ne_eqb c.in_ok-separator.separator.now 0xaa c.if-separator.false) refl
