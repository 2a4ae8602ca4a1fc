use Rattle.std.proofs.Common.{sym, ◌∙◌}
use Rattle.std.proofs.lemmas.Bool.{false≢true}
use Rattle.rdm_locked.proofs.RecordLemmas.{no_came, cames_skip, cames_next, cames_end, same_heads, same_next, same_end}
use Rattle.rdm_locked.proofs.RecordLemmas.{not_longer}
use Rattle.rdm_locked.proofs.exchange.has_events.Goals as goal

pub entries-init : goal.entries-init
entries-init c = (λ same. same, λ same. same)

pub entries-preserved-in_default : goal.entries-preserved-in_default
entries-preserved-in_default c =
    let skip = cames_skip c.args.entries.now c.entries.entry-index c.entry-item.result c.entries-test.true
    c.entry-item.is (no_came c.entry-item.result c.in_default.not-Came) in
    rw skip at c.entries.invariant

pub entries-preserved : goal.entries-preserved
entries-preserved c =
    let next = cames_next c.args.entries.now c.entries.entry-index c.entry-item.result c.in-Came.event
    c.entries-test.true c.entry-item.is c.in-Came.is in
    same_next _ _ _ _ (c.is_same_event.ensures.0 c.if-not-is_same_event.false)
    (rw (next, c.in-Some.ensures.cases.0) at c.entries.invariant)

pub returns : goal.returns
returns c =
    let end = cames_end c.args.entries.now c.entries.entry-index c.entries-test.false in
    same_end _ c.entries.left.now _ (rw end at c.entries.invariant) c.is_empty.ensures

pub returns-in_default-split_first : goal.returns-in_default-split_first
returns-in_default-split_first c =
    let next = cames_next c.args.entries.now c.entries.entry-index c.entry-item.result c.in-Came.event
    c.entries-test.true c.entry-item.is c.in-Came.is in (
      λ no. absurd (false≢true no),
      λ same. absurd (not_longer _ _ _ c.entries.left.now
          c.in_default-split_first.ensures.cases (rw next at (c.entries.invariant.0 same))),
    )

pub returns-then-not-is_same_event : goal.returns-then-not-is_same_event
returns-then-not-is_same_event c =
    let next = cames_next c.args.entries.now c.entries.entry-index c.entry-item.result c.in-Came.event
    c.entries-test.true c.entry-item.is c.in-Came.is in (
      λ no. absurd (false≢true no),
      λ same. sym c.if-not-is_same_event.true
          ∙ c.is_same_event.ensures.1 (same_heads _ _ _ _ (rw (next, c.in-Some.ensures.cases.0) at
          (c.entries.invariant.0 same))),
    )
