use Rattle.std.proofs.Common.{sym, ◌∙◌, refl}
use Rattle.std.proofs.lemmas.Bool.{false≢true}
use Rattle.rdm_locked.proofs.RecordLemmas.{no_send, frames_skip, frames_next, frames_end, begins_heads, begins_next}
use Rattle.rdm_locked.proofs.RecordLemmas.{begins_end, begins_none}
use Rattle.rdm_locked.proofs.exchange.begins_with_frames.Goals as goal

pub entries-init : goal.entries-init
entries-init c = (λ same. same, λ same. same)

pub entries-preserved-in_default : goal.entries-preserved-in_default
entries-preserved-in_default c =
    let skip = frames_skip c.args.entries.now c.entries.entry-index c.entry-item.result c.entries-test.true
    c.entry-item.is (no_send c.entry-item.result c.in_default.not-Send) in
    rw skip at c.entries.invariant

pub entries-preserved : goal.entries-preserved
entries-preserved c =
    let next = frames_next c.args.entries.now c.entries.entry-index c.entry-item.result c.in-Send.owner c.in-Send.frame
    c.entries-test.true c.entry-item.is c.in-Send.is in
    begins_next _ _ _ _ (c.is_same_frame.ensures.0 c.if-not-is_same_frame.false)
    (rw (next, c.in-Some.ensures.cases.0) at c.entries.invariant)

pub returns : goal.returns
returns c =
    let end = frames_end c.args.entries.now c.entries.entry-index c.entries-test.false in
    begins_end _ c.entries.left.now _ (rw end at c.entries.invariant) c.is_empty.ensures

pub returns-in_default-split_first : goal.returns-in_default-split_first
returns-in_default-split_first c = (
  λ yes. c.entries.invariant.1
      (begins_none _ _ c.entries.left.now c.in_default-split_first.ensures.cases),
  λ begins. refl,
)

pub returns-then-not-is_same_frame : goal.returns-then-not-is_same_frame
returns-then-not-is_same_frame c =
    let next = frames_next c.args.entries.now c.entries.entry-index c.entry-item.result c.in-Send.owner c.in-Send.frame
    c.entries-test.true c.entry-item.is c.in-Send.is in (
      λ no. absurd (false≢true no),
      λ same. sym c.if-not-is_same_frame.true
          ∙ c.is_same_frame.ensures.1 (begins_heads _ _ _ _ (rw (next, c.in-Some.ensures.cases.0) at
          (c.entries.invariant.0 same))),
    )
