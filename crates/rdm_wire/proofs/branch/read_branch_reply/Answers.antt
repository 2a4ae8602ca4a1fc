use Rattle.std.proofs.Common.{◌==◌, ℕ, length, ap, sym, ◌∙◌, true≢false}
use Rattle.rdm_wire.proofs.Text.{text_read-of, of-text_read}
use Rattle.rdm_wire.proofs.branch.read_branch_reply.Goals as goal

pub returns-in-Some-clause-reads : goal.returns-in-Some-clause-reads
returns-in-Some-clause-reads c = of-text_read c.args.bytes.now c.in-Some.uid (sym c.in-Some.ensures)

pub returns-in-Some-clause-one : goal.returns-in-Some-clause-one
returns-in-Some-clause-one c u = (
  λ e. of-text_read c.args.bytes.now u (cc),
  λ text. let read = text_read-of c.args.bytes.now u text in cc,
)

pub returns-in-None-clause-one : goal.returns-in-None-clause-one
returns-in-None-clause-one c u = (
  λ e. cc,
  λ text. let read = text_read-of c.args.bytes.now u text in cc,
)

pub returns-in-None-clause-reads : goal.returns-in-None-clause-reads
returns-in-None-clause-reads c = (
  λ none. let empty = c.if-is_empty.ensures in let zero_long = ap length none in
      absurd (true≢false (ap (λ (n : ℕ). n == 0) (sym zero_long) ∙ sym empty)),
  λ u text. let read = text_read-of c.args.bytes.now u text in cc,
)
