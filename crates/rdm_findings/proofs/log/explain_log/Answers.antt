use Rattle.std.proofs.Common.{◌≡◌, [], ◌∙◌, ◌||◌, Err, inl, inr, refl, sym, ap, arith}
use Rattle.std.proofs.KnownBytes.{Appends-nil, Consumes-nil}
use Rattle.std.proofs.lemmas.Grind.{common_steps}
use Rattle.std.proofs.lemmas.List.{nil_from_length}
use Rattle.rdm_findings.proofs.LogLemmas.{nothing_more, line_more, log_end, either_broke, other_broke}
use Rattle.rdm_findings.proofs.StopLemmas.{passed_on, stopped_before, stopped_after, stopped_last}
use Rattle.rdm_findings.proofs.log.explain_log.Goals as goal
use Rattle.rdm_findings.proofs.log.explain_log.Goals.{then-any, else-any}
use Rattle.rdm_findings.proofs.log.explain_log.Goals.{then-broken, else-broken, then-broken-2, else-broken-2}

pub returns-then-is_empty-clause-explained : goal.returns-then-is_empty-clause-explained
returns-then-is_empty-clause-explained g c =
    let none : c.read_next.new.text.items ≡ [] =
    nil_from_length c.read_next.new.text.items (grind (arith, common_steps)) in
    let was = c.lines.broken in
    let breaks = c.in_ok-breaks.breaks in
    let either : c.if-broken.result ≡ was || breaks = elim c.if-broken.branch [
      | then-broken w ↦ either_broke was breaks c.if-broken.result w.if-broken.true w.result-is
      | else-broken w ↦ other_broke was breaks c.if-broken.result w.if-broken.false w.result-is
    ] in
    log_end c.args.form
    c.args.present.now c.args.passing.now _ _ _ _ _ c.lines.reading c.lines.any was breaks c.if-broken.result
    c.lines.number
    (nothing_more c.args.form
    c.args.present.now c.args.passing.now _ _ _ _ _ c.lines.reading c.lines.any was c.lines.number
    c.read_next.new.text.items c.lines.invariant c.in_ok-read_next.ensures.text none)
    either c.in_ok-breaks.ensures.explained

pub lines-init : goal.lines-init
lines-init g c = record {
  lines = [];
  fits = λ k line lt. absurd (omega (arith, lt));
  text = [];
  consumed = Consumes-nil (g.R.Read.remaining c.args.reader.now);
  reads = c.new-reading.ensures;
  explained = (refl, refl);
  wrote = Appends-nil (g.W.Write.contents c.args.writer.now);
  some = refl;
  count = refl;
}

pub lines-preserved : goal.lines-preserved
lines-preserved g c =
    let was = c.lines.broken in
    let breaks = c.in_ok-breaks-2.breaks in
    let either : c.if-broken-2.broken ≡ was || breaks = elim c.if-broken-2.branch [
      | then-broken-2 w ↦ either_broke was breaks c.if-broken-2.broken w.if-broken-2.true w.broken-is
      | else-broken-2 w ↦ other_broke was breaks c.if-broken-2.broken w.if-broken-2.false w.broken-is
    ] in
    let ends = c.ends_run-ends.result in
    let some : c.if-any.any ≡ c.lines.any || ends = elim c.if-any.branch [
      | then-any w ↦ either_broke c.lines.any ends c.if-any.any w.if-any.true w.any-is
      | else-any w ↦ other_broke c.lines.any ends c.if-any.any w.if-any.false w.any-is
    ] in
    line_more c.args.form
    c.args.present.now c.args.passing.now _ _ _ _ _ _ c.lines.reading c.take_line.new.reading c.lines.any
    c.if-any.any was breaks c.if-broken-2.broken c.lines.number c.in_ok-line.line c.read_next.new.text.items
    c.lines.invariant c.in_ok-read_next.ensures.text (c.in_ok-line.ensures.line ∙ c.deref.ensures.value)
    c.in_ok-line.ensures.fits c.in_ok-take_line.ensures.taken (rw c.ends_run-ends.ensures at some) either
    c.in_ok-breaks-2.ensures.explained

pub returns-in_err-read_next-clause-stopped : goal.returns-in_err-read_next-clause-stopped
returns-in_err-read_next-clause-stopped g c =
    passed_on _ _ _ c.from_residual.ensures.1
    (stopped_before c.args.form c.args.present.now c.args.passing.now _ _ _ _ _ c.lines.reading c.lines.any
    c.lines.broken c.lines.number _ c.lines.invariant
    (λ n is. let r = c.in_err-read_next.ensures.refused n (ap Err is) in
    (c.read_next.new.text.items, r.1, sym r.0)))

pub returns-in_err-breaks-clause-stopped : goal.returns-in_err-breaks-clause-stopped
returns-in_err-breaks-clause-stopped g c =
    passed_on _ _ _ c.from_residual-in_err-breaks.ensures.1
    (stopped_last c.args.form c.args.present.now c.args.passing.now _ _ _ _ _ _ c.lines.reading c.lines.any
    c.lines.broken c.lines.number _ c.lines.invariant (λ n is. c.in_err-breaks.ensures.fault n (ap Err is))
    c.in_err-breaks.ensures.stopped)

pub returns-in_err-line-clause-stopped : goal.returns-in_err-line-clause-stopped
returns-in_err-line-clause-stopped g c =
    passed_on _ _ _ c.from_residual-in_err-line.ensures.1
    (stopped_before c.args.form c.args.present.now c.args.passing.now _ _ _ _ _ c.lines.reading c.lines.any
    c.lines.broken c.lines.number _ c.lines.invariant
    (λ n is. (
      c.read_next.new.text.items,
      c.in_ok-read_next.ensures.text,
      sym (c.in_err-line.ensures.refused n (ap Err is)),
    )))

pub returns-in_err-breaks-2-clause-stopped : goal.returns-in_err-breaks-2-clause-stopped
returns-in_err-breaks-2-clause-stopped g c =
    passed_on _ _ _ c.from_residual-in_err-breaks-2.ensures.1
    (stopped_after c.args.form c.args.present.now c.args.passing.now _ _ _ _ _ _ c.lines.reading c.lines.any
    c.lines.broken c.lines.number c.in_ok-line.line c.read_next.new.text.items _ c.lines.invariant
    c.in_ok-read_next.ensures.text (c.in_ok-line.ensures.line ∙ c.deref.ensures.value)
    c.in_ok-line.ensures.fits (λ n is. c.in_err-breaks-2.ensures.fault n (ap Err is))
    c.in_err-breaks-2.ensures.stopped)

pub returns-in_err-take_line-clause-stopped : goal.returns-in_err-take_line-clause-stopped
returns-in_err-take_line-clause-stopped g c =
    let h = c.in_ok-breaks-2.ensures.explained in
    passed_on _ _ _ c.from_residual-in_err-take_line.ensures.1
    (stopped_after c.args.form c.args.present.now c.args.passing.now _ _ _ _ _ _ c.lines.reading c.lines.any
    c.lines.broken c.lines.number c.in_ok-line.line c.read_next.new.text.items _ c.lines.invariant
    c.in_ok-read_next.ensures.text (c.in_ok-line.ensures.line ∙ c.deref.ensures.value)
    c.in_ok-line.ensures.fits (λ n is. c.in_err-take_line.ensures.fault n (ap Err is))
    (inr (h.0, c.in_ok-breaks-2.breaks, h.1, inl h.2)))
