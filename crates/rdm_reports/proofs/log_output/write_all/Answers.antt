use Rattle.std.proofs.Common.{◌≡◌, ◌≤◌, ◌-◌, ◌+◌, sym, ap, arith, ℕ, List, Option}
use Rattle.std.proofs.Common.{length, take, drop, length-drop}
use Rattle.std.specs.Io.KnownBytes.{Appends}
use Rattle.std.proofs.KnownBytes.{Appends-trans}
use Rattle.std.proofs.Math.Seq.{take-add}
use Rattle.std.proofs.lemmas.List.{take-append-drop, take_rest}
use Rattle.rdm_reports.specs.Writing.{IsCutShort}
use Rattle.rdm_reports.proofs.WritingLemmas.{appends_kept}
use Rattle.rdm_reports.proofs.log_output.write_all.Goals as goal
use Rattle.rdm_reports.proofs.log_output.write_all.Goals.{in-Ok, in-Err}
use Rattle.rdm_reports.proofs.log_output.write_all.Goals.{else-writing-test, then-writing-test+then-written-bytes}
use Rattle.rdm_reports.proofs.log_output.write_all.Goals.{then-writing-test+else-written-bytes+in-Ok-eq0}
use Rattle.rdm_reports.proofs.log_output.write_all.Goals.{then-writing-test+else-written-bytes+in-Err-2}

-- the first n bytes, and then k of the rest
one_more : (a b c : Option (List ℕ)) (bytes : List ℕ) (n k m : ℕ) → m ≡ n + k
    → Appends a b (take n bytes) → Appends b c (take k (take (length bytes - n) (drop n bytes)))
    → Appends a c (take m bytes)
one_more a b c bytes n k m is before more =
    rw (is, take-add n k bytes)
    (Appends-trans a b c (take n bytes) (take k (drop n bytes)) before (rw take_rest at more))

-- what was written is a front of the bytes, and not all where its length isn't theirs
cut_short : (a b : Option (List ℕ)) (bytes : List ℕ) (n : ℕ) → Appends a b (take n bytes) → n ≤ length bytes
    → (n ≡ length bytes → ⊥) → IsCutShort a b bytes
cut_short a b bytes n front within is = (
  take n bytes,
  drop n bytes,
  sym (take-append-drop n bytes),
  λ none. let left = ap length none in is (omega (arith, length-drop n bytes)),
  front,
)

pub writing-preserved : goal.writing-preserved
writing-preserved g c = elim c.match-write.branch [
  | in-Ok w ↦ record {
    within = omega (arith, w.in-Ok.ensures.bound);
    front = one_more _ _ _ c.args.bytes.now c.writing.written w.in-Ok.count _ w.written-is c.writing.invariant.front
        w.in-Ok.ensures.bytes;
  }
  | in-Err w ↦ record {
    within = omega arith;
    front = rw w.written-is (appends_kept _ _ _ _ c.writing.invariant.front w.in-Err.ensures.bytes);
  }
]

pub returns-else-written-bytes-2-clause-some : goal.returns-else-written-bytes-2-clause-some
returns-else-written-bytes-2-clause-some g c =
    cut_short _ _ c.args.bytes.now c.writing.written (elim c.writing-test.branch [
      | else-writing-test w ↦ rw w.writer-is c.writing.invariant.front
      | then-writing-test+then-written-bytes w ↦ rw w.writer-is c.writing.invariant.front
      | then-writing-test+else-written-bytes+in-Ok-eq0 w ↦
          let took = rw w.in-Ok-eq0.is at w.write.ensures.bytes in
          rw w.writer-is
          (one_more _ _ _ c.args.bytes.now c.writing.written w.in-Ok-eq0.field-0 _ (omega arith)
          c.writing.invariant.front took)
      | then-writing-test+else-written-bytes+in-Err-2 w ↦ rw w.writer-is
          (appends_kept _ _ _ _ c.writing.invariant.front w.in-Err.ensures.bytes)
    ]) c.writing.invariant.within c.if-written-bytes-2.false
