-- What is printed of a log, one text after another.
use Rattle.std.proofs.Common.{◌≡◌, ◌⊎◌, inl, inr, ℕ, Bool, false, List, [], ◌∷◌, ◌++◌, Option, Some, None, refl, sym}
use Rattle.std.proofs.Common.{ap, subst, ◌∙◌, append_assoc, append-nil, arith, length}
use Rattle.std.specs.Prelude.{◌≢◌, ◌+◌, All, IfSome}
use Rattle.std.specs.Io.KnownBytes.{Appends}
use Rattle.std.proofs.KnownBytes.{Appends-trans, Keeps-refl}
use Rattle.rdm_findings.specs.Document.{document_start, document_end, document_stop}
use Rattle.rdm_findings.specs.SameLines.{FitsLine}
use Rattle.rdm_findings.specs.Lines.{lines_text}
use Rattle.rdm_findings.specs.Logs.{AreExplained, IsCutBy, IsLogText}
use Rattle.rdm_findings.specs.Runs.{read_all, runs_of}
use Rattle.rdm_findings.specs.declared.form.Form.{Form}
use Rattle.rdm_findings.specs.declared.form.Form.TheVariants.{Lines, Json}
use Rattle.rdm_findings.specs.declared.line.LogLine.{LogLine}
use Rattle.rdm_findings.specs.declared.log.LogFault.{LogFault}
use Rattle.rdm_findings.specs.declared.log.LogFault.TheVariants.{Line, Unwritten, NoMemory}
use Rattle.rdm_port.specs.Explanation.{IsExplanation, IsPartExplanation, explain_status}
use Rattle.rdm_port.specs.Outcome.{IsPrinted}
use Rattle.rdm_port.specs.body.Parts.{IsNoWriterFault, WritesPart}
use Rattle.rdm_reports.specs.Writing.{IsCutShort}
use Rattle.rdm_reports.proofs.WritingLemmas.{cut_then_none, whole_then_cut}

-- a text, and then another one that is printed
pub printed_behind : (a b c : Option (List ℕ)) (s t : List ℕ) (status result : ℕ) → Appends a b s
    → IsPrinted b c t status result → IsPrinted a c (s ++ t) status result
printed_behind a b c s t status result wrote (inl (is, more)) = inl (is, Appends-trans a b c s t wrote more)
printed_behind a b c s t status result wrote (inr (is, cut)) = inr (is, whole_then_cut a b c s t wrote cut)

-- a text that is cut short isn't followed by another one
cut_before : (a b : Option (List ℕ)) (s t : List ℕ) → IsCutShort a b s → IsCutShort a b (s ++ t)
cut_before a b s t cut = cut_then_none a b b s t cut (Keeps-refl b)

-- what follows the last run isn't empty
stops : (form : Form) → document_stop form NoMemory ≢ []
stops Lines is = cc
stops Json is = cc

-- a text without the one that follows it
without_stop : (form : Form) (a b : Option (List ℕ)) (s : List ℕ) → Appends a b s
    → IsCutShort a b (s ++ document_stop form NoMemory)
without_stop form a b s wrote = (s, document_stop form NoMemory, refl, stops form, wrote)

-- what is printed of a log
abbrev pub IsTold : Form → List ℕ → List ℕ → Option (List ℕ) → Option (List ℕ) → Option (List ℕ) → ℕ → Type 0
IsTold form present passing known old new result =
    (text : List ℕ) × (status : ℕ)
    × (IsExplanation form present passing known text status ⊎ IsPartExplanation form present passing known text status)
    × IsPrinted old new text status result

-- the bytes of a log, if they are known
pub bytes_of : (known : Option (List ℕ)) → (bytes : List ℕ) × IfSome known (λ b. b ≡ bytes)
bytes_of None = ([], tt)
bytes_of (Some xs) = (xs, refl)

-- nothing was read, and the start was written in part
pub start_cut : (form : Form) (present passing : List ℕ) (known old new : Option (List ℕ))
    → IsCutShort old new (document_start form passing) → IsTold form present passing known old new 1
start_cut form present passing known old new cut =
    let all = bytes_of known in
    let text : List ℕ = document_start form passing ++ [] ++ document_stop form NoMemory in (
      text,
      1,
      inr (record {
        lines = [];
        fits = λ k line lt. absurd (omega (arith, lt));
        others = all.0;
        read = all.1;
        findings = [];
        broken = false;
        explained = inl (refl, refl);
        fault = NoMemory;
        number = λ n is. cc;
        prints = refl;
        ends = refl;
      }),
      inr (
        refl,
        cut_before old new (document_start form passing ++ []) (document_stop form NoMemory)
            (cut_before old new (document_start form passing) [] cut),
      ),
    )

-- all of it was read and written, and then the end
pub told_whole : (form : Form) (present passing : List ℕ) (known old mid more new : Option (List ℕ)) (start : List ℕ)
    (broken : Bool) (result : ℕ) → start ≡ document_start form passing → Appends old mid start
    → (lines : List LogLine) × (findings : List ℕ) × All FitsLine lines
    × IfSome known (λ bytes. bytes ≡ lines_text lines)
    × IsLogText form present passing (runs_of lines) findings broken × Appends mid more findings
    → IsPrinted more new (document_end form broken) (explain_status broken) result
    → IsTold form present passing known old new result
told_whole form present passing known old mid more new start broken result is wrote
    (lines, findings, fits, all, said, written) printed = (
      start ++ findings ++ document_end form broken,
      explain_status broken,
      inl (record {
        lines = lines;
        fits = fits;
        all = all;
        findings = findings;
        broken = broken;
        explained = said;
        prints = ap (λ s. s ++ findings ++ document_end form broken) is;
        ends = refl;
      }),
      printed_behind old more new (start ++ findings) (document_end form broken) (explain_status broken) result
          (Appends-trans old mid more start findings wrote written) printed,
    )

-- the part that was explained, and a fault
is_part : (form : Form) (present passing : List ℕ) (known was now : Option (List ℕ)) (start : List ℕ)
    (fault shown : LogFault) → start ≡ document_start form passing
    → (w : WritesPart form present passing known was now fault)
    → ((n : ℕ) → shown ≡ Line n → fault ≡ Line n)
    → IsPartExplanation form present passing known (start ++ w.findings ++ document_stop form shown) 1
is_part form present passing known was now start fault shown is w same = record {
  lines = w.lines;
  fits = w.fits;
  others = w.others;
  read = w.read;
  findings = w.findings;
  broken = w.broken;
  explained = w.explained;
  fault = shown;
  number = λ n at. w.number n (same n at);
  prints = ap (λ s. s ++ w.findings ++ document_stop form shown) is;
  ends = refl;
}

-- a part of it, if the writer failed
pub told_cut : (form : Form) (present passing : List ℕ) (known old mid new : Option (List ℕ)) (start : List ℕ)
    (fault : LogFault) → start ≡ document_start form passing → Appends old mid start
    → WritesPart form present passing known mid new fault → IsTold form present passing known old new 1
told_cut form present passing known old mid new start fault is wrote w = (
  start ++ w.findings ++ document_stop form NoMemory,
  1,
  inr (is_part form present passing known mid new start fault NoMemory is w (λ n at. cc)),
  inr (refl, by_written w.wrote),
)
  where
    by_fault : (f : LogFault) → IsCutBy f mid new w.findings → IsCutShort mid new w.findings
    by_fault (Unwritten kind) cut = cut
    by_fault _ cut = absurd cut

    by_written : Appends mid new w.findings ⊎ IsCutBy fault mid new w.findings
        → IsCutShort old new (start ++ w.findings ++ document_stop form NoMemory)
    by_written (inl whole) =
        without_stop form old new (start ++ w.findings) (Appends-trans old mid new start w.findings wrote whole)
    by_written (inr cut) = cut_before old new (start ++ w.findings) (document_stop form NoMemory)
        (whole_then_cut old mid new start w.findings wrote (by_fault fault cut))

-- a part of it, and then the fault
pub told_part : (form : Form) (present passing : List ℕ) (known old mid more new : Option (List ℕ)) (start : List ℕ)
    (fault : LogFault) (result : ℕ) → start ≡ document_start form passing → Appends old mid start
    → WritesPart form present passing known mid more fault → IsNoWriterFault fault
    → (shown : LogFault) × ((n : ℕ) → shown ≡ Line n → fault ≡ Line n)
    × IsPrinted more new (document_stop form shown) 1 result
    → IsTold form present passing known old new result
told_part form present passing known old mid more new start fault result is wrote w other
    (shown, same, printed) = (
      start ++ w.findings ++ document_stop form shown,
      1,
      inr (is_part form present passing known mid more start fault shown is w same),
      printed_behind old more new (start ++ w.findings) (document_stop form shown) 1 result
          (Appends-trans old mid more start w.findings wrote (by_written w.wrote)) printed,
    )
  where
    by_fault : (f : LogFault) → IsNoWriterFault f → IsCutBy f mid more w.findings → Appends mid more w.findings
    by_fault (Unwritten kind) never cut = absurd never
    by_fault _ never cut = absurd cut

    by_written : Appends mid more w.findings ⊎ IsCutBy fault mid more w.findings → Appends mid more w.findings
    by_written (inl whole) = whole
    by_written (inr cut) = by_fault fault other cut
