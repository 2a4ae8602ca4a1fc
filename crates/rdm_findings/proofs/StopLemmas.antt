-- A log that isn't explained to its end.
use Rattle.std.proofs.Common.{◌≡◌, ◌⊎◌, inl, inr, ℕ, Bool, List, [], ◌∷◌, ◌++◌, Option, sym, ap, ◌∙◌, subst}
use Rattle.std.proofs.Common.{append-nil, true, false, true≢false, Result, Ok, Err, IfErr, IfOk}
use Rattle.std.specs.Prelude.{◌+◌, ◌||◌, IsErrAnd, if◌then◌else◌}
use Rattle.std.specs.Io.KnownBytes.{Appends, Consumes}
use Rattle.std.proofs.KnownBytes.{Appends-trans}
use Rattle.std.proofs.lemmas.List.Elements.{All-push}
use Rattle.rdm_reports.proofs.WritingLemmas.{whole_then_cut}
use Rattle.rdm_findings.specs.declared.form.Form.{Form}
use Rattle.rdm_findings.specs.declared.line.LogLine.{LogLine}
use Rattle.rdm_findings.specs.declared.log.LogFault.{LogFault}
use Rattle.rdm_findings.specs.declared.log.LogFault.TheVariants.{Unread, Line, Unwritten, NoMemory}
use Rattle.rdm_findings.specs.SameLines.{FitsLine}
use Rattle.rdm_findings.specs.Lines.{line_text, lines_text}
use Rattle.rdm_findings.specs.Logs.{AreExplained, EndsLog, IsCutBy, IsStopped}
use Rattle.rdm_findings.specs.Runs.{RunRead, ReadState, begins, ended}
use Rattle.rdm_findings.specs.body.Stops.{StopsAfter}
use Rattle.rdm_findings.proofs.LogLemmas.{IsSoFar, all_explained, lines_more, more_consumed, runs_more}

-- a fault that is passed on
pub passed_on : {A : Type 0} (r : Result A LogFault) (fault : LogFault) (P : LogFault → Type 0)
    → IsErrAnd r (λ e. e ≡ fault) → P fault → IfErr r P
passed_on (Ok x) fault P is holds = tt
passed_on (Err e) fault P is holds = subst P (sym is) holds

-- the runs at the end of a log that has others, or one
stops_last : (form : Form) (any has : Bool) (present passing : List ℕ) (run : RunRead) (old new : Option (List ℕ))
    (fault : LogFault)
    → (any || has) ≡ true
    → StopsAfter (AreExplained form any present passing (if has then run ∷ [] else [])) old new fault
    → StopsAfter (EndsLog form present passing any (if has then run ∷ [] else [])) old new fault
stops_last form any has present passing run old new fault some (inl none) = inl none
stops_last form true has present passing run old new fault some (inr (text, broken, said, wrote)) =
    inr (text, broken, said, wrote)
stops_last form false true present passing run old new fault some (inr (text, broken, said, wrote)) =
    inr (text, broken, said, wrote)
stops_last form false false present passing run old new fault some (inr stops) = absurd (true≢false (sym some))

pub if_ends_last : (r : Result Bool LogFault) (form : Form) (any has : Bool) (present passing : List ℕ) (run : RunRead)
    (old new : Option (List ℕ)) → (any || has) ≡ true
    → IfOk r (λ broken. (text : List ℕ)
    × AreExplained form any present passing (if has then run ∷ [] else []) text broken × Appends old new text)
    → IfOk r (λ broken. (text : List ℕ)
    × EndsLog form present passing any (if has then run ∷ [] else []) text broken × Appends old new text)
if_ends_last (Ok broken) form true has present passing run old new some ends = ends
if_ends_last (Ok broken) form false true present passing run old new some ends = ends
if_ends_last (Ok broken) form false false present passing run old new some ends = absurd (true≢false (sym some))
if_ends_last (Err fault) form any has present passing run old new some ends = tt

pub if_stops_last : {A : Type 0} (r : Result A LogFault) (form : Form) (any has : Bool) (present passing : List ℕ)
    (run : RunRead) (old new : Option (List ℕ)) → (any || has) ≡ true
    → IfErr r (StopsAfter (AreExplained form any present passing (if has then run ∷ [] else [])) old new)
    → IfErr r (StopsAfter (EndsLog form present passing any (if has then run ∷ [] else [])) old new)
if_stops_last (Ok x) form any has present passing run old new some stops = tt
if_stops_last (Err fault) form any has present passing run old new some stops =
    stops_last form any has present passing run old new fault some stops

-- a text, and then nothing
then_nothing : (a b c : Option (List ℕ)) (text : List ℕ) → Appends a b text → Appends b c [] → Appends a c text
then_nothing a b c text wrote none =
    subst (λ t. Appends a c t) (append-nil text) (Appends-trans a b c text [] wrote none)

-- a text, and then another one, or its beginning
then_more : (fault : LogFault) (a b c : Option (List ℕ)) (text more : List ℕ) → Appends a b text
    → Appends b c more ⊎ IsCutBy fault b c more → Appends a c (text ++ more) ⊎ IsCutBy fault a c (text ++ more)
then_more fault a b c text more wrote (inl whole) = inl (Appends-trans a b c text more wrote whole)
then_more (Unwritten kind) a b c text more wrote (inr cut) = inr (whole_then_cut a b c text more wrote cut)
then_more (Unread kind) a b c text more wrote (inr cut) = absurd cut
then_more (Line n) a b c text more wrote (inr cut) = absurd cut
then_more NoMemory a b c text more wrote (inr cut) = absurd cut

-- before the next line, which may be refused
pub stopped_before : (form : Form) (present passing : List ℕ) (left now later held writes : Option (List ℕ))
    (reading : ReadState) (any broken : Bool) (many : ℕ) (fault : LogFault)
    → IsSoFar form present passing left now held writes reading any broken many
    → ((n : ℕ) → fault ≡ Line n → (other : List ℕ) × Consumes now later other × (many + 1 ≡ n))
    → IsStopped form present passing left later held writes fault
stopped_before form present passing left now later held writes reading any broken many fault f refused = record {
  lines = f.lines;
  fits = f.fits;
  rest = now;
  read = f.consumed;
  text = f.text;
  broken = broken;
  explained = inl f.explained;
  wrote = inl f.wrote;
  refused = λ n is. let r = refused n is in (r.0, r.1, ap (λ m. m + 1) f.count ∙ r.2);
}

-- after the next line, before which a run may have ended
pub stopped_after : (form : Form) (present passing : List ℕ) (left now later held writes more : Option (List ℕ))
    (reading : ReadState) (any broken : Bool) (many : ℕ) (line : LogLine) (bytes : List ℕ) (fault : LogFault)
    → IsSoFar form present passing left now held writes reading any broken many → Consumes now later bytes
    → line_text line ≡ bytes → FitsLine line → ((n : ℕ) → fault ≡ Line n → ⊥)
    → StopsAfter (AreExplained form any present passing (if begins line reading then ended reading else [])) writes more
    fault
    → IsStopped form present passing left later held more fault
stopped_after form present passing left now later held writes more reading any broken many line bytes fault f read is
    fits other (inl none) = record {
      lines = f.lines;
      fits = f.fits;
      rest = now;
      read = f.consumed;
      text = f.text;
      broken = broken;
      explained = inl f.explained;
      wrote = inl (then_nothing held writes more f.text f.wrote none);
      refused = λ n is. absurd (other n is);
    }
stopped_after form present passing left now later held writes more reading any broken many line bytes fault f read is
    fits other (inr (own, breaks, said, wrote)) = record {
      lines = f.lines ++ line ∷ [];
      fits = All-push FitsLine f.lines line f.fits fits;
      rest = later;
      read = subst (λ l. Consumes left later l) (sym (lines_more f.lines line))
          (more_consumed left now later (lines_text f.lines) (line_text line) f.consumed
          (subst (λ l. Consumes now later l) (sym is) read));
      text = f.text ++ own;
      broken = broken || breaks;
      explained = inl
          (runs_more form present passing left now held writes reading any broken breaks many line own f said);
      wrote = then_more fault held writes more f.text own f.wrote wrote;
      refused = λ n is. absurd (other n is);
    }

-- at the log's end
pub stopped_last : (form : Form) (present passing : List ℕ) (left now later held writes more : Option (List ℕ))
    (reading : ReadState) (any broken : Bool) (many : ℕ) (fault : LogFault)
    → IsSoFar form present passing left now held writes reading any broken many
    → ((n : ℕ) → fault ≡ Line n → ⊥)
    → StopsAfter (EndsLog form present passing any (ended reading)) writes more fault
    → IsStopped form present passing left later held more fault
stopped_last form present passing left now later held writes more reading any broken many fault f other (inl none) =
    record {
      lines = f.lines;
      fits = f.fits;
      rest = now;
      read = f.consumed;
      text = f.text;
      broken = broken;
      explained = inl f.explained;
      wrote = inl (then_nothing held writes more f.text f.wrote none);
      refused = λ n is. absurd (other n is);
    }
stopped_last form present passing left now later held writes more reading any broken many fault f other
    (inr (own, breaks, said, wrote)) = record {
      lines = f.lines;
      fits = f.fits;
      rest = now;
      read = f.consumed;
      text = f.text ++ own;
      broken = broken || breaks;
      explained = inr
          (all_explained form present passing left now held writes reading any broken breaks many own f said);
      wrote = then_more fault held writes more f.text own f.wrote wrote;
      refused = λ n is. absurd (other n is);
    }
