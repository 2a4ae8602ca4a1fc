-- What is printed for a log, run by run and line by line.
use Rattle.std.proofs.Common.{◌≡◌, ℕ, Bool, true, false, List, [], ◌∷◌, ◌++◌, refl, sym, ap, ◌∙◌, subst, append_assoc}
use Rattle.std.proofs.Common.{append-nil, Option, true≢false}
use Rattle.std.specs.Prelude.{All, ◌+◌, ◌||◌, ◌&&◌, fold, length, if◌then◌else◌}
use Rattle.std.specs.Io.KnownBytes.{Appends, Consumes}
use Rattle.std.proofs.KnownBytes.{Appends-trans, Consumes-trans}
use Rattle.std.proofs.lemmas.Grind.{flat_map-append}
use Rattle.std.proofs.lemmas.List.{length-append}
use Rattle.std.proofs.lemmas.List.Elements.{All-push}
use Rattle.rdm_explain.specs.declared.exchange.Exchange.{Exchange}
use Rattle.rdm_explain.specs.Exchanges.{seen_all}
use Rattle.rdm_findings.specs.declared.form.Form.{Form}
use Rattle.rdm_findings.specs.declared.head.RunHead.{RunHead}
use Rattle.rdm_findings.specs.declared.line.LogLine.{LogLine}
use Rattle.rdm_findings.specs.Explained.{IsExplained}
use Rattle.rdm_findings.specs.SameLines.{FitsLine}
use Rattle.rdm_findings.specs.Lines.{line_text, lines_text}
use Rattle.rdm_findings.specs.Runs.{RunRead, ReadState, nothing_read, begins, ended, after_line, read_on, read_all}
use Rattle.rdm_findings.specs.Runs.{runs_of}
use Rattle.rdm_findings.specs.Logs.{IsRunText, AreExplained, IsLogText, EndsLog}

or_assoc : (a b c : Bool) → (a || b) || c ≡ a || (b || c)
or_assoc true b c = refl
or_assoc false b c = refl

or_false : (a : Bool) → a ≡ a || false
or_false true = refl
or_false false = refl

-- whether there are runs
abbrev pub has_any : List RunRead → Bool
has_any [] = false
has_any (run ∷ runs) = true

true_or : (a : Bool) → a || true ≡ true
true_or true = refl
true_or false = refl

-- some runs, and then others
pub explained_append : (form : Form) (any : Bool) (present passing : List ℕ) (runs more : List RunRead)
    (text later : List ℕ) (broken breaks : Bool)
    → AreExplained form any present passing runs text broken
    → AreExplained form (any || has_any runs) present passing more later breaks
    → AreExplained form any present passing (runs ++ more) (text ++ later) (broken || breaks)
explained_append form any present passing [] more text later broken breaks (none, fine) next =
    subst (λ t. AreExplained form any present passing more (t ++ later) (broken || breaks)) (sym none)
    (subst (λ b. AreExplained form any present passing more later (b || breaks)) (sym fine)
    (subst (λ a. AreExplained form a present passing more later breaks) (sym (or_false any)) next))
explained_append form any present passing (run ∷ runs) more text later broken breaks
    (first, rest, here, there, is_run, others, is, was) next = (
      first,
      rest ++ later,
      here,
      there || breaks,
      is_run,
      explained_append form true present passing runs more rest later there breaks others
          (subst (λ a. AreExplained form a present passing more later breaks) (true_or any) next),
      ap (λ t. t ++ later) is ∙ append_assoc first rest later,
      ap (λ b. b || breaks) was ∙ or_assoc here there breaks,
    )

-- one run
pub explained_one : (form : Form) (any : Bool) (present passing : List ℕ) (run : RunRead) (text : List ℕ)
    (broken : Bool)
    → IsRunText form any present passing run text broken → AreExplained form any present passing (run ∷ []) text broken
explained_one form any present passing run text broken is =
    (text, [], broken, false, is, (refl, refl), sym (append-nil text), or_false broken)

-- the run in progress
pub run_explained : (form : Form) (any : Bool) (present passing : List ℕ) (s : ReadState) (xs : List Exchange)
    (head : RunHead) (known : Option (List ℕ)) (text : List ℕ) (broken : Bool)
    → s.has_run ≡ true → seen_all xs ≡ s.run.exchanges → head ≡ s.run.head
    → known ≡ s.run.known → IsExplained form any head known present passing xs text broken
    → AreExplained form any present passing (ended s) text broken
run_explained form any present passing s xs head known text broken has same is_head is_known explained =
    subst (λ b. AreExplained form any present passing (if b then s.run ∷ [] else []) text broken) (sym has)
    (explained_one form any present passing s.run text broken (record {
      exchanges = xs;
      same = same;
      explained = subst (λ k. IsExplained form any s.run.head k present passing xs text broken) is_known
          (subst (λ h. IsExplained form any h known present passing xs text broken) is_head explained);
    }))

-- the text of one more line
pub lines_more : (lines : List LogLine) (line : LogLine)
    → lines_text (lines ++ line ∷ []) ≡ lines_text lines ++ line_text line
lines_more lines line =
    flat_map-append line_text lines (line ∷ []) ∙ ap (λ l. lines_text lines ++ l) (append-nil (line_text line))

fold_more : {A B : Type 0} (f : B → A → B) (b : B) (xs : List A) (x : A) → fold f b (xs ++ x ∷ []) ≡ f (fold f b xs) x
fold_more f b [] x = refl
fold_more f b (y ∷ ys) x = fold_more f (f b y) ys x

-- what is read by one more line
read_more : (lines : List LogLine) (line : LogLine) → read_all (lines ++ line ∷ []) ≡ read_on (read_all lines) line
read_more lines line = fold_more read_on ([], nothing_read) lines line

any_append : (xs ys : List RunRead) → has_any (xs ++ ys) ≡ has_any xs || has_any ys
any_append [] ys = refl
any_append (x ∷ xs) ys = refl

-- whether there is a run that ended
any_ended : (b h : Bool) (run : RunRead)
    → has_any (if b then (if h then run ∷ [] else []) else []) ≡ b && h
any_ended true true run = refl
any_ended true false run = refl
any_ended false h run = refl

-- the lines so far were read, and their runs that ended were explained
pub record IsSoFar (form : Form) (present passing : List ℕ) (left now held writes : Option (List ℕ))
    (reading : ReadState) (any broken : Bool) (many : ℕ) : Type 0 where
  pub lines : List LogLine
  pub fits : All FitsLine lines
  pub text : List ℕ
  pub consumed : Consumes left now (lines_text lines)
  pub reads : reading ≡ (read_all lines).1
  pub explained : AreExplained form false present passing (read_all lines).0 text broken
  pub wrote : Appends held writes text
  pub some : any ≡ has_any (read_all lines).0
  pub count : length lines ≡ many

-- the lines so far, and then more bytes
pub more_consumed : (left now later : Option (List ℕ)) (so_far bytes : List ℕ) → Consumes left now so_far
    → Consumes now later bytes → Consumes left later (so_far ++ bytes)
more_consumed left now later so_far bytes before more = Consumes-trans left now later so_far bytes before more

-- nothing more was read
pub nothing_more : (form : Form) (present passing : List ℕ) (left now later held writes : Option (List ℕ))
    (reading : ReadState) (any broken : Bool) (many : ℕ) (bytes : List ℕ)
    → IsSoFar form present passing left now held writes reading any broken many → Consumes now later bytes
    → bytes ≡ []
    → IsSoFar form present passing left later held writes reading any broken many
nothing_more form present passing left now later held writes reading any broken many bytes f read none = record {
  lines = f.lines;
  fits = f.fits;
  text = f.text;
  consumed = subst (λ l. Consumes left later l) (append-nil (lines_text f.lines))
      (more_consumed left now later (lines_text f.lines) [] f.consumed
      (subst (λ b. Consumes now later b) none read));
  reads = f.reads;
  explained = f.explained;
  wrote = f.wrote;
  some = f.some;
  count = f.count;
}

-- the runs so far, and those that ended before one more line
pub runs_more : (form : Form) (present passing : List ℕ) (left now held writes : Option (List ℕ)) (reading : ReadState)
    (any broken breaks : Bool) (many : ℕ) (line : LogLine) (own : List ℕ)
    → (f : IsSoFar form present passing left now held writes reading any broken many)
    → AreExplained form any present passing (if begins line reading then ended reading else []) own breaks
    → AreExplained form false present passing (read_all (f.lines ++ line ∷ [])).0 (f.text ++ own) (broken || breaks)
runs_more form present passing left now held writes reading any broken breaks many line own f said =
    subst (λ p. AreExplained form false present passing p.0 (f.text ++ own) (broken || breaks))
    (sym (read_more f.lines line))
    (explained_append form false present passing (read_all f.lines).0
    (if begins line (read_all f.lines).1 then ended (read_all f.lines).1 else []) f.text own broken breaks f.explained
    (subst (λ a. AreExplained form a present passing
    (if begins line (read_all f.lines).1 then ended (read_all f.lines).1 else []) own breaks) f.some
    (subst (λ s. AreExplained form any present passing (if begins line s then ended s else []) own breaks)
    f.reads said)))

-- after one more
pub line_more : (form : Form) (present passing : List ℕ) (left now later held writes more : Option (List ℕ))
    (reading next : ReadState) (any some broken breaks either : Bool) (many : ℕ) (line : LogLine) (bytes : List ℕ)
    → IsSoFar form present passing left now held writes reading any broken many → Consumes now later bytes
    → line_text line ≡ bytes → FitsLine line → next ≡ after_line line reading
    → some ≡ any || (begins line reading && reading.has_run)
    → either ≡ broken || breaks
    → (text : List ℕ)
    × AreExplained form any present passing (if begins line reading then ended reading else []) text breaks
    × Appends writes more text
    → IsSoFar form present passing left later held more next some either (many + 1)
line_more form present passing left now later held writes more reading next any some broken breaks either many line
    bytes f read is fits moves also both (own, said, written) = record {
      lines = f.lines ++ line ∷ [];
      fits = All-push FitsLine f.lines line f.fits fits;
      text = f.text ++ own;
      consumed = subst (λ l. Consumes left later l) (sym (lines_more f.lines line))
          (more_consumed left now later (lines_text f.lines) (line_text line) f.consumed
          (subst (λ l. Consumes now later l) (sym is) read));
      reads = moves ∙ ap (after_line line) f.reads ∙ sym (ap (λ p. p.1) (read_more f.lines line));
      explained = subst (λ b. AreExplained form false present passing (read_all (f.lines ++ line ∷ [])).0
          (f.text ++ own) b) (sym both)
          (runs_more form present passing left now held writes reading any broken breaks many line own f said);
      wrote = Appends-trans held writes more f.text own f.wrote written;
      some = also
          ∙ ap (λ b. b || (begins line reading && reading.has_run)) f.some
          ∙ ap (λ s. has_any (read_all f.lines).0 || (begins line s && s.has_run)) f.reads
          ∙ ap (λ b. has_any (read_all f.lines).0 || b)
          (sym (any_ended (begins line (read_all f.lines).1) (read_all f.lines).1.has_run (read_all f.lines).1.run))
          ∙ sym (any_append (read_all f.lines).0
          (if begins line (read_all f.lines).1 then ended (read_all f.lines).1 else []))
          ∙ sym (ap (λ p. has_any p.0) (read_more f.lines line));
      count = length-append f.lines (line ∷ []) ∙ ap (λ n. n + 1) f.count;
    }

-- all runs, of which the last ones come at the log's end
text_end : (form : Form) (present passing : List ℕ) (runs last : List RunRead) (text own : List ℕ)
    (any broken breaks : Bool)
    → any ≡ has_any runs → AreExplained form false present passing runs text broken
    → EndsLog form present passing any last own breaks
    → IsLogText form present passing (runs ++ last) (text ++ own) (broken || breaks)
text_end form present passing [] last text own any broken breaks none (empty, fine) ends =
    subst (λ t. IsLogText form present passing last (t ++ own) (broken || breaks)) (sym empty)
    (subst (λ b. IsLogText form present passing last own (b || breaks)) (sym fine)
    (subst (λ b. EndsLog form present passing b last own breaks) none ends))
text_end form present passing (run ∷ runs) last text own any broken breaks some before ends =
    explained_append form false present passing (run ∷ runs) last text own broken breaks before
    (subst (λ b. EndsLog form present passing b last own breaks) some ends)

-- the text of all runs, of which the last ones end the log
pub all_explained : (form : Form) (present passing : List ℕ) (left now held writes : Option (List ℕ))
    (reading : ReadState) (any broken breaks : Bool) (many : ℕ) (own : List ℕ)
    → (f : IsSoFar form present passing left now held writes reading any broken many)
    → EndsLog form present passing any (ended reading) own breaks
    → IsLogText form present passing (runs_of f.lines) (f.text ++ own) (broken || breaks)
all_explained form present passing left now held writes reading any broken breaks many own f said =
    text_end form present passing (read_all f.lines).0 (ended (read_all f.lines).1) f.text own any broken breaks f.some
    f.explained (subst (λ s. EndsLog form present passing any (ended s) own breaks) f.reads said)

-- at the end
pub log_end : (form : Form) (present passing : List ℕ) (left now held writes more : Option (List ℕ))
    (reading : ReadState) (any broken breaks either : Bool) (many : ℕ)
    → IsSoFar form present passing left now held writes reading any broken many → either ≡ broken || breaks
    → (text : List ℕ) × EndsLog form present passing any (ended reading) text breaks × Appends writes more text
    → (lines : List LogLine) × (text : List ℕ) × All FitsLine lines × Consumes left now (lines_text lines)
    × IsLogText form present passing (runs_of lines) text either × Appends held more text
log_end form present passing left now held writes more reading any broken breaks either many f both
    (own, said, written) = (
      f.lines,
      f.text ++ own,
      f.fits,
      f.consumed,
      subst (λ b. IsLogText form present passing (runs_of f.lines) (f.text ++ own) b) (sym both)
          (all_explained form present passing left now held writes reading any broken breaks many own f said),
      Appends-trans held writes more f.text own f.wrote written,
    )

-- one was broken, or it is as the other
pub either_broke : (a b c : Bool) → a ≡ true → c ≡ a → c ≡ a || b
either_broke true b c is now = now
either_broke false b c is now = absurd (true≢false (sym is))

pub other_broke : (a b c : Bool) → a ≡ false → c ≡ b → c ≡ a || b
other_broke true b c is now = absurd (true≢false is)
other_broke false b c is now = now
