use Rattle.std.proofs.Common.{◌≡◌, ◌++◌, ◌+◌, ◌∙◌, ◌⊎◌, ℕ, List, [], Option, Some, None, IfSome, ap, sym, append_assoc}
use Rattle.std.proofs.Common.{arith, length, subst, Bool, false, Result, Ok, Err, inl, refl}
use Rattle.std.specs.Prelude.{◌==◌, if◌then◌else◌, IfErr}
use Rattle.std.proofs.KnownBytes.{Appends-nil}
use Rattle.std.specs.Io.KnownBytes.{Consumes, prepend_known}
use Rattle.std.specs.Io.Buffered.{reader_buffer, reader_capacity, reader_remaining}
use Rattle.rdm_findings.specs.declared.form.Form.{Form}
use Rattle.rdm_findings.specs.declared.line.LogLine.{LogLine}
use Rattle.rdm_findings.specs.declared.log.LogFault.{LogFault}
use Rattle.rdm_findings.specs.declared.log.LogFault.TheVariants.{NoMemory}
use Rattle.rdm_findings.specs.Lines.{lines_text}
use Rattle.rdm_findings.specs.Logs.{IsStopped}
use Rattle.rdm_port.specs.body.Parts.{WritesPart}
use Rattle.rdm_port.proofs.ExplanationLemmas.{bytes_of}
use Rattle.rdm_port.proofs.explaining.write_runs.Goals as goal

-- what follows lines in a reader's bytes, if these are known
rest_of : (known rest : Option (List ℕ)) (lines : List ℕ) → Consumes known rest lines
    → (others : List ℕ) × IfSome known (λ bytes. bytes ≡ lines ++ others)
rest_of None rest lines read = ([], tt)
rest_of (Some xs) None lines read = absurd read
rest_of (Some xs) (Some ys) lines read = (ys, read)

part_of : (form : Form) (present passing : List ℕ) (known now old new : Option (List ℕ)) (fault : LogFault)
    → IsStopped form present passing known now old new fault → WritesPart form present passing known old new fault
part_of form present passing known now old new fault s =
    let others = rest_of known s.rest (lines_text s.lines) s.read in record {
      lines = s.lines;
      fits = s.fits;
      others = others.0;
      read = others.1;
      findings = s.text;
      broken = s.broken;
      explained = s.explained;
      wrote = s.wrote;
      number = λ n is. (s.refused n is).2;
    }

behind_empty : (form : Form) (present passing : List ℕ) (known now old new : Option (List ℕ)) (buffer : List ℕ)
    (fault : LogFault) → buffer ≡ []
    → IsStopped form present passing (prepend_known buffer known) now old new fault
    → WritesPart form present passing known old new fault
behind_empty form present passing None now old new buffer fault none s =
    part_of form present passing None now old new fault
    (subst (λ b. IsStopped form present passing (prepend_known b None) now old new fault) none s)
behind_empty form present passing (Some xs) now old new buffer fault none s =
    part_of form present passing (Some xs) now old new fault
    (subst (λ b. IsStopped form present passing (prepend_known b (Some xs)) now old new fault) none s)

-- what was read through a buffer that was empty at first
behind_buffer : (form : Form) (present passing : List ℕ) (known inner now old new : Option (List ℕ)) (room : ℕ)
    (buffer : List ℕ) (fault : LogFault) → room ≡ 8192 → buffer ≡ [] → inner ≡ known
    → IsStopped form present passing (if room == 0 then None else prepend_known buffer inner) now old new fault
    → WritesPart form present passing known old new fault
behind_buffer form present passing known inner now old new room buffer fault large none same s =
    behind_empty form present passing known now old new buffer fault none
    (subst (λ k. IsStopped form present passing (prepend_known buffer k) now old new fault) same
    (subst (λ m. IsStopped form present passing (if m == 0 then None else prepend_known buffer inner) now old new fault)
    large s))

stopped_behind : (r : Result Bool LogFault) (form : Form) (present passing : List ℕ)
    (known inner now old new : Option (List ℕ)) (room : ℕ) (buffer : List ℕ) → room ≡ 8192 → buffer ≡ []
    → inner ≡ known
    → IfErr r (IsStopped form present passing (if room == 0 then None else prepend_known buffer inner) now old new)
    → IfErr r (WritesPart form present passing known old new)
stopped_behind (Ok broken) form present passing known inner now old new room buffer large none same s = tt
stopped_behind (Err fault) form present passing known inner now old new room buffer large none same s =
    behind_buffer form present passing known inner now old new room buffer fault large none same s

-- nothing was read, as there was no memory for the buffer
pub returns-in_default-clause-stopped : goal.returns-in_default-clause-stopped
returns-in_default-clause-stopped g c =
    let all = bytes_of (g.R.Read.remaining c.args.reader.now) in record {
      lines = [];
      fits = λ k line lt. absurd (omega (arith, lt));
      others = all.0;
      read = all.1;
      findings = [];
      broken = false;
      explained = inl (refl, refl);
      wrote = inl (Appends-nil (g.W.Write.contents c.args.writer.now));
      number = λ n is. cc;
    }

pub returns-clause-stopped : goal.returns-clause-stopped
returns-clause-stopped g c =
    stopped_behind c.explain_log.result c.args.form c.args.devices.now.present.items c.args.devices.now.passing.items
    (g.R.Read.remaining c.args.reader.now) (g.R.Read.remaining c.in-Ok.buffered.inner.now)
    (reader_remaining (λ r. g.R.Read.remaining r.now) c.explain_log.new.reader)
    (g.W.Write.contents c.args.writer.now) (g.W.Write.contents c.explain_log.new.writer)
    (reader_capacity c.in-Ok.buffered) (reader_buffer c.in-Ok.buffered) c.in-Ok.ensures.capacity
    c.in-Ok.ensures.empty (ap (λ r. g.R.Read.remaining r.now) c.in-Ok.ensures.inner)
    (rw c.deref.ensures.value at (rw c.deref-2.ensures.value at c.explain_log.ensures.stopped))
