-- The text of a log is that of one list of lines.
use Rattle.std.proofs.Common.{◌≡◌, ℕ, ◌+◌, ◌-◌, Bool, true, false, not, fold, if◌then◌else◌, List, []}
use Rattle.std.proofs.Common.{◌∷◌, ◌++◌}
use Rattle.std.proofs.Common.{Option, Some, None, length, drop, slice_index, slice_get, codes, decimal, All}
use Rattle.std.proofs.Common.{IfSome}
use Rattle.std.proofs.Common.{refl, sym, ap, ap₂, subst, ◌∙◌, append_assoc, length-append, take_at, arith}
use Rattle.std.specs.List.{AllZip}
use Rattle.std.specs.Option.{option_map_or}
use Rattle.std.proofs.lemmas.List.{append_cancel_left}
use Rattle.rdm_wire.specs.Devices.{uids_of}
use Rattle.rdm_join.specs.declared.event.LineEvent.{LineEvent}
use Rattle.rdm_log.specs.declared.entry.Entry.{Entry}
use Rattle.rdm_log.specs.declared.entry.Entry.TheVariants as entries
use Rattle.rdm_reports.specs.LogText.{number_member, text_member, bytes_member, event_member, entry_name}
use Rattle.rdm_reports.specs.LogText.{entry_members}
use Rattle.rdm_reports.specs.LogText.{operation_of, operation_text}
use Rattle.rdm_findings.specs.Lines.{line_end, time_member, with_time, line_text, lines_text}
use Rattle.rdm_findings.specs.SameLines.{Has64Bits, FitsLine, SaySame}
use Rattle.rdm_findings.specs.Asked.{asks_from}
use Rattle.rdm_findings.specs.Runs.{RunRead, ReadState, nothing_read, awaiting, reopens, ended, after_opening, read_on}
use Rattle.rdm_findings.specs.Runs.{runs_of}
use Rattle.rdm_findings.specs.declared.line.DiscoveryOpening.{DiscoveryOpening}
use Rattle.rdm_findings.specs.declared.line.SessionOpening.{SessionOpening}
use Rattle.rdm_findings.specs.declared.line.LogLine.{LogLine}
use Rattle.rdm_findings.specs.declared.line.LogLine.TheVariants.{Discovery, Session, Entered, Exchanged}
use Rattle.rdm_findings.proofs.PieceLemmas.{Ends, is_word, own_word, both, number, numbers, word, bytes, rest}
use Rattle.rdm_findings.proofs.EntryLemmas.{tail, before, event, own_members}
use Rattle.rdm_findings.proofs.OpeningLemmas.{discovery, own_session, other_opening}

name_is_word : (e : Entry) → is_word (entry_name e) ≡ true
name_is_word (entries.Join client places) = refl
name_is_word e = refl

not_opening : (e : Entry) → entry_name e ≡ codes "opening" → ⊥
not_opening (entries.Join client places) h = absurd (omega (arith, ap (λ (l : List ℕ). slice_index l 0) h))
not_opening e h = absurd (omega (arith, ap (λ (l : List ℕ). slice_index l 0) h))

operation_is_word : (frame : List ℕ) → is_word (operation_text frame) ≡ true
operation_is_word frame = by_byte (slice_get frame 22)
  where
    by_tests : (a b : Bool)
        → is_word (if a then codes "branch" else (if b then codes "mute" else codes "unmute")) ≡ true
    by_tests true b = refl
    by_tests false true = refl
    by_tests false false = refl

    by_byte : (o : Option ℕ) → is_word (option_map_or operation_of o (codes "unmute")) ≡ true
    by_byte None = refl
    by_byte (Some pid) = by_tests _ _

own_time : (m n : ℕ) (r s : List ℕ) → number_member (codes "microseconds") m ++ 125 ∷ 10 ∷ r
    ≡ number_member (codes "microseconds") n ++ 125 ∷ 10 ∷ s → Has64Bits m → Has64Bits n → (m ≡ n) × (r ≡ s)
own_time m n r s h f g =
    let one = (number (codes "microseconds")).own m n (125 ∷ 10 ∷ r) (125 ∷ 10 ∷ s) f g h refl refl in
    (one.0, ap (drop 2) one.1)

own_tail : (t u : Option ℕ) (r s : List ℕ) → IfSome t Has64Bits → IfSome u Has64Bits → tail t r ≡ tail u s
    → (t ≡ u) × (r ≡ s)
own_tail None None r s f g h = (refl, ap (drop 2) h)
own_tail (Some t) (Some u) r s f g h =
    let one = own_time _ _ r s h (omega arith) (omega arith) in
    let same : t ≡ u = omega (arith, one.0) in (ap Some same, one.1)
own_tail t u r s f g h = absurd (omega (arith, ap (λ (l : List ℕ). slice_index l 0) h))

with_tail : (body r : List ℕ) (t : Option ℕ) → with_time (body ++ line_end) t ++ r ≡ body ++ tail t r
with_tail body r None = append_assoc body line_end r
with_tail body r (Some t) =
    ap (λ (l : List ℕ). l ++ time_member t ++ line_end ++ r)
    (take_at body line_end (length (body ++ line_end) - length line_end) (omega (arith, length-append body line_end)))
    ∙ regroup body (time_member t) line_end r
  where
    regroup : (a b c r : List ℕ) → ((a ++ b) ++ c) ++ r ≡ a ++ (b ++ (c ++ r))
    regroup a b c r = simp append_assoc

-- a line with the parts of its text before its time, and then what follows
parts : LogLine → List ℕ → List ℕ
parts (Entered e t) r = codes "{\"entry\":\"" ++ (entry_name e ++ 34 ∷ (entry_members e ++ tail t r))
parts (Exchanged n x e t) r =
    codes "{\"number\":" ++ decimal n ++ text_member (codes "operation") (operation_text x.items)
    ++ bytes_member (codes "frame") x.items ++ event_member e ++ tail t r
parts l r = line_text l ++ r

parts-is : (l : LogLine) (r : List ℕ) → line_text l ++ r ≡ parts l r
unfolding parts
parts-is (Entered e t) r =
    with_tail (codes "{\"entry\":\"" ++ entry_name e ++ codes "\"" ++ entry_members e) r t
    ∙ regroup (codes "{\"entry\":\"") (entry_name e) (entry_members e) (tail t r)
  where
    regroup : (a b c r : List ℕ) → (((a ++ b) ++ codes "\"") ++ c) ++ r ≡ a ++ (b ++ 34 ∷ (c ++ r))
    regroup a b c r = simp append_assoc
parts-is (Exchanged n x e t) r =
    with_tail (codes "{\"number\":" ++ decimal n ++ text_member (codes "operation") (operation_text x.items)
    ++ bytes_member (codes "frame") x.items ++ event_member e) r t
parts-is l r = refl

parts_end : (l : LogLine) (r : List ℕ) → Ends (parts l r)
unfolding parts
parts_end (Discovery o) r = refl
parts_end l r = refl

lines_end : (lines : List LogLine) → Ends (lines_text lines)
lines_end [] = tt
lines_end (l ∷ lines) = subst Ends (sym (parts-is l (lines_text lines))) (parts_end l (lines_text lines))

other_entry : (e : Entry) (r s : List ℕ)
    → codes "{\"entry\":\"" ++ (entry_name e ++ 34 ∷ r) ≡ codes "{\"entry\":\"opening\"" ++ s → ⊥
other_entry e r s h =
    not_opening e (own_word (entry_name e) (codes "opening") (34 ∷ r) (34 ∷ s) (name_is_word e) refl refl refl
    (append_cancel_left (codes "{\"entry\":\"") _ _ h)).0

own_line : (a b : LogLine) (r s : List ℕ) → FitsLine a → FitsLine b → parts a r ≡ parts b s → Ends r → Ends s
    → SaySame a b × (r ≡ s)
unfolding parts
own_line (Discovery o) (Discovery p) r s f g h i j = discovery.own o.value p.value r s f g h i j
own_line (Session o) (Session p) r s f g h i j = own_session o.value p.value r s f.0 g.0 f.1 g.1 h i j
own_line (Entered e t) (Entered x u) r s f g h i j =
    let name = own_word (entry_name e) (entry_name x) _ _ (name_is_word e) (name_is_word x) refl refl
    (append_cancel_left (codes "{\"entry\":\"") (entry_name e ++ 34 ∷ (entry_members e ++ tail t r))
    (entry_name x ++ 34 ∷ (entry_members x ++ tail u s)) h) in
    let members = own_members e x t u r s f.0 g.0 name.0 (ap (drop 1) name.1) in
    let time = own_tail t u r s f.1 g.1 members.1 in (ap₂ Entered members.0 time.0, time.1)
own_line (Exchanged m x d t) (Exchanged n y e u) r s f g h i j =
    let one = before (both (both (both (numbers (codes "{\"number\":") refl) (word (codes "operation")))
    (bytes (codes "frame"))) event) (((m, operation_text x.items), x.items), d)
    (((n, operation_text y.items), y.items), e) t u r s (((f.0, operation_is_word x.items), f.1), f.2)
    (((g.0, operation_is_word y.items), g.1), g.2) h in
    let time = own_tail t u r s f.3 g.3 one.1 in (
      ap₂ (λ (z : ((ℕ × List ℕ) × List ℕ) × LineEvent) (v : Option ℕ).
          Exchanged z.0.0.0 (record { items = z.0.1 }) z.1 v) one.0 time.0,
      time.1,
    )
own_line (Discovery o) (Session p) r s f g h i j =
    absurd (other_opening o.value p.value r s f.0 f.2 g.0 h)
own_line (Session p) (Discovery o) r s f g h i j =
    absurd (other_opening o.value p.value s r g.0 g.2 f.0 (sym h))
own_line (Exchanged m x d t) b r s f g h i j = absurd (omega (arith, ap (λ (l : List ℕ). slice_index l 2) h))
own_line a (Exchanged n y e u) r s f g h i j = absurd (omega (arith, ap (λ (l : List ℕ). slice_index l 2) h))
own_line (Entered e t) b r s f g h i j = absurd (other_entry e _ _ h)
own_line a (Entered e t) r s f g h i j = absurd (other_entry e _ _ (sym h))

no_line : (l : LogLine) (r : List ℕ) → [] ≡ parts l r → ⊥
unfolding parts
no_line (Discovery o) r h = absurd (omega (arith, ap (λ (l : List ℕ). slice_index l 0) h))
no_line l r h = absurd (omega (arith, ap (λ (l : List ℕ). slice_index l 0) h))

-- lines with the same text say the same
pub own_lines : (a b : List LogLine) → All FitsLine a → All FitsLine b → lines_text a ≡ lines_text b
    → AllZip SaySame a b
own_lines [] [] f g h = tt
own_lines [] (y ∷ b) f g h = absurd (no_line y (lines_text b) (h ∙ parts-is y (lines_text b)))
own_lines (x ∷ a) [] f g h = absurd (no_line x (lines_text a) (sym h ∙ parts-is x (lines_text a)))
own_lines (x ∷ a) (y ∷ b) f g h =
    let one = own_line x y (lines_text a) (lines_text b) (f 0 x (omega arith)) (g 0 y (omega arith))
    (sym (parts-is x (lines_text a)) ∙ h ∙ parts-is y (lines_text b)) (lines_end a) (lines_end b) in
    (one.0, own_lines a b (rest FitsLine x a f) (rest FitsLine y b g) one.1)

-- lines that say the same are read alike
read_alike : (a b : LogLine) (p : List RunRead × ReadState) → SaySame a b → read_on p a ≡ read_on p b
read_alike (Discovery o) (Discovery q) p h =
    ap (λ (v : DiscoveryOpening). (p.0 ++ (if not (reopens v p.1) then ended p.1 else []), after_opening v p.1)) h
read_alike (Session o) (Session q) p h = ap (λ (v : SessionOpening). (p.0 ++ ended p.1, after_session v)) h
  where
    after_session : SessionOpening → ReadState
    after_session v =
        awaiting true None (Some v.opening.search) (Some v.opening.budget) (Some (uids_of v.opening.devices))
        (asks_from v.opening.next_ask v.opening.next_run)
read_alike a b p h = ap (read_on p) h

all_read_alike : (a b : List LogLine) (p : List RunRead × ReadState) → AllZip SaySame a b
    → fold read_on p a ≡ fold read_on p b
all_read_alike [] [] p h = refl
all_read_alike [] (y ∷ b) p h = absurd h
all_read_alike (x ∷ a) [] p h = absurd h
all_read_alike (x ∷ a) (y ∷ b) p h =
    ap (λ (q : List RunRead × ReadState). fold read_on q a) (read_alike x y p h.0)
    ∙ all_read_alike a b (read_on p y) h.1

-- lines with the same text have the same runs
pub one_list_of_runs : (a b : List LogLine) → All FitsLine a → All FitsLine b → lines_text a ≡ lines_text b
    → runs_of a ≡ runs_of b
one_list_of_runs a b f g h =
    ap (λ (p : List RunRead × ReadState). p.0 ++ ended p.1)
    (all_read_alike a b ([], nothing_read) (own_lines a b f g h))
