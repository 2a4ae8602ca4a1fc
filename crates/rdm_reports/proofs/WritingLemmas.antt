-- What is written to a log, one text after another.
use Rattle.std.proofs.Common.{◌≡◌, ◌≢◌, ℕ, suc, ◌+◌, ◌<◌, Bool, true, false, List, [], ◌∷◌, ◌++◌, length, take, get_or}
use Rattle.std.proofs.Common.{Option, Some, None, Result, Ok, Err, refl, sym, ap, ◌∙◌, append_assoc, append-nil, subst}
use Rattle.std.proofs.Common.{arith}
use Rattle.std.specs.Prelude.{OnOk}
use Rattle.std.specs.Io.KnownBytes.{Appends, Keeps}
use Rattle.std.proofs.KnownBytes.{Appends-trans, Appends-nil, Keeps-refl, Keeps-trans}
use Rattle.std.proofs.Math.Seq.{take-suc}
use Rattle.std.proofs.lemmas.Grind.{flat_map-append}
use Rattle.rdm_log.specs.declared.entry.Entry.{Entry}
use Rattle.rdm_reports.specs.LogText.{entry_line, log_text}
use Rattle.rdm_reports.specs.Writing.{IsCutShort, IsWritten, LogState, LogsFrom, Logs}

-- what is kept after an append is what was appended
pub appends_kept : (a b c : Option (List ℕ)) (bytes : List ℕ) → Appends a b bytes → Keeps b c → Appends a c bytes
appends_kept None b c bytes p q = tt
appends_kept (Some x) None c bytes p q = absurd p
appends_kept (Some x) (Some y) None bytes p q = absurd q
appends_kept (Some x) (Some y) (Some z) bytes p q = q ∙ p

-- what is appended after bytes were kept
pub kept_appends : (a b c : Option (List ℕ)) (bytes : List ℕ) → Keeps a b → Appends b c bytes → Appends a c bytes
kept_appends None b c bytes p q = tt
kept_appends (Some x) None c bytes p q = absurd p
kept_appends (Some x) (Some y) None bytes p q = absurd q
kept_appends (Some x) (Some y) (Some z) bytes p q = q ∙ ap (λ l. l ++ bytes) p

-- a list with more behind it isn't empty, unless both are
longer : (xs ys : List ℕ) → xs ≢ [] → xs ++ ys ≢ []
longer [] ys some none = some refl
longer (x ∷ xs) ys some none = cc

-- a text that is cut short, and then nothing
pub cut_then_none : (a b c : Option (List ℕ)) (s t : List ℕ) → IsCutShort a b s → Keeps b c → IsCutShort a c (s ++ t)
cut_then_none a b c s t (front, rest, is, some, wrote) kept = (
  front,
  rest ++ t,
  ap (λ l. l ++ t) is ∙ append_assoc front rest t,
  longer rest t some,
  appends_kept a b c front wrote kept,
)

-- a whole text, and then one that is cut short
pub whole_then_cut : (a b c : Option (List ℕ)) (s t : List ℕ) → Appends a b s → IsCutShort b c t
    → IsCutShort a c (s ++ t)
whole_then_cut a b c s t wrote (front, rest, is, some, more) = (
  s ++ front,
  rest,
  ap (λ l. s ++ l) is ∙ sym (append_assoc s front rest),
  some,
  Appends-trans a b c s front wrote more,
)

-- two texts, the second after the first
logs_from_more : (was_open was_failed failed still_failed : Bool) (a b c : Option (List ℕ)) (s t : List ℕ)
    → LogsFrom was_open was_failed failed a b s → LogsFrom was_open failed still_failed b c t
    → LogsFrom was_open was_failed still_failed a c (s ++ t)
logs_from_more false was_failed failed still_failed a b c s t (is, kept) (later, more) =
    (later ∙ is, Keeps-trans a b c kept more)
logs_from_more true true failed still_failed a b c s t (is, kept) next = after failed is next
  where
    after : (f : Bool) → f ≡ true → LogsFrom true f still_failed b c t → (still_failed ≡ true) × Keeps a c
    after true is (later, more) = (later, Keeps-trans a b c kept more)
    after false is next = cc
logs_from_more true false true still_failed a b c s t cut (later, more) = after still_failed later
  where
    after : (f : Bool) → f ≡ true → IsWritten f a c (s ++ t)
    after true is = cut_then_none a b c s t cut more
    after false is = cc
logs_from_more true false false false a b c s t wrote more = Appends-trans a b c s t wrote more
logs_from_more true false false true a b c s t wrote cut = whole_then_cut a b c s t wrote cut

pub logs_more : (was now later : LogState) (s t : List ℕ) → Logs was now s → Logs now later t → Logs was later (s ++ t)
logs_more was now later s t (opened, first) (still, second) = (
  still ∙ opened,
  logs_from_more was.is_open was.is_failed now.is_failed later.is_failed was.contents now.contents later.contents s t
      first
      (subst (λ o. LogsFrom o now.is_failed later.is_failed now.contents later.contents t) opened second),
)

-- no text
none_from : (was_open failed : Bool) (a : Option (List ℕ)) → LogsFrom was_open failed failed a a []
none_from false failed a = (refl, Keeps-refl a)
none_from true true a = (refl, Keeps-refl a)
none_from true false a = Appends-nil a

pub logs_none : (log : LogState) → Logs log log []
logs_none log = (refl, none_from log.is_open log.is_failed log.contents)

-- one more entry of a log
pub entries_next : (entries : List Entry) (i : ℕ) (e : Entry) (was now later : LogState) → i < length entries
    → e ≡ get_or entries i e
    → Logs was now (log_text (take i entries)) → Logs now later (entry_line e)
    → Logs was later (log_text (take (i + 1) entries))
entries_next entries i e was now later lt at before more =
    subst (λ text. Logs was later text) (sym grows)
    (logs_more was now later (log_text (take i entries)) (entry_line e) before more)
  where
    next : (n : ℕ) → n + 1 ≡ suc n
    next n = omega arith

    grows : log_text (take (i + 1) entries) ≡ log_text (take i entries) ++ entry_line e
    grows = ap log_text
        (ap (λ k. take k entries) (next i) ∙ take-suc entries i e lt ∙ ap (λ w. take i entries ++ w ∷ []) (sym at))
        ∙ flat_map-append entry_line (take i entries) (e ∷ [])
        ∙ ap (λ l. log_text (take i entries) ++ l) (append-nil (entry_line e))

-- three texts, one after another
pub three_written : {A E : Type 0} (r : Result A E) (t0 t1 t2 t3 a b c : List ℕ) → t1 ≡ t0 ++ a → t2 ≡ t1 ++ b
    → OnOk r (t3 ≡ t2 ++ c) → OnOk r (t3 ≡ t0 ++ ((a ++ b) ++ c))
three_written (Err e) t0 t1 t2 t3 a b c p q u = tt
three_written (Ok x) t0 t1 t2 t3 a b c p q u =
    u ∙ ap (λ l. l ++ c) (q ∙ ap (λ l. l ++ b) p) ∙ ap (λ l. l ++ c) (append_assoc t0 a b) ∙ append_assoc t0 (a ++ b) c

-- four texts, one after another
pub four_written : {A E : Type 0} (r : Result A E) (t0 t1 t2 t3 t4 a b c d : List ℕ) → t1 ≡ t0 ++ a → t2 ≡ t1 ++ b
    → t3 ≡ t2 ++ c → OnOk r (t4 ≡ t3 ++ d)
    → OnOk r (t4 ≡ t0 ++ (((a ++ b) ++ c) ++ d))
four_written (Err e) t0 t1 t2 t3 t4 a b c d p q s u = tt
four_written (Ok x) t0 t1 t2 t3 t4 a b c d p q s u =
    u ∙ ap (λ l. l ++ d) (s ∙ ap (λ l. l ++ c) (q ∙ ap (λ l. l ++ b) p)) ∙ shift
  where
    shift : (((t0 ++ a) ++ b) ++ c) ++ d ≡ t0 ++ (((a ++ b) ++ c) ++ d)
    shift = ap (λ l. (l ++ c) ++ d) (append_assoc t0 a b) ∙ ap (λ l. l ++ d) (append_assoc t0 (a ++ b) c)
        ∙ append_assoc t0 ((a ++ b) ++ c) d
