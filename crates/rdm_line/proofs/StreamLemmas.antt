-- What is consumed byte by byte, and which lines say a reply.
use Rattle.std.proofs.Common.{◌≡◌, ◌≢◌, ◌⊎◌, inl, inr, ℕ, ◌+◌, ◌-◌, ◌*◌, ◌/◌, ◌≤◌, List, [], ◌∷◌, ◌++◌, All, Option}
use Rattle.std.proofs.Common.{None, Some, Bor, Result, Ok, Err, false, length, take, drop, nat_eq, unwrap_or, refl}
use Rattle.std.proofs.Common.{subst, sym, ◌∙◌, ap, append_assoc, arith, true, true≢false}
use Rattle.std.specs.Prelude.{IfNone, IsOk, MatchOption, MatchResult}
use Rattle.std.specs.Io.KnownBytes.{Appends, Consumes}
use Rattle.std.specs.Cmp.Lexicographic.{pointwise}
use Rattle.std.proofs.KnownBytes.{Consumes-trans}
use Rattle.std.proofs.lemmas.List.{append_cancel_right, length-append}
use Rattle.std.proofs.lemmas.List.Elements.{All-append, All-cons, All-head, All-nil, All-tail}
use Rattle.std.specs.List.{AllPass}
use Rattle.std.proofs.lemmas.Bool.Decides.{Decides-eqb}
use Rattle.std.proofs.lemmas.Slice.Eq.{strip_suffix_is}
use Rattle.hex.specs.Hex.{decode_of, decode_sized, is_hex_digit}
use Rattle.hex.specs.declared.error.FromHexError.{FromHexError}
use Rattle.hex.proofs.HexLemmas.{decode_of-ok, IsOk-decode_sized, IsOk-written}
use Rattle.rdm_line.specs.Streams.{SaysReply, ReadsNoReply, frame_line}
use Rattle.rdm_line.specs.body.LineReading.{IsTextOf, ReadsWithin}

-- one more byte, which is no newline
pub reads_more : (a b c : Option (List ℕ)) (text : List ℕ) (x : ℕ) → All (λ y. y ≢ 10) text → x ≢ 10
    → Consumes a b text → Consumes b c (x ∷ []) → All (λ y. y ≢ 10) (text ++ x ∷ []) × Consumes a c (text ++ x ∷ [])
reads_more a b c text x all other first then = (
  All-append (λ y. y ≢ 10) text (x ∷ []) all (All-cons (λ y. y ≢ 10) x [] other (All-nil (λ y. y ≢ 10))),
  Consumes-trans a b c text (x ∷ []) first then,
)

-- a line says 514 digits and a carriage return at most
says_length : (line bytes : List ℕ) → SaysReply line bytes → length line ≤ 515
says_length line bytes (text, ends, decodes, few) =
    let digits = (decode_of-ok text bytes decodes).2 in
    elim ends [
      | inl e ↦ (let l = ap length e in omega arith)
      | inr e ↦ (let l = ap length e ∙ length-append text (13 ∷ []) in omega arith)
    ]

-- a line that is too long says no reply, whatever follows
pub reads_long : (a b c d : Option (List ℕ)) (text : List ℕ) (x : ℕ) → 515 ≤ length text → All (λ y. y ≢ 10) text
    → x ≢ 10
    → Consumes a b text → Consumes b c (x ∷ []) → ReadsWithin c d → ReadsNoReply a d
reads_long a b c d text x long all other first then (rest, others, ends) =
    let more = reads_more a b c text x all other first then in
    let line : List ℕ = text ++ x ∷ [] in (
      line ++ rest,
      All-append (λ y. y ≢ 10) line rest more.0 others,
      elim ends [
        | inl part ↦ inl (Consumes-trans a c d line rest more.1 part)
        | inr whole ↦ inr (
          subst (Consumes a d) (sym (append_assoc line rest (10 ∷ [])))
              (Consumes-trans a c d line (rest ++ 10 ∷ []) more.1 whole),
          λ bytes says.
              let most = says_length (line ++ rest) bytes says in
              let sum = length-append line rest in
              let one = length-append text (x ∷ []) in
              omega arith,
        )
      ],
    )

-- a carriage return is no digit
no_digit : (text : List ℕ) → AllPass is_hex_digit (text ++ 13 ∷ []) → ⊥
no_digit [] all = true≢false (sym (All-head (λ x. is_hex_digit x ≡ true) 13 [] all))
no_digit (x ∷ xs) all = no_digit xs (All-tail (λ y. is_hex_digit y ≡ true) x (xs ++ 13 ∷ []) all)

no_return : (text bytes : List ℕ) → decode_of (text ++ 13 ∷ []) ≡ Ok bytes → ⊥
no_return text bytes decodes = no_digit text (decode_of-ok (text ++ 13 ∷ []) bytes decodes).1

-- a line whose text is no hexadecimal says no reply
says_none : (line text : List ℕ) → IsTextOf line text → ((bytes : List ℕ) → decode_of text ≢ Ok bytes)
    → (bytes : List ℕ) → SaysReply line bytes → ⊥
says_none line text (inl returned) none bytes (t, inl same, decodes, few) =
    no_return text bytes (subst (λ l. decode_of l ≡ Ok bytes) (sym same ∙ returned) decodes)
says_none line text (inl returned) none bytes (t, inr again, decodes, few) =
    none bytes (subst (λ l. decode_of l ≡ Ok bytes) (append_cancel_right t text (13 ∷ []) (sym again ∙ returned))
    decodes)
says_none line text (inr (whole, other)) none bytes (t, inl same, decodes, few) =
    none bytes (subst (λ l. decode_of l ≡ Ok bytes) (sym same ∙ whole) decodes)
says_none line text (inr (whole, other)) none bytes (t, inr again, decodes, few) = other t again

-- nor does one whose text isn't decoded, where the slice has a byte for each two digits
pub reads_none : (line text : List ℕ) (n : ℕ) (r : Result Unit FromHexError) (out : List ℕ) → IsTextOf line text
    → n ≡ length text / 2
    → MatchResult (decode_sized text n) (λ bytes. (r ≡ Ok tt) × (out ≡ bytes)) (λ e. r ≡ Err e) → (IsOk r → ⊥)
    → (bytes : List ℕ) → SaysReply line bytes → ⊥
reads_none line text n r out is half decoded bad =
    says_none line text is (λ bytes decodes.
    let digits = decode_of-ok text bytes decodes in
    let twice : length text ≡ 2 * n = omega (arith, digits.2, half) in
    bad ((IsOk-written (decode_sized text n) r out decoded).1 ((IsOk-decode_sized text n).1 (twice, digits.1))))

-- what `strip_suffix` leaves of a line is its text
pub text_is : (line : Bor (List ℕ)) (r : Option (Bor (List ℕ)))
    → MatchOption r (pointwise nat_eq (drop (length line.now - 1) line.now) (13 ∷ []) ≡ false)
    (λ x. (pointwise nat_eq (drop (length line.now - 1) line.now) (13 ∷ []) ≡ true)
    × (x.now ≡ take (length line.now - 1) line.now) × (length x.now + 1 ≡ length line.now))
    → IsTextOf line.now (unwrap_or r line).now
text_is line None m = inr (refl, strip_suffix_is Decides-eqb line.now (13 ∷ []) None m)
text_is line (Some x) m = inl (strip_suffix_is Decides-eqb line.now (13 ∷ []) (Some x) m)

-- a frame goes unanswered where the line after it says no reply
pub unanswered : {X : Type 0} (r : Option X) (left after held holds : Option (List ℕ)) (frame line text : List ℕ)
    → text ≡ line
    → Appends held holds (frame_line frame) → All (λ y. y ≢ 10) line → Consumes left after (line ++ 10 ∷ [])
    → IfNone r ((bytes : List ℕ) → SaysReply text bytes → ⊥)
    → IfNone r ((after ≡ left) ⊎ (Appends held holds (frame_line frame) × ReadsNoReply left after))
unanswered None left after held holds frame line text same written all consumed none =
    inr (written, (line, all, inr (consumed, subst (λ l. (bytes : List ℕ) → SaysReply l bytes → ⊥) same none)))
unanswered (Some x) left after held holds frame line text same written all consumed none = tt
