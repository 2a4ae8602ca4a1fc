-- Pieces of a log's text, each of which says itself where it ends: so one text is of one list of pieces.
use Rattle.std.proofs.Common.{◌≡◌, ℕ, zero, suc, ◌+◌, ◌^◌, ◌<◌, ◌≤◌, ◌==◌, Bool, true, false, not, ◌||◌, ◌&&◌, List, []}
use Rattle.std.proofs.Common.{◌∷◌, ◌++◌}
use Rattle.std.proofs.Common.{length, All, take, drop, slice_index, codes, decimal, refl, sym, ap, ap₂, ◌∙◌, subst}
use Rattle.std.proofs.Common.{append_assoc, true≢false, arith}
use Rattle.std.specs.Str.Parse.{AllDigits}
use Rattle.std.proofs.lemmas.Bool.Decides.{nat_tests}
use Rattle.std.proofs.lemmas.Fmt.{decimal_is_IsNumeral, decimal_injective, decimal_nonempty}
use Rattle.std.proofs.lemmas.List.{append_cancel_left}
use Rattle.std.proofs.lemmas.Str.Parse.{digit_from_value}
use Rattle.rdm_wire.specs.Bytes.{number_of, two_bytes, uid_bytes}
use Rattle.rdm_wire.specs.UidText.{uid_text}
use Rattle.rdm_wire.proofs.BytesLemmas.{number_of-two_bytes, IsBytes-two_bytes}
use Rattle.rdm_wire.proofs.UidLemmas.{uid_text_reads, text_once}
use Rattle.hex.specs.Hex.{IsBytes, decode_of, encode_lower, encode_with, lower_digits}
use Rattle.hex.proofs.HexLemmas.{decode_of-same, decode_of-encode_lower}
use Rattle.rdm_findings.specs.SameLines.{Has64Bits, Has48Bits}
use Rattle.rdm_reports.specs.SessionReport.{numbered}
use Rattle.rdm_reports.specs.OpeningText.{element, list_start, list_member}
use Rattle.rdm_reports.specs.LogText.{number_member, text_member, bytes_member}

-- whether a code is a quote, a comma, a bracket or a brace, which end a word
abbrev pub ends : ℕ → Bool
ends c = ((c == 34 || c == 44) || (c == 93 || c == 125)) || c == 123

-- whether no code of a text ends one
abbrev pub is_word : List ℕ → Bool
is_word [] = true
is_word (c ∷ cs) = not (ends c) && is_word cs

-- no text, or one that begins with a code that ends a word
abbrev pub Ends : List ℕ → Type 0
Ends [] = Unit {0}
Ends (c ∷ cs) = ends c ≡ true

each : (a b : Bool) → (not a && b) ≡ true → (a ≡ false) × (b ≡ true)
each false b h = (refl, h)
each true b h = absurd (true≢false (sym h))

neither : (c d : ℕ) → c ≡ d → ends c ≡ true → ends d ≡ false → ⊥
neither c d is e f = true≢false (sym e ∙ ap ends is ∙ f)

-- a word and what follows it are those of no other
pub own_word : (v w r s : List ℕ) → is_word v ≡ true → is_word w ≡ true → Ends r → Ends s → v ++ r ≡ w ++ s
    → (v ≡ w) × (r ≡ s)
own_word [] [] r s p q e f h = (refl, h)
own_word [] (d ∷ w) [] s p q e f h = absurd (omega (arith, ap length h))
own_word [] (d ∷ w) (c ∷ r) s p q e f h = absurd (neither c d (cc) e (each (ends d) (is_word w) q).0)
own_word (c ∷ v) [] r [] p q e f h = absurd (omega (arith, ap length h))
own_word (c ∷ v) [] r (d ∷ s) p q e f h = absurd (neither d c (cc) f (each (ends c) (is_word v) p).0)
own_word (c ∷ v) (d ∷ w) r s p q e f h =
    let rest = own_word v w r s (each (ends c) (is_word v) p).1 (each (ends d) (is_word w) q).1 e f (cc) in (cc, rest.1)

word_append : (v w : List ℕ) → is_word v ≡ true → is_word w ≡ true → is_word (v ++ w) ≡ true
word_append [] w p q = q
word_append (c ∷ v) w p q = let k = each (ends c) (is_word v) p in rw (k.0, word_append v w k.1 q) refl

digit : (c : ℕ) → 48 ≤ c → c ≤ 57 → ends c ≡ false
digit c low high = grind (arith, nat_tests)

digits : (ds : List ℕ) → AllDigits 10 ds → is_word ds ≡ true
digits [] d = refl
digits (c ∷ cs) d = let k = digit_from_value c d.0 in rw (digit c k.0 k.1, digits cs d.1) refl

pub number_is_word : (n : ℕ) → n < 2 ^ 64 → is_word (decimal n) ≡ true
number_is_word n h = digits (decimal n) (decimal_is_IsNumeral n h).0.1

at_index : (t : List ℕ) → is_word t ≡ true → (i : ℕ) → ends (slice_index t i) ≡ false
at_index [] p i = refl
at_index (c ∷ t) p zero = (each (ends c) (is_word t) p).0
at_index (c ∷ t) p (suc i) = at_index t (each (ends c) (is_word t) p).1 i

pub hex_is_word : (bytes : List ℕ) → is_word (encode_lower bytes) ≡ true
unfolding encode_with
hex_is_word [] = refl
hex_is_word (b ∷ bytes) = rw (at_index lower_digits refl, at_index lower_digits refl, hex_is_word bytes) refl

pub one_hex : (xs ys : List ℕ) → IsBytes xs → IsBytes ys → encode_lower xs ≡ encode_lower ys → xs ≡ ys
one_hex xs ys f g h =
    decode_of-same (encode_lower xs) xs ys (decode_of-encode_lower xs f) (ap decode_of h ∙ decode_of-encode_lower ys g)

pub uid_is_word : (u : ℕ) → is_word (uid_text u) ≡ true
uid_is_word u =
    word_append (encode_lower (take 2 (uid_bytes u))) (58 ∷ encode_lower (drop 2 (uid_bytes u))) (hex_is_word _)
    (hex_is_word (drop 2 (uid_bytes u)))

pub one_uid : (u v : ℕ) → u < 2 ^ 48 → v < 2 ^ 48 → uid_text u ≡ uid_text v → u ≡ v
one_uid u v f g h = text_once (uid_text u) u v (uid_text_reads u f) (rw h (uid_text_reads v g))

own_decimal : (m n : ℕ) (r s : List ℕ) → Has64Bits m → Has64Bits n → decimal m ++ r ≡ decimal n ++ s → Ends r → Ends s
    → (m ≡ n) × (r ≡ s)
own_decimal m n r s f g h e d =
    let one = own_word (decimal m) (decimal n) r s (number_is_word m f) (number_is_word n g) e d h in
    (decimal_injective m n f g one.0, one.1)

-- the text of a value is that of no other one, whatever follows
abbrev pub Owns : {A : Type 0} → (A → List ℕ) → (A → Type 0) → Type 0
Owns {A} text P =
    (x y : A) (r s : List ℕ) → P x → P y → text x ++ r ≡ text y ++ s → Ends r → Ends s → (x ≡ y) × (r ≡ s)

-- so is this text, and it ends a word
pub record IsOwn {A : Type 0} (text : A → List ℕ) (P : A → Type 0) : Type 0 where
  pub own : Owns text P
  pub ends : (x : A) (r : List ℕ) → Ends r → Ends (text x ++ r)

-- one text, and then another
pub both : {A B : Type 0} {f : A → List ℕ} {g : B → List ℕ} {P : A → Type 0} {Q : B → Type 0} → IsOwn f P → IsOwn g Q
    → IsOwn (λ (p : A × B). f p.0 ++ g p.1) (λ (p : A × B). P p.0 × Q p.1)
both {A = A} {B = B} {f = f} {g = g} a b = record {
  own = λ p q r s i j h e d.
      let one = a.own p.0 q.0 (g p.1 ++ r) (g q.1 ++ s) i.0 j.0
      (sym (append_assoc (f p.0) (g p.1) r) ∙ h ∙ append_assoc (f q.0) (g q.1) s) (b.ends p.1 r e) (b.ends q.1 s d) in
      let two = b.own p.1 q.1 r s i.1 j.1 one.1 e d in (ap₂ (λ (x : A) (y : B). (x, y)) one.0 two.0, two.1);
  ends = λ p r e. subst Ends (sym (append_assoc (f p.0) (g p.1) r)) (a.ends p.0 (g p.1 ++ r) (b.ends p.1 r e));
}

-- the text of a value that is made of parts
pub of : {A B : Type 0} {f : A → List ℕ} {P : A → Type 0} {Q : B → Type 0} → IsOwn f P → (make : A → B)
    (parts : B → A) → ((b : B) → make (parts b) ≡ b) → ((b : B) → Q b → P (parts b)) → IsOwn (λ b. f (parts b)) Q
of a make parts back fits = record {
  own = λ x y r s i j h e d.
      let one = a.own (parts x) (parts y) r s (fits x i) (fits y j) h e d in
      (sym (back x) ∙ ap make one.0 ∙ back y, one.1);
  ends = λ x r e. a.ends (parts x) r e;
}

-- the text's first code ends a word
abbrev Starts : List ℕ → Type 0
Starts text = ends (slice_index text 0) ≡ true

begins : (a b : List ℕ) → Starts a → Ends (a ++ b)
begins [] b e = absurd (true≢false (sym e))
begins (c ∷ a) b e = e

-- a text that is always the same
pub same_text : (text : List ℕ) → Starts text → IsOwn (λ (x : Unit {0}). text) (λ (x : Unit {0}). Unit {0})
same_text text starts = record {
  own = λ x y r s f g h e d. (refl, append_cancel_left text r s h);
  ends = λ x r e. begins text r starts;
}

-- a number after a text
pub numbers : (start : List ℕ) → Starts start → IsOwn (λ n. start ++ decimal n) Has64Bits
numbers start starts = record {
  own = λ m n r s f g h e d.
      own_decimal m n r s f g (append_cancel_left start _ _ (sym (append_assoc start (decimal m) r) ∙ h
      ∙ append_assoc start (decimal n) s)) e d;
  ends = λ n r e. subst Ends (sym (append_assoc start (decimal n) r)) (begins start (decimal n ++ r) starts);
}

-- a word after a text, and then a quote
pub quoted : {A : Type 0} (start : List ℕ) (text : A → List ℕ) (P : A → Type 0) → Starts start
    → ((x : A) → P x → is_word (text x) ≡ true) → ((x y : A) → P x → P y → text x ≡ text y → x ≡ y)
    → IsOwn (λ x. start ++ text x ++ codes "\"") P
quoted start text P starts words one = record {
  own = λ x y r s i j h e d.
      let w = own_word (text x) (text y) (34 ∷ r) (34 ∷ s) (words x i) (words y j) refl refl
      (append_cancel_left start _ _ (sym (regroup start (text x) r) ∙ h ∙ regroup start (text y) s)) in
      (one x y i j w.0, ap (drop 1) w.1);
  ends = λ x r e. subst Ends (sym (regroup start (text x) r)) (begins start (text x ++ 34 ∷ r) starts);
}
  where
    regroup : (a b r : List ℕ) → ((a ++ b) ++ codes "\"") ++ r ≡ a ++ (b ++ 34 ∷ r)
    regroup a b r = simp append_assoc

-- members with a number, a word, bytes, two bytes or a UID
pub number : (key : List ℕ) → IsOwn (number_member key) Has64Bits
number key = numbers (codes ",\"" ++ key ++ codes "\":") refl

pub word : (key : List ℕ) → IsOwn (text_member key) (λ text. is_word text ≡ true)
word key = quoted (codes ",\"" ++ key ++ codes "\":\"") (λ w. w) _ refl (λ w f. f) (λ v w f g h. h)

pub bytes : (key : List ℕ) → IsOwn (bytes_member key) IsBytes
bytes key = quoted (codes ",\"" ++ key ++ codes "\":\"") encode_lower IsBytes refl (λ l f. hex_is_word l) one_hex

pub pair : (key : List ℕ) → IsOwn (λ n. bytes_member key (two_bytes n)) (λ n. n < 2 ^ 16)
pair key =
    quoted (codes ",\"" ++ key ++ codes "\":\"") (λ n. encode_lower (two_bytes n)) _ refl
    (λ n f. hex_is_word (two_bytes n)) (λ m n f g h. sym (number_of-two_bytes m f)
    ∙ ap number_of (one_hex (two_bytes m) (two_bytes n) (IsBytes-two_bytes m) (IsBytes-two_bytes n) h)
    ∙ number_of-two_bytes n g)

pub uids : (start : List ℕ) → Starts start → IsOwn (λ u. start ++ uid_text u ++ codes "\"") Has48Bits
uids start starts = quoted start uid_text Has48Bits starts (λ u f. uid_is_word u) one_uid

pub uid : (key : List ℕ) → IsOwn (λ u. text_member key (uid_text u)) Has48Bits
uid key = uids (codes ",\"" ++ key ++ codes "\":\"") refl

-- the items after the first, and then the end of the list
later : {A : Type 0} → (A → List ℕ) → List A → List ℕ → List ℕ
later text [] r = 93 ∷ r
later text (x ∷ xs) r = 44 ∷ (text x ++ later text xs r)

later_ends : {A : Type 0} (text : A → List ℕ) (xs : List A) (r : List ℕ) → Ends (later text xs r)
unfolding later
later_ends text [] r = refl
later_ends text (x ∷ xs) r = refl

later-is : {A : Type 0} (text : A → List ℕ) (n : ℕ) (xs : List A) (r : List ℕ)
    → numbered (element text) (n + 1) xs ++ 93 ∷ r ≡ later text xs r
unfolding later
later-is text n [] r = refl
later-is text n (x ∷ xs) r =
    rw no_zero (ap (λ (l : List ℕ). 44 ∷ l) (append_assoc (text x) (numbered (element text) (n + 1 + 1) xs) (93 ∷ r)
    ∙ ap (λ (l : List ℕ). text x ++ l) (later-is text (n + 1) xs r)))
  where
    no_zero : (n + 1 == 0) ≡ false
    no_zero = grind (arith, nat_tests)

pub rest : {A : Type 0} (P : A → Type 0) (x : A) (xs : List A) → All P (x ∷ xs) → All P xs
rest P x xs all k d lt = all (suc k) d (omega arith)

-- the text of an item doesn't begin as the end of a list
abbrev pub Opens : {A : Type 0} → (A → List ℕ) → (A → Type 0) → Type 0
Opens {A} text P = (x : A) (r s : List ℕ) → P x → Ends r → 93 ∷ s ≡ text x ++ r → ⊥

own_later : {A : Type 0} (text : A → List ℕ) (P : A → Type 0) → Owns text P → (xs ys : List A) (r s : List ℕ)
    → All P xs → All P ys → later text xs r ≡ later text ys s → (xs ≡ ys) × (r ≡ s)
unfolding later
own_later text P o [] [] r s f g h = (refl, ap (drop 1) h)
own_later text P o (x ∷ xs) (y ∷ ys) r s f g h =
    let one = o x y (later text xs r) (later text ys s) (f 0 x (omega arith)) (g 0 y (omega arith))
    (ap (drop 1) h) (later_ends text xs r) (later_ends text ys s) in
    let two = own_later text P o xs ys r s (rest P x xs f) (rest P y ys g) one.1 in (ap₂ ◌∷◌ one.0 two.0, two.1)
own_later text P o xs ys r s f g h = absurd (omega (arith, ap (λ (l : List ℕ). slice_index l 0) h))

items-is : {A : Type 0} (text : A → List ℕ) (x : A) (xs : List A) (r : List ℕ)
    → numbered (element text) 0 (x ∷ xs) ++ 93 ∷ r ≡ text x ++ later text xs r
items-is text x xs r =
    append_assoc (text x) (numbered (element text) 1 xs) (93 ∷ r)
    ∙ ap (λ (l : List ℕ). text x ++ l) (later-is text 0 xs r)

own_items : {A : Type 0} (text : A → List ℕ) (P : A → Type 0) → Owns text P → Opens text P → (xs ys : List A)
    (r s : List ℕ) → All P xs → All P ys
    → numbered (element text) 0 xs ++ 93 ∷ r ≡ numbered (element text) 0 ys ++ 93 ∷ s → (xs ≡ ys) × (r ≡ s)
own_items text P o opens [] [] r s f g h = (refl, ap (drop 1) h)
own_items text P o opens [] (y ∷ ys) r s f g h =
    absurd (opens y (later text ys s) r (g 0 y (omega arith)) (later_ends text ys s) (h ∙ items-is text y ys s))
own_items text P o opens (x ∷ xs) [] r s f g h =
    absurd (opens x (later text xs r) s (f 0 x (omega arith)) (later_ends text xs r) (sym h ∙ items-is text x xs r))
own_items text P o opens (x ∷ xs) (y ∷ ys) r s f g h =
    let one = o x y (later text xs r) (later text ys s) (f 0 x (omega arith)) (g 0 y (omega arith))
    (sym (items-is text x xs r) ∙ h ∙ items-is text y ys s) (later_ends text xs r) (later_ends text ys s) in
    let two = own_later text P o xs ys r s (rest P x xs f) (rest P y ys g) one.1 in (ap₂ ◌∷◌ one.0 two.0, two.1)

-- a member with a list
pub list : {A : Type 0} (key : List ℕ) (text : A → List ℕ) (P : A → Type 0) → Owns text P → Opens text P
    → IsOwn (list_member key text) (All P)
list key text P o opens = record {
  own = λ xs ys r s f g h e d.
      own_items text P o opens xs ys r s f g (append_cancel_left (list_start key) _ _
      (sym (regroup (list_start key) (numbered (element text) 0 xs) r) ∙ h
      ∙ regroup (list_start key) (numbered (element text) 0 ys) s));
  ends = λ xs r e. refl;
}
  where
    regroup : (a b r : List ℕ) → ((a ++ b) ++ codes "]") ++ r ≡ a ++ (b ++ 93 ∷ r)
    regroup a b r = simp append_assoc

pub list_of_numbers : (key : List ℕ) → IsOwn (list_member key decimal) (All Has64Bits)
list_of_numbers key =
    list key decimal Has64Bits own_decimal (λ n r s f e h.
    let one = own_word [] (decimal n) (93 ∷ s) r refl (number_is_word n f) refl e h in
    absurd (omega (arith, ap length one.0, decimal_nonempty n f)))
