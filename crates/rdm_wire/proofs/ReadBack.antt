-- Bytes that decode begin with the packet of the response.
use Rattle.std.proofs.Common.{◌≡◌, ℕ, suc, ◌+◌, ◌-◌, ◌<◌, ◌≤◌, Bool, true, false, ◌||◌, not, cond, List, ◌∷◌, ◌++◌}
use Rattle.std.proofs.Common.{length, take, drop, Option, Some, None, Result, Ok, Err, refl, sym, ap, ◌∙◌, subst, inl}
use Rattle.std.proofs.Common.{inr, append_assoc, length-append, arith, drop-cons}
use Rattle.std.specs.Prelude.{◌⊎◌, ◌↔◌, ◌==◌, nat_lt, slice_index}
use Rattle.std.proofs.lemmas.Bool.{eqb-true, ltb-false, not-false, cases_Bool, or_parts}
use Rattle.std.proofs.lemmas.List.{drop-drop, length-drop, take-append-drop, length-take-le}
use Rattle.std.proofs.Math.Seq.{take-append_seam}
use Rattle.std.proofs.lemmas.Option.{same_Some}
use Rattle.hex.specs.Hex.{IsBytes}
use Rattle.rdm_wire.specs.Bytes.{number_of, number_at, checksum, two_bytes, uid_bytes}
use Rattle.rdm_wire.specs.Packet.{Fields, FieldsFit, fields_at, packet, body_of, header_of}
use Rattle.rdm_wire.specs.Responses.{Reads, decoded, response_of, response_at, fields_of, class_of_code, ack_of_code}
use Rattle.rdm_wire.specs.Responses.{code_of_class, code_of_ack}
use Rattle.rdm_wire.specs.declared.response.Response.{Response}
use Rattle.rdm_wire.specs.declared.response.RespClass.{RespClass}
use Rattle.rdm_wire.specs.declared.response.RespClass.TheVariants as responses
use Rattle.rdm_wire.specs.declared.response.AckType.{AckType}
use Rattle.rdm_wire.specs.declared.response.AckType.TheVariants.{Ack as Acked, Timer, Nack, Overflow}
use Rattle.rdm_wire.specs.declared.response.PacketFault.{PacketFault}
use Rattle.rdm_wire.specs.declared.response.PacketFault.TheVariants.{TooShort, WrongStart, WrongSubStart}
use Rattle.rdm_wire.specs.declared.response.PacketFault.TheVariants.{LengthMismatch, ParamLengthMismatch, Checksum}
use Rattle.rdm_wire.proofs.Decoded.{HasForm, decoded-of}
use Rattle.rdm_wire.proofs.OffsetLemmas.{number_of-one, one_at, two_at, uid_at}

-- a choice by a code
by_code : {X : Type 0} (code k : ℕ) (x y : X) (others : Option X) → cond (code == k) (Some x) others ≡ Some y
    → ((code ≡ k) × (x ≡ y)) ⊎ (others ≡ Some y)
by_code {X} code k x y others h = by_test (cases_Bool (code == k))
  where
    by_test : ((code == k) ≡ true) ⊎ ((code == k) ≡ false) → ((code ≡ k) × (x ≡ y)) ⊎ (others ≡ Some y)
    by_test (inl is) = inl (eqb-true code k is, same_Some x y (subst (λ t. cond t (Some x) others ≡ Some y) is h))
    by_test (inr isnt) = inr (subst (λ t. cond t (Some x) others ≡ Some y) isnt h)

-- the class and the type of a code have that code
code_of-class : (code : ℕ) (class : RespClass) → class_of_code code ≡ Some class → code_of_class class ≡ code
code_of-class code class h = elim (by_code code 0x11 _ _ _ h) [
  | inl e ↦ is 0x11 responses.Discovery refl e
  | inr h ↦ elim (by_code code 0x21 _ _ _ h) [
    | inl e ↦ is 0x21 responses.Get refl e
    | inr h ↦ elim (by_code code 0x31 _ _ _ h) [
      | inl e ↦ is 0x31 responses.Set refl e
      | inr none ↦ cc
    ]
  ]
]
  where
    is : (k : ℕ) (chosen : RespClass) → code_of_class chosen ≡ k → (code ≡ k) × (chosen ≡ class)
        → code_of_class class ≡ code
    is k chosen e h = sym (ap code_of_class h.1) ∙ e ∙ sym h.0

code_of-ack : (code : ℕ) (ack : AckType) → ack_of_code code ≡ Some ack → code_of_ack ack ≡ code
code_of-ack code ack h = elim (by_code code 0 _ _ _ h) [
  | inl e ↦ is 0 Acked refl e
  | inr h ↦ elim (by_code code 1 _ _ _ h) [
    | inl e ↦ is 1 Timer refl e
    | inr h ↦ elim (by_code code 2 _ _ _ h) [
      | inl e ↦ is 2 Nack refl e
      | inr h ↦ elim (by_code code 3 _ _ _ h) [
        | inl e ↦ is 3 Overflow refl e
        | inr none ↦ cc
      ]
    ]
  ]
]
  where
    is : (k : ℕ) (chosen : AckType) → code_of_ack chosen ≡ k → (code ≡ k) × (chosen ≡ ack) → code_of_ack ack ≡ code
    is k chosen e h = sym (ap code_of_ack h.1) ∙ e ∙ sym h.0

-- where a fault doesn't hold, what stands after it decides
fault_is_not : (r : Response) (a : Bool) (e : PacketFault) (rest : Result Response PacketFault)
    → cond a (Err e) rest ≡ Ok r → (a ≡ false) × (rest ≡ Ok r)
fault_is_not r true e rest h = absurd (let wrong : ⊥ = cc in wrong)
fault_is_not r false e rest h = (refl, h)

-- what bytes show that decode to r
record Decodes (b : List ℕ) (r : Response) : Type 0 where
  form : HasForm b
  response : response_of b (class_of_code (slice_index b 20)) (ack_of_code (slice_index b 16)) ≡ Ok r

decodes : (b : List ℕ) (r : Response) → decoded b ≡ Ok r → Decodes b r
decodes b r h =
    let short = fault_is_not r (nat_lt (length b) 26) TooShort _ h in
    let start = fault_is_not r (not (slice_index b 0 == 0xcc)) WrongStart _ short.1 in
    let sub_start = fault_is_not r (not (slice_index b 1 == 0x01)) WrongSubStart _ start.1 in
    let len = fault_is_not r (nat_lt (slice_index b 2) 24 || nat_lt (length b) (slice_index b 2 + 2)) LengthMismatch _
    sub_start.1 in
    let pdl = fault_is_not r (not (slice_index b 23 == (slice_index b 2 - 24))) ParamLengthMismatch _ len.1 in
    let sum = fault_is_not r (not (number_at (slice_index b 2) 2 b == checksum (take (slice_index b 2) b))) Checksum _
    pdl.1 in
    let lengths = or_parts _ _ len.0 in record {
      form = record {
        long = ltb-false _ _ short.0;
        start = eqb-true _ _ (not-false _ start.0);
        sub_start = eqb-true _ _ (not-false _ sub_start.0);
        header = ltb-false _ _ lengths.0;
        all_there = ltb-false _ _ lengths.1;
        pdl = eqb-true _ _ (not-false _ pdl.0);
        sum = eqb-true _ _ (not-false _ sum.0);
      };
      response = sum.1;
    }

-- the response is the one at the offsets
record IsAt (b : List ℕ) (class : Option RespClass) (ack : Option AckType) (r : Response) : Type 0 where
  is : r ≡ response_at r.class r.ack b
  class_is : class ≡ Some r.class
  ack_is : ack ≡ Some r.ack

is_at : (b : List ℕ) (r : Response) (class : Option RespClass) (ack : Option AckType) → response_of b class ack ≡ Ok r
    → IsAt b class ack r
is_at b r None ack h = absurd (let wrong : ⊥ = cc in wrong)
is_at b r (Some class) None h = absurd (let wrong : ⊥ = cc in wrong)
is_at b r (Some class) (Some ack) h = subst (IsAt b (Some class) (Some ack)) same (record {
  is = refl;
  class_is = refl;
  ack_is = refl;
})
  where
    same : response_at class ack b ≡ r
    same = cc

-- a list whose parts follow one another
joined : (b t1 t2 t3 t9 t15 t16 t17 t18 t20 t21 t23 t24 : List ℕ)
    (l dest source tn port_or_type count sub_device class pid n : ℕ)
    → b ≡ 0xcc ∷ t1 → t1 ≡ 0x01 ∷ t2 → t2 ≡ l ∷ t3 → t3 ≡ uid_bytes dest ++ t9 → t9 ≡ uid_bytes source ++ t15
    → t15 ≡ tn ∷ t16 → t16 ≡ port_or_type ∷ t17
    → t17 ≡ count ∷ t18 → t18 ≡ two_bytes sub_device ++ t20 → t20 ≡ class ∷ t21 → t21 ≡ two_bytes pid ++ t23
    → t23 ≡ n ∷ t24
    → b ≡ 0xcc ∷ 0x01 ∷ l ∷ uid_bytes dest ++ uid_bytes source ++ tn ∷ port_or_type ∷ count ∷ two_bytes sub_device
    ++ class ∷ two_bytes pid ++ n ∷ t24
joined b t1 t2 t3 t9 t15 t16 t17 t18 t20 t21 t23 t24 l dest source tn port_or_type count sub_device class pid n h0 h1
    h2 h3
    h9
    h15 h16 h17 h18 h20 h21 h23 =
    rw (h0, h1, h2, h3, h9, h15, h16, h17, h18, h20, h21, h23) refl

-- the fields at the offsets are in range, and the packet's header and data stand there
pub record HasBody (b : List ℕ) : Type 0 where
  pub fits : FieldsFit (fields_at b)
  pub size : length (fields_at b).param ≡ slice_index b 23
  pub body : b ≡ body_of (fields_at b) ++ drop (24 + slice_index b 23) b

pub has_body : (b : List ℕ) → IsBytes b → slice_index b 0 ≡ 0xcc → slice_index b 1 ≡ 0x01
    → slice_index b 2 ≡ 24 + slice_index b 23 → 24 + slice_index b 23 ≤ length b → HasBody b
has_body b bytes start sub_start len long = record {
  fits = record {
    dest = (uid_at 3 b bytes (omega arith)).below;
    source = (uid_at 9 b bytes (omega arith)).below;
    tn = (one_at 15 b bytes (omega arith)).below;
    port_or_type = (one_at 16 b bytes (omega arith)).below;
    count = (one_at 17 b bytes (omega arith)).below;
    sub_device = (two_at 18 b bytes (omega arith)).below;
    class = (one_at 20 b bytes (omega arith)).below;
    pid = (two_at 21 b bytes (omega arith)).below;
    param = let byte : slice_index b 2 < 256 = bytes 2 in omega (arith, size);
  };
  size = size;
  body = with_data
      (joined b (drop 1 b) (drop 2 b) (drop 3 b) (drop 9 b) (drop 15 b) (drop 16 b) (drop 17 b) (drop 18 b) (drop 20 b)
      (drop 21 b) (drop 23 b) (drop 24 b) _ _ _ _ _ _ _ _ _ _
      (cell 0 0xcc start (omega arith)) (cell 1 0x01 sub_start (omega arith))
      (cell 2 (24 + length (fields_at b).param) (len ∙ ap (λ n. 24 + n) (sym size)) (omega arith))
      (uid_at 3 b bytes (omega arith)).bytes (uid_at 9 b bytes (omega arith)).bytes
      (one_at 15 b bytes (omega arith)).bytes (one_at 16 b bytes (omega arith)).bytes
      (one_at 17 b bytes (omega arith)).bytes (two_at 18 b bytes (omega arith)).bytes
      (one_at 20 b bytes (omega arith)).bytes (two_at 21 b bytes (omega arith)).bytes
      (cell 23 (length (fields_at b).param) (sym size) (omega arith)));
}
  where
    size : length (fields_at b).param ≡ slice_index b 23
    size = length-take-le (24 + slice_index b 23 - 24) (drop 24 b) (omega (arith, length-drop 24 b)) ∙ omega arith

    cell : (i x : ℕ) → slice_index b i ≡ x → i < length b → drop i b ≡ x ∷ drop (suc i) b
    cell i x is lt = drop-cons b i 0 lt ∙ ap (λ y. y ∷ drop (suc i) b) is

    data_ : drop 24 b ≡ (fields_at b).param ++ drop (24 + slice_index b 23) b
    data_ = sym (take-append-drop (24 + slice_index b 23 - 24) (drop 24 b))
        ∙ ap (λ l. (fields_at b).param ++ l)
        (drop-drop (24 + slice_index b 23 - 24) 24 b ∙ ap (λ n. drop n b) (omega arith))

    with_data : b ≡ header_of (fields_at b) ++ drop 24 b → b ≡ body_of (fields_at b) ++ drop (24 + slice_index b 23) b
    with_data h = h ∙ ap (λ l. header_of (fields_at b) ++ l) data_

-- the packet stands there, if the sum is right
has_packet : (b : List ℕ) (n : ℕ) → IsBytes b → HasBody b → n ≡ 24 + slice_index b 23 → n + 2 ≤ length b
    → number_at n 2 b ≡ checksum (take n b) → b ≡ packet (fields_at b) ++ drop (n + 2) b
has_packet b n bytes has len long sum =
    has.body ∙ ap (λ m. body_of (fields_at b) ++ drop m b) (sym len) ∙ ap (λ l. body_of (fields_at b) ++ l) last
    ∙ sym (append_assoc (body_of (fields_at b)) (two_bytes (checksum (body_of (fields_at b)))) (drop (n + 2) b))
  where
    body_size : length (body_of (fields_at b)) ≡ n
    body_size = length-append (header_of (fields_at b)) (fields_at b).param ∙ ap (λ m. 24 + m) has.size ∙ sym len

    front : take n b ≡ body_of (fields_at b)
    front =
        ap (take n) has.body
        ∙ ap (λ m. take m (body_of (fields_at b) ++ drop (24 + slice_index b 23) b)) (sym body_size)
        ∙ take-append_seam (body_of (fields_at b)) (drop (24 + slice_index b 23) b)

    two : number_of (take 2 (drop n b)) ≡ checksum (body_of (fields_at b))
    two = ap (λ m. number_of (take m (drop n b))) size ∙ sum ∙ ap checksum front
      where
        size : 2 ≡ n + 2 - n
        size = omega arith

    last : drop n b ≡ two_bytes (checksum (body_of (fields_at b))) ++ drop (n + 2) b
    last = (two_at n b bytes long).bytes ∙ ap (λ m. two_bytes m ++ drop (n + 2) b) two

-- the fields of the response are those at the offsets
fields_are : (b : List ℕ) (class : RespClass) (ack : AckType) → 24 ≤ length b → code_of_class class ≡ slice_index b 20
    → code_of_ack ack ≡ slice_index b 16 → fields_of (response_at class ack b) ≡ fields_at b
fields_are b class ack long class_is ack_is =
    same _ _ (ack_is ∙ sym (number_of-one 16 b (omega arith))) (class_is ∙ sym (number_of-one 20 b (omega arith)))
  where
    same : (port_or_type code : ℕ) → port_or_type ≡ (fields_at b).port_or_type → code ≡ (fields_at b).class
        → ◌≡◌ {A = Fields} (record (fields_at b) { port_or_type = port_or_type; class = code }) (fields_at b)
    same port_or_type code p q = rw (p, q) refl

-- bytes that decode to a response begin with its packet
pub read_back : (b : List ℕ) (r : Response) → IsBytes b → decoded b ≡ Ok r → Reads r b
read_back b r bytes h = subst (λ (f : Fields). FieldsFit f × (rest : List ℕ) × (b ≡ packet f ++ rest)) (sym fields)
    (has.fits, drop (slice_index b 2 + 2) b, has_packet b (slice_index b 2) bytes has len d.form.all_there d.form.sum)
  where
    d : Decodes b r
    d = decodes b r h

    at_offsets : IsAt b (class_of_code (slice_index b 20)) (ack_of_code (slice_index b 16)) r
    at_offsets = is_at b r _ _ d.response

    len : slice_index b 2 ≡ 24 + slice_index b 23
    len = omega (arith, d.form.pdl, d.form.header)

    has : HasBody b
    has = has_body b bytes d.form.start d.form.sub_start len (omega (arith, d.form.all_there, len))

    fields : fields_of r ≡ fields_at b
    fields = ap fields_of at_offsets.is
        ∙ fields_are b r.class r.ack (omega (arith, d.form.long)) (code_of-class _ r.class at_offsets.class_is)
        (code_of-ack _ r.ack at_offsets.ack_is)

-- a result that is what the bytes decode to is a response exactly when they begin with its packet
pub reads_exactly : (b : List ℕ) (x : Result Response PacketFault) → IsBytes b → x ≡ decoded b → (r : Response)
    → (x ≡ Ok r) ↔ Reads r b
reads_exactly b x bytes value r = (λ h. read_back b r bytes (sym value ∙ h), λ h. value ∙ decoded-of r b h)
