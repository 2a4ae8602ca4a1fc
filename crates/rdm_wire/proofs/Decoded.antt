-- Decoding a packet.
use Rattle.std.proofs.Common.{◌≡◌, ℕ, ◌+◌, ◌-◌, ◌≤◌, Bool, false, ◌||◌, not, cond, List, ◌++◌, length, take, Some}
use Rattle.std.proofs.Common.{Result, Ok, Err, refl, sym, ap, ◌∙◌, arith}
use Rattle.std.specs.Prelude.{slice_index}
use Rattle.std.proofs.lemmas.Bool.{eq-eqb, le-ltb}
use Rattle.rdm_wire.specs.Bytes.{number_at, checksum}
use Rattle.rdm_wire.specs.Packet.{Fields, FieldsFit, packet}
use Rattle.rdm_wire.specs.Responses.{Reads, decoded, response_of, response_at, fields_of, class_of_code, ack_of_code}
use Rattle.rdm_wire.specs.Responses.{code_of_class, code_of_ack}
use Rattle.rdm_wire.specs.declared.response.Response.{Response}
use Rattle.rdm_wire.specs.declared.response.RespClass.{RespClass}
use Rattle.rdm_wire.specs.declared.response.RespClass.TheVariants as responses
use Rattle.rdm_wire.specs.declared.response.AckType.{AckType}
use Rattle.rdm_wire.specs.declared.response.AckType.TheVariants.{Ack as Acked, Timer, Nack, Overflow}
use Rattle.rdm_wire.specs.declared.response.PacketFault.{PacketFault}
use Rattle.rdm_wire.specs.declared.response.PacketFault.TheVariants.{TooShort, WrongStart, WrongSubStart}
use Rattle.rdm_wire.specs.declared.response.PacketFault.TheVariants.{LengthMismatch, ParamLengthMismatch, Checksum}
use Rattle.rdm_wire.proofs.PacketLemmas.{fields_back, front, sum_at, long}

class_back : (c : RespClass) → class_of_code (code_of_class c) ≡ Some c
class_back responses.Discovery = refl
class_back responses.Get = refl
class_back responses.Set = refl

ack_back : (a : AckType) → ack_of_code (code_of_ack a) ≡ Some a
ack_back Acked = refl
ack_back Timer = refl
ack_back Nack = refl
ack_back Overflow = refl

-- no fault of the packet's form holds
pub record HasForm (b : List ℕ) : Type 0 where
  pub long : 26 ≤ length b
  pub start : slice_index b 0 ≡ 0xcc
  pub sub_start : slice_index b 1 ≡ 0x01
  pub header : 24 ≤ slice_index b 2
  pub all_there : slice_index b 2 + 2 ≤ length b
  pub pdl : slice_index b 23 ≡ slice_index b 2 - 24
  pub sum : number_at (slice_index b 2) 2 b ≡ checksum (take (slice_index b 2) b)

chosen : (a b c d e f : Bool) (last : Result Response PacketFault) → a ≡ false → b ≡ false → c ≡ false → d ≡ false
    → e ≡ false → f ≡ false
    → cond a (Err TooShort)
    (cond b (Err WrongStart)
    (cond c (Err WrongSubStart)
    (cond d (Err LengthMismatch) (cond e (Err ParamLengthMismatch) (cond f (Err Checksum) last))))) ≡ last
chosen a b c d e f last p q r s t u = rw (p, q, r, s, t, u) refl

-- the class and the response type decide
pub decoded-form : (b : List ℕ) → HasForm b
    → decoded b ≡ response_of b (class_of_code (slice_index b 20)) (ack_of_code (slice_index b 16))
decoded-form b has = chosen _ _ _ _ _ _ _
    (le-ltb (length b) 26 has.long) (ap not (eq-eqb _ 0xcc has.start)) (ap not (eq-eqb _ 0x01 has.sub_start))
    (both_false _ _ (le-ltb (slice_index b 2) 24 has.header) (le-ltb (length b) (slice_index b 2 + 2) has.all_there))
    (ap not (eq-eqb _ _ has.pdl)) (ap not (eq-eqb _ _ has.sum))
  where
    both_false : (x y : Bool) → x ≡ false → y ≡ false → (x || y) ≡ false
    both_false x y p q = rw (p, q) refl

response_back : (r : Response) (rest : List ℕ) → FieldsFit (fields_of r)
    → response_at r.class r.ack (packet (fields_of r) ++ rest) ≡ r
response_back r rest fits = ap (of_fields r) (fields_back (fields_of r) rest fits)
  where
    of_fields : Response → Fields → Response
    of_fields r g = record {
      source = g.source;
      dest = g.dest;
      tn = g.tn;
      ack = r.ack;
      count = g.count;
      sub_device = g.sub_device;
      class = r.class;
      pid = g.pid;
      param = record { items = g.param };
    }

-- the bytes that begin with a response's packet decode to it
pub decoded-of : (r : Response) (b : List ℕ) → Reads r b → decoded b ≡ Ok r
decoded-of r b reads = ap decoded reads.2 ∙ no_fault ∙ its_response
  where
    size : length (packet (fields_of r) ++ reads.1) ≡ 26 + length r.param.items + length reads.1
    size = long (fields_of r) reads.1

    no_fault : decoded (packet (fields_of r) ++ reads.1)
        ≡ response_of (packet (fields_of r) ++ reads.1) (class_of_code (code_of_class r.class))
        (ack_of_code (code_of_ack r.ack))
    no_fault = decoded-form (packet (fields_of r) ++ reads.1) (record {
      long = enough size;
      start = refl;
      sub_start = refl;
      header = omega arith;
      all_there = with_sum size;
      pdl = omega arith;
      sum = sum_at (fields_of r) reads.1 ∙ sym (ap checksum (front (fields_of r) reads.1));
    })
      where
        enough : {n : ℕ} → n ≡ 26 + length r.param.items + length reads.1 → 26 ≤ n
        enough e = omega arith

        with_sum : {n : ℕ} → n ≡ 26 + length r.param.items + length reads.1 → 24 + length r.param.items + 2 ≤ n
        with_sum e = omega arith

    its_response : response_of (packet (fields_of r) ++ reads.1) (class_of_code (code_of_class r.class))
        (ack_of_code (code_of_ack r.ack)) ≡ Ok r
    its_response =
        ap (λ o. response_of (packet (fields_of r) ++ reads.1) o (ack_of_code (code_of_ack r.ack))) (class_back r.class)
        ∙ ap (λ o. response_of (packet (fields_of r) ++ reads.1) (Some r.class) o) (ack_back r.ack)
        ∙ ap Ok (response_back r reads.1 reads.0)
