-- Reading an acknowledgement.
use Rattle.std.proofs.Common.{◌≡◌, ℕ, Bool, true, false, ◌&&◌, ◌||◌, cond, List, length, Option, Some, None, Result, Ok}
use Rattle.std.proofs.Common.{Err, refl, sym, ap, ◌∙◌, subst, inl, inr, arith}
use Rattle.std.specs.Prelude.{◌⊎◌, ◌↔◌, ◌==◌}
use Rattle.std.proofs.lemmas.Bool.{eq-eqb, eqb-true, and_parts, or_cases, cases_Bool}
use Rattle.std.proofs.Math.Bool.{or-true}
use Rattle.hex.specs.Hex.{IsBytes}
use Rattle.rdm_wire.specs.MuteAcks.{MuteAcked, MuteAckedWith, ack_data}
use Rattle.rdm_wire.specs.Responses.{decoded, code_of_class, code_of_ack}
use Rattle.rdm_wire.specs.Reading.{acks, ack_in_response, ack_read}
use Rattle.rdm_wire.specs.declared.mute_ack.MuteAck.{MuteAck}
use Rattle.rdm_wire.specs.declared.response.Response.{Response}
use Rattle.rdm_wire.specs.declared.response.PacketFault.{PacketFault}
use Rattle.rdm_wire.specs.declared.response.RespClass.{RespClass}
use Rattle.rdm_wire.specs.declared.response.RespClass.TheVariants as responses
use Rattle.rdm_wire.specs.declared.response.AckType.{AckType}
use Rattle.rdm_wire.specs.declared.response.AckType.TheVariants.{Ack as Acked, Timer, Nack, Overflow}
use Rattle.rdm_wire.proofs.Decoded.{decoded-of}
use Rattle.rdm_wire.proofs.ReadBack.{read_back}

-- bytes that acknowledge a mute are read so, with their data
pub ack_read-of : (u s n : ℕ) (b : List ℕ) (a : MuteAcked u s n b)
    → ack_read u s n b ≡ Some (ack_data a.response.param.items)
ack_read-of u s n b a =
    ap (ack_in_response u s n) (decoded-of a.response b a.reads)
    ∙ ap (λ t. cond t (Some (ack_data a.response.param.items)) None) all
  where
    size : (length a.response.param.items ≡ 2) ⊎ (length a.response.param.items ≡ 8)
        → ((length a.response.param.items == 2) || (length a.response.param.items == 8)) ≡ true
    size (inl two) = ap (λ t. t || (length a.response.param.items == 8)) (eq-eqb _ 2 two)
    size (inr eight) = ap (λ t. (length a.response.param.items == 2) || t) (eq-eqb _ 8 eight) ∙ or-true _

    all_hold : (p q r t v w x : Bool) → p ≡ true → q ≡ true → r ≡ true → t ≡ true → v ≡ true → w ≡ true → x ≡ true
        → (p && q && r && t && v && w && x) ≡ true
    all_hold p q r t v w x h1 h2 h3 h4 h5 h6 h7 = rw (h1, h2, h3, h4, h5, h6, h7) refl

    all : acks u s n a.response ≡ true
    all = all_hold _ _ _ _ _ _ _ (eq-eqb _ 0x11 (ap code_of_class a.class)) (eq-eqb _ 2 a.pid)
        (eq-eqb _ 0 (ap code_of_ack a.ack)) (eq-eqb _ u a.source) (eq-eqb _ s a.dest) (eq-eqb _ n a.tn) (size a.size)

-- the class and the type of these codes
discovery : (c : RespClass) → code_of_class c ≡ 0x11 → c ≡ responses.Discovery
discovery responses.Discovery h = refl
discovery responses.Get h = absurd (omega arith)
discovery responses.Set h = absurd (omega arith)

acked : (t : AckType) → code_of_ack t ≡ 0 → t ≡ Acked
acked Acked h = refl
acked Timer h = absurd (omega arith)
acked Nack h = absurd (omega arith)
acked Overflow h = absurd (omega arith)

-- a response that acknowledges a mute
of_acks : (u s n : ℕ) (b : List ℕ) (r : Response) → IsBytes b → decoded b ≡ Ok r → acks u s n r ≡ true
    → MuteAckedWith u s n b (ack_data r.param.items)
of_acks u s n b r bytes is all =
    let tests7 = and_parts _ ((length r.param.items == 2) || (length r.param.items == 8)) all in
    let tests6 = and_parts _ (r.tn == n) tests7.0 in
    let tests5 = and_parts _ (r.dest == s) tests6.0 in
    let tests4 = and_parts _ (r.source == u) tests5.0 in
    let tests3 = and_parts _ (code_of_ack r.ack == 0) tests4.0 in
    let tests2 = and_parts (code_of_class r.class == 0x11) (r.pid == 2) tests3.0 in (
      record {
        response = r;
        reads = read_back b r bytes is;
        class = discovery r.class (eqb-true _ 0x11 tests2.0);
        pid = eqb-true _ 2 tests2.1;
        ack = acked r.ack (eqb-true _ 0 tests3.1);
        source = eqb-true _ u tests4.1;
        dest = eqb-true _ s tests5.1;
        tn = eqb-true _ n tests6.1;
        size = size (or_cases _ _ tests7.1);
      },
      refl,
    )
  where
    size : ((length r.param.items == 2) ≡ true) ⊎ ((length r.param.items == 8) ≡ true) → (length r.param.items ≡ 2)
        ⊎ (length r.param.items ≡ 8)
    size (inl two) = inl (eqb-true _ 2 two)
    size (inr eight) = inr (eqb-true _ 8 eight)

-- what is read acknowledges the mute
pub of-ack_read : (u s n : ℕ) (b : List ℕ) (ack : MuteAck) → IsBytes b → ack_read u s n b ≡ Some ack
    → MuteAckedWith u s n b ack
of-ack_read u s n b ack bytes read = by_result (decoded b) refl read
  where
    same : (a : MuteAck) → Some a ≡ Some ack → a ≡ ack
    same a h = cc

    by_test : (r : Response) → decoded b ≡ Ok r → (acks u s n r ≡ true) ⊎ (acks u s n r ≡ false)
        → ack_in_response u s n (Ok r) ≡ Some ack → MuteAckedWith u s n b ack
    by_test r is (inl all) h =
        subst (MuteAckedWith u s n b)
        (same _ (subst (λ t. cond t (Some (ack_data r.param.items)) None ≡ Some ack) all h))
        (of_acks u s n b r bytes is all)
    by_test r is (inr not_all) h =
        absurd (let wrong : None
        ≡ Some ack =
        subst (λ t. cond t (Some (ack_data r.param.items)) None ≡ Some ack) not_all h in let never : ⊥ = cc in
        never)

    by_result : (x : Result Response PacketFault) → decoded b ≡ x → ack_in_response u s n x ≡ Some ack
        → MuteAckedWith u s n b ack
    by_result (Ok r) is h = by_test r is (cases_Bool (acks u s n r)) h
    by_result (Err fault) is h = absurd (let never : ⊥ = cc in never)

-- what the bytes are read as is an acknowledgement exactly when they acknowledge the mute, with their data
pub acks_exactly : (u s n : ℕ) (b : List ℕ) (x : Option MuteAck) → IsBytes b → x ≡ ack_read u s n b → (ack : MuteAck)
    → (x ≡ Some ack) ↔ MuteAckedWith u s n b ack
acks_exactly u s n b x bytes value ack = (
  λ h. of-ack_read u s n b ack bytes (sym value ∙ h),
  λ says. value ∙ ack_read-of u s n b says.0
      ∙ ap Some (sym says.1),
)
