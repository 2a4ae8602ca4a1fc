-- Reading a command back from its frame.
use Rattle.std.proofs.Common.{◌≡◌, ℕ, ◌+◌, ◌-◌, ◌<◌, ◌≤◌, ◌^◌, Bool, true, false, ◌&&◌, cond, List, [], ◌++◌, length}
use Rattle.std.proofs.Common.{drop, Option, Some, None, refl, sym, ap, ◌∙◌, subst, inl, inr, append-nil, arith}
use Rattle.std.specs.Prelude.{◌⊎◌, ◌↔◌, ◌==◌, nat_le, bytes_eq, slice_index}
use Rattle.std.proofs.lemmas.Bool.{eqb-true, and_parts, le-leb, leb-true, false_from_ne_true}
use Rattle.std.proofs.lemmas.Slice.Eq.{bytes_eq-Decides}
use Rattle.std.proofs.lemmas.Option.{same_Some}
use Rattle.hex.specs.Hex.{IsBytes}
use Rattle.rdm_wire.specs.Bytes.{number_at, uid_bytes}
use Rattle.rdm_wire.specs.Uid.{is_broadcast}
use Rattle.rdm_wire.specs.Span.{Span}
use Rattle.rdm_wire.specs.Packet.{Fields, FieldsFit, fields_at, packet}
use Rattle.rdm_wire.specs.CommandFrames.{code_of_request_class, discovery_fields, all_devices}
use Rattle.rdm_wire.specs.Commands.{Writes, IsInOrder, command_fields, command_frame, FitsFrame, command_in}
use Rattle.rdm_wire.specs.Commands.{discovery_in, branch_in, request_in, written_so, command_read}
use Rattle.rdm_wire.specs.declared.command.Command as asked
use Rattle.rdm_wire.specs.declared.command.Command.TheVariants as asks
use Rattle.rdm_wire.specs.declared.request.ReqClass.{ReqClass}
use Rattle.rdm_wire.specs.declared.request.ReqClass.TheVariants.{Get, Set}
use Rattle.rdm_wire.proofs.BytesLemmas.{number_of-uid_bytes}
use Rattle.rdm_wire.proofs.PacketLemmas.{fields_at-packet, long}
use Rattle.rdm_wire.proofs.OffsetLemmas.{uid_at, IsBytes-drop, IsBytes-take}
use Rattle.rdm_wire.proofs.ReadBack.{HasBody, has_body}

-- the source and the number stand in every command's fields
pub source_is : (c : asked.Command) (s tn : ℕ) → (command_fields c s tn).source ≡ s
source_is asks.Unmute s tn = refl
source_is (asks.Branch r) s tn = refl
source_is (asks.Mute u) s tn = refl
source_is (asks.Request r) s tn = refl

pub tn_is : (c : asked.Command) (s tn : ℕ) → (command_fields c s tn).tn ≡ tn
tn_is asks.Unmute s tn = refl
tn_is (asks.Branch r) s tn = refl
tn_is (asks.Mute u) s tn = refl
tn_is (asks.Request r) s tn = refl

-- the data of a branch give its range
branch_back : (r : Span) → r.lo < 2 ^ 48 → r.hi < 2 ^ 48 → r.lo ≤ r.hi
    → branch_in (uid_bytes r.lo ++ uid_bytes r.hi) ≡ Some (asks.Branch r)
branch_back r lo hi in_order = same _ _ (number_of-uid_bytes r.lo lo) (number_of-uid_bytes r.hi hi)
  where
    same : (a b : ℕ) → a ≡ r.lo → b ≡ r.hi
        → cond (nat_le a b) (Some (asks.Branch (record { lo = a; hi = b }))) None ≡ Some (asks.Branch r)
    same a b p q = rw (p, q, le-leb r.lo r.hi in_order) refl

-- the fields of a command say it
command_back : (c : asked.Command) (s tn : ℕ) → FitsFrame c s tn → IsInOrder c
    → command_in (command_fields c s tn) ≡ Some c
command_back asks.Unmute s tn can in_order = refl
command_back (asks.Branch r) s tn can in_order = branch_back r can.bounds.0 can.bounds.1 in_order
command_back (asks.Mute u) s tn can in_order = rw in_order refl
command_back (asks.Request r) s tn can in_order = of_class r.class refl
  where
    of_class : (class : ReqClass) → r.class ≡ class
        → command_in (command_fields (asks.Request r) s tn) ≡ Some (asks.Request r)
    of_class Get is = rw is refl
    of_class Set is = rw is refl

pub equal_bytes : (b c : List ℕ) → b ≡ c → bytes_eq b c ≡ true
equal_bytes b c same = (bytes_eq-Decides b c).1 same

pub other_bytes : (b c : List ℕ) → (b ≡ c → ⊥) → bytes_eq b c ≡ false
other_bytes b c other = false_from_ne_true (bytes_eq b c) (λ e. other ((bytes_eq-Decides b c).0 e))

-- what an encoder writes is read as its command
pub read_of-writes : (c : asked.Command) (s tn : ℕ) (b : List ℕ) → Writes c s tn b → command_read b ≡ Some (c, s, tn)
read_of-writes c s tn b w =
    made _ _ _ (ap (λ f. f.source) fields ∙ source_is c s tn) (ap (λ f. f.tn) fields ∙ tn_is c s tn)
    (ap command_in fields ∙ command_back c s tn w.frame w.in_order)
  where
    fields : fields_at b ≡ command_fields c s tn
    fields = ap fields_at w.bytes ∙ fields_at-packet (command_fields c s tn) w.frame.fits

    made : (source number : ℕ) (o : Option asked.Command) → source ≡ s → number ≡ tn → o ≡ Some c
        → written_so b source number o ≡ Some (c, s, tn)
    made source number o p q r = rw (p, q, r, equal_bytes b (command_frame c s tn) w.bytes) refl

-- what is read was said by the fields, and its frame is these bytes
record ReadsSo (b : List ℕ) (c : asked.Command) (s tn : ℕ) : Type 0 where
  in_fields : command_in (fields_at b) ≡ Some c
  source : (fields_at b).source ≡ s
  number : (fields_at b).tn ≡ tn
  bytes : b ≡ command_frame c s tn

reads_so : (b : List ℕ) (c : asked.Command) (s tn : ℕ) → command_read b ≡ Some (c, s, tn) → ReadsSo b c s tn
reads_so b c s tn h = by_option (command_in (fields_at b)) refl h
  where
    by_test : (d : asked.Command) → command_in (fields_at b) ≡ Some d
        → (t : Bool) → bytes_eq b (command_frame d (fields_at b).source (fields_at b).tn) ≡ t
        → cond {A = Option (asked.Command × ℕ × ℕ)} t (Some (d, (fields_at b).source, (fields_at b).tn)) None
        ≡ Some (c, s, tn) → ReadsSo b c s tn
    by_test d is true eq h =
        let all = same_Some _ _ h in
        let command : d ≡ c = ap (λ (x : asked.Command × ℕ × ℕ). x.0) all in
        let source : (fields_at b).source ≡ s = ap (λ (x : asked.Command × ℕ × ℕ). x.1) all in
        let number : (fields_at b).tn ≡ tn = ap (λ (x : asked.Command × ℕ × ℕ). x.2) all in
        let same : b ≡ command_frame d (fields_at b).source (fields_at b).tn = (bytes_eq-Decides b _).0 eq in
        record {
          in_fields = is ∙ ap Some command;
          source = source;
          number = number;
          bytes = subst (λ x. b ≡ command_frame x s tn) command
              (subst (λ x. b ≡ command_frame d s x) number
              (subst (λ x. b ≡ command_frame d x (fields_at b).tn) source same));
        }
    by_test d is false eq h = absurd (let wrong : ⊥ = cc in wrong)

    by_option : (o : Option asked.Command) → command_in (fields_at b) ≡ o
        → written_so b (fields_at b).source (fields_at b).tn o ≡ Some (c, s, tn) → ReadsSo b c s tn
    by_option None is h = absurd (let wrong : ⊥ = cc in wrong)
    by_option (Some d) is h = by_test d is _ refl h

-- a packet's form
pub record HasLengths (b : List ℕ) : Type 0 where
  pub size : length b ≡ 26 + slice_index b 23
  pub message : slice_index b 2 ≡ 24 + slice_index b 23
  pub start : slice_index b 0 ≡ 0xcc
  pub sub_start : slice_index b 1 ≡ 0x01

pub packet_form : (b : List ℕ) (f : Fields) → b ≡ packet f → HasLengths b
packet_form b f same =
    let size : length (packet f) ≡ 26 + length f.param = ap length (sym (append-nil (packet f))) ∙ long f []
    ∙ omega arith in
    rw same (record { size = size; message = refl; start = refl; sub_start = refl })

-- so the fields of bytes that are a packet are in range
pub packet_body : (b : List ℕ) (f : Fields) → IsBytes b → b ≡ packet f → HasBody b
packet_body b f bytes same =
    let form = packet_form b f same in
    has_body b bytes form.start form.sub_start form.message (omega (arith, form.size))

pub param_bytes : (b : List ℕ) → IsBytes b → IsBytes (fields_at b).param
param_bytes b bytes = IsBytes-take (24 + slice_index b 23 - 24) (drop 24 b) (IsBytes-drop 24 b bytes)

-- a choice that gives something was made
chosen : {X : Type 0} (t : Bool) (o : Option X) (x : X) → cond t o None ≡ Some x → (t ≡ true) × (o ≡ Some x)
chosen true o x h = (refl, h)
chosen false o x h = absurd (let wrong : ⊥ = cc in wrong)

-- by a code: the first arm, or another
by_code : {X : Type 0} (code k : ℕ) (first others : Option X) (x : X) → cond (code == k) first others ≡ Some x
    → ((code ≡ k) × (first ≡ Some x)) ⊎ (others ≡ Some x)
by_code code k first others x h = by_test (code == k) refl h
  where
    by_test : (t : Bool) → (code == k) ≡ t → cond t first others ≡ Some x → ((code ≡ k) × (first ≡ Some x))
        ⊎ (others ≡ Some x)
    by_test true is e = inl (eqb-true code k is, e)
    by_test false is e = inr e

-- a command's packet has fields in range where those that said it were
record Sendable (f : Fields) (c : asked.Command) : Type 0 where
  frame : FitsFrame c f.source f.tn
  in_order : IsInOrder c

pub discovery_fits : (f : Fields) (dest pid : ℕ) (param : List ℕ) → FieldsFit f → dest < 2 ^ 48 → pid < 2 ^ 16
    → length param ≤ 231 → FieldsFit (discovery_fields dest pid param f.source f.tn)
discovery_fits f dest pid param fits d p few = record {
  dest = d;
  source = fits.source;
  tn = fits.tn;
  port_or_type = omega arith;
  count = omega arith;
  sub_device = omega arith;
  class = omega arith;
  pid = p;
  param = few;
}

branch_sendable : (f : Fields) (c : asked.Command) → IsBytes f.param → FieldsFit f → branch_in f.param ≡ Some c
    → Sendable f c
branch_sendable f c bytes fits h =
    let test = chosen ((length f.param == 12) && nat_le (number_at 0 6 f.param) (number_at 6 6 f.param))
    (Some (asks.Branch (record { lo = number_at 0 6 f.param; hi = number_at 6 6 f.param }))) c h in
    let both = and_parts (length f.param == 12) (nat_le (number_at 0 6 f.param) (number_at 6 6 f.param)) test.0 in
    let size : length f.param ≡ 12 = eqb-true _ 12 both.0 in
    let is : asks.Branch (record { lo = number_at 0 6 f.param; hi = number_at 6 6 f.param }) ≡ c = cc in
    subst (Sendable f) is (record {
      frame = record {
        fits = discovery_fits f all_devices 1 _ fits (omega arith) (omega arith) (omega arith);
        bounds = ((uid_at 0 f.param bytes (omega arith)).below, (uid_at 6 f.param bytes (omega arith)).below);
      };
      in_order = leb-true _ _ both.1;
    })

request_sendable : (f : Fields) (c : asked.Command) (class : ReqClass) → FieldsFit f
    → Some (asks.Request (request_in f class)) ≡ Some c → Sendable f c
request_sendable f c class fits h =
    let is : asks.Request (request_in f class) ≡ c = cc in
    subst (Sendable f) is (record {
      frame = record {
        fits = record {
          dest = fits.dest;
          source = fits.source;
          tn = fits.tn;
          port_or_type = omega arith;
          count = omega arith;
          sub_device = fits.sub_device;
          class = code class;
          pid = fits.pid;
          param = fits.param;
        };
        bounds = tt;
      };
      in_order = tt;
    })
  where
    code : (k : ReqClass) → code_of_request_class k < 2 ^ 8
    code Get = omega arith
    code Set = omega arith

discovery_sendable : (f : Fields) (c : asked.Command) → IsBytes f.param → FieldsFit f → discovery_in f ≡ Some c
    → Sendable f c
discovery_sendable f c bytes fits h = elim (by_code f.pid 3 _ _ c h) [
  | inl unmute ↦ subst (Sendable f) (same unmute.1) (record {
    frame = record {
      fits = discovery_fits f all_devices 3 [] fits (omega arith) (omega arith) (omega arith);
      bounds = tt;
    };
    in_order = tt;
  })
  | inr h ↦ elim (by_code f.pid 2 _ _ c h) [
    | inl mute ↦ muted (is_broadcast f.dest) refl mute.1
    | inr h ↦ elim (by_code f.pid 1 _ _ c h)
        [ inl branch ↦ branch_sendable f c bytes fits branch.1 | inr none ↦ absurd (let wrong : ⊥ = cc in wrong) ]
  ]
]
  where
    same : Some asks.Unmute ≡ Some c → asks.Unmute ≡ c
    same e = cc

    muted : (t : Bool) → is_broadcast f.dest ≡ t → cond t None (Some (asks.Mute f.dest)) ≡ Some c → Sendable f c
    muted true is e = absurd (let wrong : ⊥ = cc in wrong)
    muted false is e =
        let mute : asks.Mute f.dest ≡ c = cc in
        subst (Sendable f) mute (record {
          frame = record {
            fits = discovery_fits f f.dest 2 [] fits fits.dest (omega arith) (omega arith);
            bounds = tt;
          };
          in_order = is;
        })

sendable : (f : Fields) (c : asked.Command) → IsBytes f.param → FieldsFit f → command_in f ≡ Some c → Sendable f c
sendable f c bytes fits h = elim (by_code f.class 0x10 _ _ c h) [
  | inl discovery ↦ discovery_sendable f c bytes fits discovery.1
  | inr h ↦ elim (by_code f.class 0x20 _ _ c h) [
    | inl get ↦ request_sendable f c Get fits get.1
    | inr h ↦ elim (by_code f.class 0x30 _ _ c h)
        [ inl set ↦ request_sendable f c Set fits set.1 | inr none ↦ absurd (let wrong : ⊥ = cc in wrong) ]
  ]
]

-- what is read is what an encoder writes
pub writes-of_read : (b : List ℕ) (c : asked.Command) (s tn : ℕ) → IsBytes b → command_read b ≡ Some (c, s, tn)
    → Writes c s tn b
writes-of_read b c s tn bytes h = record { frame = sent.0; in_order = sent.1; bytes = so.bytes }
  where
    so : ReadsSo b c s tn
    so = reads_so b c s tn h

    has : HasBody b
    has = packet_body b (command_fields c s tn) bytes so.bytes

    so_sendable : Sendable (fields_at b) c
    so_sendable = sendable (fields_at b) c (param_bytes b bytes) has.fits so.in_fields

    sent : FitsFrame c s tn × IsInOrder c
    sent = (
      subst (λ n. FitsFrame c s n) so.number
          (subst (λ n. FitsFrame c n (fields_at b).tn) so.source so_sendable.frame),
      so_sendable.in_order,
    )

-- bytes that aren't as many as their data length says, or more than a frame has, are no command
pub none_unless_long : (b : List ℕ) → IsBytes b → (length b ≡ 26 + slice_index b 23 → length b ≤ 257 → ⊥)
    → command_read b ≡ None
none_unless_long b bytes not = by_option (command_read b) refl
  where
    by_option : (o : Option (asked.Command × ℕ × ℕ)) → command_read b ≡ o → command_read b ≡ None
    by_option None is = is
    by_option (Some x) is =
        let form = packet_form b _ (reads_so b x.0 x.1 x.2 is).bytes in
        let byte : slice_index b 2 < 256 = bytes 2 in
        absurd (not form.size (omega (arith, form.size, form.message)))

-- a value that is what the bytes are read as determines exactly what was written
pub reads_exactly : (b : List ℕ) (x : Option (asked.Command × ℕ × ℕ)) → IsBytes b → x ≡ command_read b
    → (c : asked.Command) (s tn : ℕ) → (x ≡ Some (c, s, tn)) ↔ Writes c s tn b
reads_exactly b x bytes value c s tn =
    (λ h. writes-of_read b c s tn bytes (sym value ∙ h), λ w. value ∙ read_of-writes c s tn b w)
