-- What the frame of a command asks.
use Rattle.std.proofs.Common.{◌≡◌, ◌≢◌, ℕ, ◌<◌, ◌≤◌, Bool, true, false, cond, List, [], ◌++◌, length, Option, Some}
use Rattle.std.proofs.Common.{None, refl, sym, ap, ◌∙◌, subst, inl, inr, arith}
use Rattle.std.specs.Prelude.{◌⊎◌, bytes_eq, slice_index}
use Rattle.std.proofs.lemmas.Bool.{cases_Bool}
use Rattle.std.proofs.lemmas.Slice.Eq.{bytes_eq-Decides}
use Rattle.std.proofs.lemmas.Option.{none-some}
use Rattle.hex.specs.Hex.{IsBytes}
use Rattle.rdm_wire.specs.Bytes.{uid_bytes}
use Rattle.rdm_wire.specs.Uid.{is_broadcast}
use Rattle.rdm_wire.specs.Packet.{Fields, FieldsFit, fields_at, packet}
use Rattle.rdm_wire.specs.CommandFrames.{unmute_fields, branch_fields, mute_fields, unmute_frame, branch_frame}
use Rattle.rdm_wire.specs.CommandFrames.{mute_frame, all_devices, code_of_request_class}
use Rattle.rdm_wire.specs.Commands.{Writes, command_fields, command_read, asked_by_command, AsksNobody, AsksSo}
use Rattle.rdm_wire.specs.Frames.{asked_in, asked_with, lower_bound, upper_bound}
use Rattle.rdm_wire.specs.Honest.Asked.{Unmute as Unmuted, Branch as Branched, Mute as Muted, Other}
use Rattle.rdm_wire.specs.declared.command.Command as asked
use Rattle.rdm_wire.specs.declared.command.Command.TheVariants as asks
use Rattle.rdm_wire.specs.declared.request.ReqClass.{ReqClass}
use Rattle.rdm_wire.specs.declared.request.ReqClass.TheVariants.{Get, Set}
use Rattle.rdm_wire.proofs.BytesLemmas.{number_of-uid_bytes}
use Rattle.rdm_wire.proofs.OffsetLemmas.{uid_at}
use Rattle.rdm_wire.proofs.PacketLemmas.{fields_at-packet}
use Rattle.rdm_wire.proofs.CommandReads.{read_of-writes, writes-of_read, equal_bytes, discovery_fits, packet_body}
use Rattle.rdm_wire.proofs.CommandReads.{param_bytes}
use Rattle.rdm_wire.proofs.ReadBack.{HasBody}

-- packets with other fields are other bytes
differs : (b : List ℕ) (f g : Fields) → b ≡ packet f → FieldsFit f → FieldsFit g → f ≢ g → bytes_eq b (packet g) ≡ false
differs b f g is fits also other = elim (cases_Bool (bytes_eq b (packet g))) [
  | inl same ↦ absurd (other
      (sym (fields_at-packet f fits) ∙ ap fields_at (sym is ∙ (bytes_eq-Decides b (packet g)).0 same)
      ∙ fields_at-packet g also))
  | inr not ↦ not
]

-- the three tests, one after another
asks_with : (b : List ℕ) (f : Fields) (u r m : Bool) → bytes_eq b (unmute_frame f.source f.tn) ≡ u
    → bytes_eq b (branch_frame (lower_bound f) (upper_bound f) f.source f.tn) ≡ r
    → bytes_eq b (mute_frame f.dest f.source f.tn) ≡ m
    → asked_with b f ≡ cond u Unmuted (cond r (Branched (lower_bound f) (upper_bound f)) (cond m (Muted f.dest) Other))
asks_with b f u r m p q t = rw (p, q, t) refl

pub unmute_fits : (f : Fields) → FieldsFit f → FieldsFit (unmute_fields f.source f.tn)
unmute_fits f fits = discovery_fits f all_devices 3 [] fits (omega arith) (omega arith) (omega arith)

pub branch_fits : (f : Fields) (lo hi : ℕ) → FieldsFit f → FieldsFit (branch_fields lo hi f.source f.tn)
branch_fits f lo hi fits =
    discovery_fits f all_devices 1 (uid_bytes lo ++ uid_bytes hi) fits (omega arith) (omega arith) (omega arith)

pub mute_fits : (f : Fields) → FieldsFit f → FieldsFit (mute_fields f.dest f.source f.tn)
mute_fits f fits = discovery_fits f f.dest 2 [] fits fits.dest (omega arith) (omega arith)

-- fields that say a command ask what it asks
fields_ask : (c : asked.Command) (s tn : ℕ) (b : List ℕ) → Writes c s tn b
    → asked_with b (command_fields c s tn) ≡ asked_by_command c
fields_ask asks.Unmute s tn b w = rw (equal_bytes b (unmute_frame s tn) w.bytes) refl
fields_ask (asks.Branch r) s tn b w =
    asks_with b f false true _ (differs b f (unmute_fields s tn) w.bytes w.frame.fits (unmute_fits f w.frame.fits)
    (λ e. no_pid (ap (λ x. x.pid) e))) (equal_bytes b _ (w.bytes ∙ bounds lo hi)) refl ∙ both _ _ lo hi
  where
    f : Fields
    f = command_fields (asks.Branch r) s tn

    no_pid : ◌≡◌ {A = ℕ} 1 3 → ⊥
    no_pid e = omega arith

    lo : lower_bound f ≡ r.lo
    lo = number_of-uid_bytes r.lo w.frame.bounds.0

    hi : upper_bound f ≡ r.hi
    hi = number_of-uid_bytes r.hi w.frame.bounds.1

    bounds : lower_bound f ≡ r.lo → upper_bound f ≡ r.hi
        → branch_frame r.lo r.hi s tn ≡ branch_frame (lower_bound f) (upper_bound f) s tn
    bounds p q = ap (λ x. branch_frame x r.hi s tn) (sym p) ∙ ap (λ x. branch_frame (lower_bound f) x s tn) (sym q)

    both : (x y : ℕ) → x ≡ r.lo → y ≡ r.hi → Branched x y ≡ Branched r.lo r.hi
    both x y p q = rw (p, q) refl
fields_ask (asks.Mute u) s tn b w =
    asks_with b f false false true
    (differs b f (unmute_fields s tn) w.bytes w.frame.fits (unmute_fits f w.frame.fits)
    (λ e. no_unmute (ap (λ x. x.pid) e)))
    (differs b f (branch_fields (lower_bound f) (upper_bound f) s tn) w.bytes w.frame.fits
    (branch_fits f (lower_bound f) (upper_bound f) w.frame.fits) (λ e. no_branch (ap (λ x. x.pid) e)))
    (equal_bytes b (mute_frame u s tn) w.bytes)
  where
    f : Fields
    f = command_fields (asks.Mute u) s tn

    no_unmute : ◌≡◌ {A = ℕ} 2 3 → ⊥
    no_unmute e = omega arith

    no_branch : ◌≡◌ {A = ℕ} 2 1 → ⊥
    no_branch e = omega arith
fields_ask (asks.Request r) s tn b w =
    asks_with b f false false false
    (differs b f (unmute_fields s tn) w.bytes w.frame.fits (unmute_fits f w.frame.fits)
    (λ e. no_class r.class (ap (λ x. x.class) e)))
    (differs b f (branch_fields (lower_bound f) (upper_bound f) s tn) w.bytes w.frame.fits
    (branch_fits f (lower_bound f) (upper_bound f) w.frame.fits) (λ e. no_class r.class (ap (λ x. x.class) e)))
    (differs b f (mute_fields f.dest s tn) w.bytes w.frame.fits (mute_fits f w.frame.fits)
    (λ e. no_class r.class (ap (λ x. x.class) e)))
  where
    f : Fields
    f = command_fields (asks.Request r) s tn

    no_class : (k : ReqClass) → code_of_request_class k ≡ 0x10 → ⊥
    no_class Get e = omega arith
    no_class Set e = omega arith

-- what is no command asks no device: were it one, it would be read
nobody : (b : List ℕ) → IsBytes b → command_read b ≡ None → AsksNobody (asked_in b)
nobody b bytes none =
    subst AsksNobody (sym (asks_with b (fields_at b) _ _ _ refl refl refl)) (by_tests _ _ _ refl refl refl)
  where
    f : Fields
    f = fields_at b

    not_read : (c : asked.Command) → Writes c f.source f.tn b → ⊥
    not_read c w = none-some _ (sym none ∙ read_of-writes c f.source f.tn b w)

    no_unmute : bytes_eq b (unmute_frame f.source f.tn) ≡ true → ⊥
    no_unmute same =
        let is : b ≡ unmute_frame f.source f.tn = (bytes_eq-Decides b _).0 same in
        let has : HasBody b = packet_body b (unmute_fields f.source f.tn) bytes is in
        not_read asks.Unmute (record {
          frame = record { fits = unmute_fits f has.fits; bounds = tt };
          in_order = tt;
          bytes = is;
        })

    crossed : bytes_eq b (branch_frame (lower_bound f) (upper_bound f) f.source f.tn) ≡ true
        → upper_bound f < lower_bound f
    crossed same = elim (cases_order_of (lower_bound f) (upper_bound f)) [
      | inl below ↦ below
      | inr in_order
          ↦ absurd (not_read (asks.Branch (record { lo = lower_bound f; hi = upper_bound f })) (written in_order))
    ]
      where
        cases_order_of : (lo hi : ℕ) → (hi < lo) ⊎ (lo ≤ hi)
        cases_order_of lo hi = grind arith

        is : b ≡ branch_frame (lower_bound f) (upper_bound f) f.source f.tn
        is = (bytes_eq-Decides b _).0 same

        has : HasBody b
        has = packet_body b (branch_fields (lower_bound f) (upper_bound f) f.source f.tn) bytes is

        size : length f.param ≡ 12
        size = has.size ∙ ap (λ l. slice_index l 23) is

        written : lower_bound f ≤ upper_bound f
            → Writes (asks.Branch (record { lo = lower_bound f; hi = upper_bound f })) f.source f.tn b
        written in_order = record {
          frame = record {
            fits = branch_fits f _ _ has.fits;
            bounds = (
              (uid_at 0 f.param (param_bytes b bytes) (omega (arith, size))).below,
              (uid_at 6 f.param (param_bytes b bytes) (omega (arith, size))).below,
            );
          };
          in_order = in_order;
          bytes = is;
        }

    broadcast : bytes_eq b (mute_frame f.dest f.source f.tn) ≡ true → is_broadcast f.dest ≡ true
    broadcast same =
        elim (cases_Bool (is_broadcast f.dest))
        [ inl all ↦ all | inr own ↦ absurd (not_read (asks.Mute f.dest) (written own)) ]
      where
        is : b ≡ mute_frame f.dest f.source f.tn
        is = (bytes_eq-Decides b _).0 same

        has : HasBody b
        has = packet_body b (mute_fields f.dest f.source f.tn) bytes is

        written : is_broadcast f.dest ≡ false → Writes (asks.Mute f.dest) f.source f.tn b
        written own = record { frame = record { fits = mute_fits f has.fits; bounds = tt }; in_order = own; bytes = is }

    by_tests : (u r m : Bool) → bytes_eq b (unmute_frame f.source f.tn) ≡ u
        → bytes_eq b (branch_frame (lower_bound f) (upper_bound f) f.source f.tn) ≡ r
        → bytes_eq b (mute_frame f.dest f.source f.tn) ≡ m
        → AsksNobody (cond u Unmuted (cond r (Branched (lower_bound f) (upper_bound f)) (cond m (Muted f.dest) Other)))
    by_tests true r m p q t = no_unmute p
    by_tests false true m p q t = crossed q
    by_tests false false true p q t = broadcast t
    by_tests false false false p q t = tt

-- what an encoder writes asks what its command does
pub written_asks : (c : asked.Command) (s tn : ℕ) (b : List ℕ) → Writes c s tn b → asked_in b ≡ asked_by_command c
written_asks c s tn b w =
    ap (asked_with b) (ap fields_at w.bytes ∙ fields_at-packet (command_fields c s tn) w.frame.fits)
    ∙ fields_ask c s tn b w

-- a frame asks what the command does that it is read as
pub asks_so : (b : List ℕ) → IsBytes b → AsksSo (command_read b) (asked_in b)
asks_so b bytes = by_option (command_read b) refl
  where
    by_option : (o : Option (asked.Command × ℕ × ℕ)) → command_read b ≡ o → AsksSo o (asked_in b)
    by_option None is = nobody b bytes is
    by_option (Some x) is = written_asks x.0 x.1 x.2 b (writes-of_read b x.0 x.1 x.2 bytes is)
