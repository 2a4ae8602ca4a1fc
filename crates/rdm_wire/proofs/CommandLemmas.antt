-- Two commands never have one frame.
use Rattle.std.proofs.Common.{◌≡◌, ℕ, ◌<◌, ◌^◌, List, ◌++◌, take, drop, refl, sym, ap, ◌∙◌, arith}
use Rattle.rdm_wire.specs.Bytes.{number_of, uid_bytes}
use Rattle.rdm_wire.specs.CommandFrames.{code_of_request_class}
use Rattle.rdm_wire.specs.Packet.{fields_at}
use Rattle.rdm_wire.specs.Commands.{command_fields, command_frame, FitsFrame, HasUids}
use Rattle.rdm_wire.specs.Span.{Span}
use Rattle.rdm_wire.specs.declared.command.Command.{Command}
use Rattle.rdm_wire.specs.declared.command.Command.TheVariants as asks
use Rattle.rdm_wire.specs.declared.request.Request.{Request}
use Rattle.rdm_wire.specs.declared.request.ReqClass.{ReqClass}
use Rattle.rdm_wire.specs.declared.request.ReqClass.TheVariants.{Get, Set}
use Rattle.rdm_wire.proofs.BytesLemmas.{number_of-uid_bytes}
use Rattle.rdm_wire.proofs.PacketLemmas.{fields_at-packet}

-- the class of a request is none of discovery, and its code determines it
no_discovery : (c : ReqClass) → code_of_request_class c ≡ 0x10 → ⊥
no_discovery Get h = omega arith
no_discovery Set h = omega arith

same_class : (c d : ReqClass) → code_of_request_class c ≡ code_of_request_class d → c ≡ d
same_class Get Get h = refl
same_class Get Set h = absurd (omega arith)
same_class Set Get h = absurd (omega arith)
same_class Set Set h = refl

-- the bounds of a branch stand in its data
same_uid : (u v : ℕ) → u < 2 ^ 48 → v < 2 ^ 48 → uid_bytes u ≡ uid_bytes v → u ≡ v
same_uid u v hu hv h = sym (number_of-uid_bytes u hu) ∙ ap number_of h ∙ number_of-uid_bytes v hv

same_branch : (r q : Span) → HasUids (asks.Branch r) → HasUids (asks.Branch q)
    → uid_bytes r.lo ++ uid_bytes r.hi ≡ uid_bytes q.lo ++ uid_bytes q.hi → asks.Branch r ≡ asks.Branch q
same_branch r q h k same =
    both _ _ (same_uid r.lo q.lo h.0 k.0 (ap (take 6) same)) (same_uid r.hi q.hi h.1 k.1 (ap (drop 6) same))
  where
    both : (x y : ℕ) → x ≡ q.lo → y ≡ q.hi → asks.Branch (record { lo = x; hi = y }) ≡ asks.Branch q
    both x y p q = rw (p, q) refl

same_request : (r q : Request) (s m t n : ℕ) → command_fields (asks.Request r) s m ≡ command_fields (asks.Request q) t n
    → r ≡ q
same_request r q s m t n h =
    made _ _ _ _ _ (ap (λ f. f.dest) h) (ap (λ f. f.sub_device) h) (same_class r.class q.class (ap (λ f. f.class) h))
    (ap (λ f. f.pid) h) (ap (λ f. f.param) h)
  where
    made : (target sub_device : ℕ) (class : ReqClass) (pid : ℕ) (items : List ℕ) → target ≡ q.target
        → sub_device ≡ q.sub_device → class ≡ q.class → pid ≡ q.pid → items ≡ q.param.items
        → ◌≡◌ {A = Request} (record {
          target = target;
          sub_device = sub_device;
          class = class;
          pid = pid;
          param = record { items = items };
        }) q
    made target sub_device class pid items h1 h2 h3 h4 h5 = rw (h1, h2, h3, h4, h5) refl

-- the fields determine the command
same_command : (c d : Command) (s m t n : ℕ) → HasUids c → HasUids d → command_fields c s m ≡ command_fields d t n
    → c ≡ d
same_command asks.Unmute asks.Unmute s m t n h k e = refl
same_command (asks.Branch a) (asks.Branch b) s m t n h k e = same_branch a b h k (ap (λ f. f.param) e)
same_command (asks.Mute u) (asks.Mute v) s m t n h k e = ap asks.Mute (ap (λ f. f.dest) e)
same_command (asks.Request r) (asks.Request q) s m t n h k e = ap asks.Request (same_request r q s m t n e)
same_command (asks.Request r) asks.Unmute s m t n h k e = absurd (no_discovery r.class (ap (λ f. f.class) e))
same_command (asks.Request r) (asks.Branch a) s m t n h k e = absurd (no_discovery r.class (ap (λ f. f.class) e))
same_command (asks.Request r) (asks.Mute u) s m t n h k e = absurd (no_discovery r.class (ap (λ f. f.class) e))
same_command asks.Unmute (asks.Request q) s m t n h k e = absurd (no_discovery q.class (sym (ap (λ f. f.class) e)))
same_command (asks.Branch a) (asks.Request q) s m t n h k e = absurd (no_discovery q.class (sym (ap (λ f. f.class) e)))
same_command (asks.Mute u) (asks.Request q) s m t n h k e = absurd (no_discovery q.class (sym (ap (λ f. f.class) e)))
same_command c d s m t n h k e = absurd (other_pid (ap (λ f. f.pid) e))
  where
    other_pid : (command_fields c s m).pid ≡ (command_fields d t n).pid → ⊥
    other_pid p = omega arith

-- a frame determines its command, its source and its number
pub one_command : (c d : Command) (s m t n : ℕ) → FitsFrame c s m → FitsFrame d t n
    → command_frame c s m ≡ command_frame d t n → (c ≡ d) × (s ≡ t) × (m ≡ n)
one_command c d s m t n can could same = (
  same_command c d s m t n can.bounds could.bounds fields,
  source c d (ap (λ f. f.source) fields),
  number c d (ap (λ f. f.tn) fields),
)
  where
    fields : command_fields c s m ≡ command_fields d t n
    fields = sym (fields_at-packet (command_fields c s m) can.fits) ∙ ap fields_at same
        ∙ fields_at-packet (command_fields d t n) could.fits

    source_of : (x : Command) (u k : ℕ) → (command_fields x u k).source ≡ u
    source_of asks.Unmute u k = refl
    source_of (asks.Branch a) u k = refl
    source_of (asks.Mute v) u k = refl
    source_of (asks.Request r) u k = refl

    number_of_command : (x : Command) (u k : ℕ) → (command_fields x u k).tn ≡ k
    number_of_command asks.Unmute u k = refl
    number_of_command (asks.Branch a) u k = refl
    number_of_command (asks.Mute v) u k = refl
    number_of_command (asks.Request r) u k = refl

    source : (x y : Command) → (command_fields x s m).source ≡ (command_fields y t n).source → s ≡ t
    source x y h = sym (source_of x s m) ∙ h ∙ source_of y t n

    number : (x y : Command) → (command_fields x s m).tn ≡ (command_fields y t n).tn → m ≡ n
    number x y h = sym (number_of_command x s m) ∙ h ∙ number_of_command y t n
