-- The frames that the encoders write carry the agent's operations.
use Rattle.rdm_agent.proofs.Common.{◌≡◌, ℕ, ◌<◌, ◌^◌, Bool, true, false, cond, List, [], ◌∷◌, Option, Some, None}
use Rattle.rdm_agent.proofs.Common.{bytes_eq, refl, sym, ap, ◌∙◌, subst, arith, Span, Asked, Heard, Seen}
use Rattle.rdm_agent.proofs.Common.{Silent, Acked, Noise, MuteAck, BranchReply}
use Rattle.rdm_agent.proofs.Common.{asked_by, heard_by, seen_op, op_frame, Op, OpReply, ◌↔◌}
use Rattle.rdm_wire.specs.BranchText.{ReadsAs}
use Rattle.rdm_wire.specs.Reading.{text_read, ack_read}
use Rattle.rdm_wire.specs.Packet.{Fields, fields_at}
use Rattle.rdm_wire.specs.CommandFrames.{all_devices, branch_frame, mute_frame, unmute_frame}
use Rattle.rdm_wire.specs.Commands.{FitsFrame, command_fields}
use Rattle.rdm_wire.specs.declared.command.Command.{Command}
use Rattle.rdm_wire.specs.declared.command.Command.TheVariants as commands
use Rattle.rdm_wire.specs.Frames.{asked_in, asked_with, heard_in, heard_bytes, one_or_noise, acked_or_noise}
use Rattle.rdm_wire.specs.Frames.{seen_exchange}
use Rattle.rdm_wire.specs.Honest.Asked.{Unmute as unmuted, Branch as branched, Mute as muted, Other as nothing}
use Rattle.rdm_wire.specs.declared.branch.BranchReply.TheVariants as replies
use Rattle.rdm_wire.proofs.BytesLemmas.{number_of-uid_bytes}
use Rattle.rdm_wire.proofs.PacketLemmas.{fields_at-packet}
use Rattle.rdm_wire.proofs.Text.{text_read-of, of-text_read}
use Rattle.rdm_wire.proofs.CommandLemmas.{one_command}
use Rattle.rdm_wire.proofs.CommandReads.{equal_bytes, other_bytes}
use Rattle.rdm_agent.specs.OpFrames.{IsSendable}
use Rattle.rdm_agent.specs.Run.{mute_reply}
use Rattle.rdm_agent.specs.declared.op.Op.TheVariants as ops
use Rattle.rdm_agent.specs.declared.op.OpReply.TheVariants as came

-- of some tests in order, the second holds first, or the third
second : {W : Type 0} (p q : Bool) (a b c : W) → p ≡ false → q ≡ true → cond p a (cond q b c) ≡ b
second p q a b c fails holds = rw (fails, holds) refl

third : {W : Type 0} (p q r : Bool) (a b c d : W) → p ≡ false → q ≡ false → r ≡ true
    → cond p a (cond q b (cond r c d)) ≡ c
third p q r a b c d fails too holds = rw (fails, too, holds) refl

abbrev branch_of : ℕ → ℕ → Command
branch_of lo hi = commands.Branch (record { lo = lo; hi = hi })

-- what fits the frame of one command fits those of the others
can_unmute : (s tn : ℕ) → s < 2 ^ 48 → tn < 2 ^ 8 → FitsFrame commands.Unmute s tn
can_unmute s tn source number = record {
  fits = record {
    dest = omega arith;
    source = source;
    tn = number;
    port_or_type = omega arith;
    count = omega arith;
    sub_device = omega arith;
    class = omega arith;
    pid = omega arith;
    param = omega arith;
  };
  bounds = tt;
}

can_branch : (s tn : ℕ) → s < 2 ^ 48 → tn < 2 ^ 8 → FitsFrame (branch_of 0 0) s tn
can_branch s tn source number = record {
  fits = record {
    dest = omega arith;
    source = source;
    tn = number;
    port_or_type = omega arith;
    count = omega arith;
    sub_device = omega arith;
    class = omega arith;
    pid = omega arith;
    param = omega arith;
  };
  bounds = (omega arith, omega arith);
}

-- what the frames ask
pub unmute_asks : (s tn : ℕ) → FitsFrame commands.Unmute s tn → asked_in (unmute_frame s tn) ≡ unmuted
unmute_asks s tn can =
    ap (asked_with (unmute_frame s tn)) (fields_at-packet (command_fields commands.Unmute s tn) can.fits)
    ∙ rw (equal_bytes (unmute_frame s tn) (unmute_frame s tn) refl) refl

pub branch_asks : (lo hi s tn : ℕ) → FitsFrame (branch_of lo hi) s tn
    → asked_in (branch_frame lo hi s tn) ≡ branched lo hi
branch_asks lo hi s tn can =
    ap (asked_with (branch_frame lo hi s tn)) (fields_at-packet (command_fields (branch_of lo hi) s tn) can.fits)
    ∙ bounds _ _ (number_of-uid_bytes lo can.bounds.0) (number_of-uid_bytes hi can.bounds.1)
  where
    no_unmute : branch_frame lo hi s tn ≡ unmute_frame s tn → ⊥
    no_unmute same =
        let one : branch_of lo hi
        ≡ commands.Unmute =
        (one_command (branch_of lo hi) commands.Unmute s tn s tn can
        (can_unmute s tn can.fits.source can.fits.tn) same).0 in cc

    bounds : (low high : ℕ) → low ≡ lo → high ≡ hi
        → cond (bytes_eq (branch_frame lo hi s tn) (unmute_frame s tn)) unmuted
        (cond (bytes_eq (branch_frame lo hi s tn) (branch_frame low high s tn)) (branched low high)
        (cond (bytes_eq (branch_frame lo hi s tn) (mute_frame all_devices s tn)) (muted all_devices) nothing))
        ≡ branched lo hi
    bounds low high is_low is_high =
        second _ _ unmuted (branched low high) (cond (bytes_eq (branch_frame lo hi s tn) (mute_frame all_devices s tn))
        (muted all_devices) nothing) (other_bytes (branch_frame lo hi s tn) (unmute_frame s tn) no_unmute)
        (equal_bytes (branch_frame lo hi s tn) (branch_frame low high s tn)
        (ap (λ n. branch_frame n hi s tn) (sym is_low) ∙ ap (λ n. branch_frame low n s tn) (sym is_high)))
        ∙ ap (λ n. branched n high) is_low ∙ ap (λ n. branched lo n) is_high

pub mute_asks : (u s tn : ℕ) → FitsFrame (commands.Mute u) s tn → asked_in (mute_frame u s tn) ≡ muted u
mute_asks u s tn can =
    ap (asked_with (mute_frame u s tn)) (fields_at-packet (command_fields (commands.Mute u) s tn) can.fits)
    ∙ third _ _ _ unmuted (branched 0 0) (muted u) nothing
    (other_bytes (mute_frame u s tn) (unmute_frame s tn) no_unmute)
    (other_bytes (mute_frame u s tn) (branch_frame 0 0 s tn) no_branch)
    (equal_bytes (mute_frame u s tn) (mute_frame u s tn) refl)
  where
    no_unmute : mute_frame u s tn ≡ unmute_frame s tn → ⊥
    no_unmute same =
        let one : commands.Mute u
        ≡ commands.Unmute =
        (one_command (commands.Mute u) commands.Unmute s tn s tn can
        (can_unmute s tn can.fits.source can.fits.tn) same).0 in cc

    no_branch : mute_frame u s tn ≡ branch_frame 0 0 s tn → ⊥
    no_branch same =
        let one : commands.Mute u
        ≡ branch_of 0 0 =
        (one_command (commands.Mute u) (branch_of 0 0) s tn s tn can
        (can_branch s tn can.fits.source can.fits.tn) same).0 in cc

-- how bytes are heard after a frame with these fields that asks this
heard_after : (frame : List ℕ) (f : Fields) (asked : Asked) (bytes : List ℕ) → fields_at frame ≡ f
    → asked_in frame ≡ asked → heard_in frame (Some bytes) ≡ heard_bytes f.source f.tn asked bytes
heard_after frame f asked bytes fields asks =
    ap (λ (g : Fields). heard_bytes g.source g.tn (asked_in frame) bytes) fields
    ∙ ap (λ a. heard_bytes f.source f.tn a bytes) asks

-- after a branch
read_heard : (lo hi s tn : ℕ) (bytes : List ℕ) (reply : BranchReply) → ReadsAs bytes reply
    → heard_bytes s tn (branched lo hi) bytes ≡ heard_by (came.Branch reply)
read_heard lo hi s tn [] replies.Silent reads = refl
read_heard lo hi s tn [] (replies.One u) reads = let read : text_read [] ≡ Some u = text_read-of [] u reads in cc
read_heard lo hi s tn [] replies.Collision reads = absurd (reads.0 refl)
read_heard lo hi s tn (b ∷ bs) replies.Silent reads = cc
read_heard lo hi s tn (b ∷ bs) (replies.One u) reads = ap one_or_noise (text_read-of (b ∷ bs) u reads)
read_heard lo hi s tn (b ∷ bs) replies.Collision reads = by_option (text_read (b ∷ bs)) refl
  where
    by_option : (o : Option ℕ) → text_read (b ∷ bs) ≡ o → one_or_noise o ≡ Noise
    by_option None is = refl
    by_option (Some u) is = absurd (reads.1 u (of-text_read (b ∷ bs) u is))

pub branch_seen : (r : Span) (s tn : ℕ) (bytes : List ℕ) (reply : BranchReply) → FitsFrame (commands.Branch r) s tn
    → ReadsAs bytes reply → seen_exchange (branch_frame r.lo r.hi s tn) (Some bytes) ≡ seen_op
    (ops.Branch r, came.Branch reply)
branch_seen r s tn bytes reply can reads = both _ _ asks
    (heard_after (branch_frame r.lo r.hi s tn) (command_fields (commands.Branch r) s tn) (branched r.lo r.hi) bytes
    (fields_at-packet (command_fields (commands.Branch r) s tn) can.fits) asks
    ∙ read_heard r.lo r.hi s tn bytes reply reads)
  where
    asks : asked_in (branch_frame r.lo r.hi s tn) ≡ branched r.lo r.hi
    asks = branch_asks r.lo r.hi s tn can

    both : (asked : Asked) (heard : Heard) → asked ≡ branched r.lo r.hi → heard ≡ heard_by (came.Branch reply)
        → ◌≡◌ {A = Seen} (record { asked = asked; heard = heard }) (seen_op (ops.Branch r, came.Branch reply))
    both asked heard is_asked is_heard = rw (is_asked, is_heard) refl

-- after a mute
mute_hears : (u s tn : ℕ) (bytes : List ℕ) → FitsFrame (commands.Mute u) s tn
    → heard_in (mute_frame u s tn) (Some bytes) ≡ heard_bytes s tn (muted u) bytes
mute_hears u s tn bytes can = heard_after (mute_frame u s tn) (command_fields (commands.Mute u) s tn) (muted u) bytes
    (fields_at-packet (command_fields (commands.Mute u) s tn) can.fits) (mute_asks u s tn can)

-- what is heard after a mute
reply_heard : (u s tn : ℕ) (bytes : List ℕ)
    → heard_by (mute_reply (ack_read u s tn bytes) bytes) ≡ heard_bytes s tn (muted u) bytes
reply_heard u s tn [] = refl
reply_heard u s tn (b ∷ bs) = by_option (ack_read u s tn (b ∷ bs))
  where
    by_option : (o : Option MuteAck) → heard_by (mute_reply o (b ∷ bs)) ≡ acked_or_noise o
    by_option None = refl
    by_option (Some ack) = refl

-- the frame of each operation
pub op_asks : (op : Op) (s tn : ℕ) → IsSendable op s tn → (op ≡ ops.End → ⊥) → asked_in (op_frame op s tn) ≡ asked_by op
op_asks ops.UnmuteAll s tn can goes = unmute_asks s tn can
op_asks (ops.Mute u) s tn can goes = mute_asks u s tn can
op_asks (ops.Branch r) s tn can goes = branch_asks r.lo r.hi s tn can
op_asks ops.End s tn can goes = absurd (goes refl)

-- a reply to this operation is an acknowledgement exactly if that was heard
abbrev Acks : Op → ℕ → ℕ → Option (List ℕ) → OpReply → Type 0
Acks op s tn answer reply =
    (ack : MuteAck) → (reply ≡ came.Mute (Some ack)) ↔ (heard_in (op_frame op s tn) answer ≡ Acked ack)

pub mute_carried : (op : Op) (u s tn : ℕ) (bytes : List ℕ) → IsSendable op s tn → op ≡ ops.Mute u
    → heard_by (mute_reply (ack_read u s tn bytes) bytes) ≡ heard_in (op_frame op s tn) (Some bytes)
mute_carried op u s tn bytes can is = subst
    (λ o. heard_by (mute_reply (ack_read u s tn bytes) bytes) ≡ heard_in (op_frame o s tn) (Some bytes)) (sym is)
    (reply_heard u s tn bytes ∙ sym (mute_hears u s tn bytes (subst (λ o. IsSendable o s tn) is can)))

-- a reply to a mute is its acknowledgement exactly if that was heard
pub mute_acks : (op : Op) (s tn : ℕ) (bytes : List ℕ) (ack : Option MuteAck)
    → heard_by (mute_reply ack bytes) ≡ heard_in (op_frame op s tn) (Some bytes)
    → Acks op s tn (Some bytes) (mute_reply ack bytes)
mute_acks op s tn bytes ack heard one = (λ is. sym heard ∙ ap heard_by is, λ is. only ack bytes (heard ∙ is))
  where
    only : (o : Option MuteAck) (l : List ℕ) → heard_by (mute_reply o l) ≡ Acked one
        → mute_reply o l ≡ came.Mute (Some one)
    only (Some a) l h = cc
    only None [] h = cc
    only None (b ∷ bs) h = cc

pub branch_carried : (op : Op) (r : Span) (s tn : ℕ) (bytes : List ℕ) (reply : BranchReply) → IsSendable op s tn
    → ReadsAs bytes reply → op ≡ ops.Branch r → heard_by (came.Branch reply) ≡ heard_in (op_frame op s tn) (Some bytes)
branch_carried op r s tn bytes reply can reads is =
    subst (λ o. heard_by (came.Branch reply) ≡ heard_in (op_frame o s tn) (Some bytes)) (sym is)
    (sym (ap (λ (e : Seen). e.heard) (branch_seen r s tn bytes reply (subst (λ o. IsSendable o s tn) is can) reads)))

pub branch_acks : (op : Op) (s tn : ℕ) (bytes : List ℕ) (reply : BranchReply)
    → heard_by (came.Branch reply) ≡ heard_in (op_frame op s tn) (Some bytes)
    → Acks op s tn (Some bytes) (came.Branch reply)
branch_acks op s tn bytes reply heard ack = (λ h. cc, λ h. absurd (never reply (heard ∙ h)))
  where
    never : (r : BranchReply) → heard_by (came.Branch r) ≡ Acked ack → ⊥
    never replies.Silent h = cc
    never (replies.One u) h = cc
    never replies.Collision h = cc

pub frame_asks : (op : Op) (s tn : ℕ) (frame : List ℕ) → IsSendable op s tn → (op ≡ ops.End → ⊥)
    → frame ≡ op_frame op s tn → asked_in frame ≡ asked_by op
frame_asks op s tn frame can goes is = ap asked_in is ∙ op_asks op s tn can goes
