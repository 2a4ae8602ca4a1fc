use Rattle.std.proofs.Common.{◌∙◌, sym, ap, arith, slice_index_or}
use Rattle.rdm_wire.specs.Bytes.{number_at}
use Rattle.rdm_wire.specs.Frames.{asked_in, heard_bytes}
use Rattle.rdm_wire.proofs.OffsetLemmas.{number_of-one}
use Rattle.rdm_explain.proofs.FrameLemmas.{short_asks_nothing, other_heard}
use Rattle.rdm_explain.proofs.frame.read_frame.Goals as goal

pub returns-then-frame-lt-LEAST_FRAME_BYTES-clause-asked : goal.returns-then-frame-lt-LEAST_FRAME_BYTES-clause-asked
returns-then-frame-lt-LEAST_FRAME_BYTES-clause-asked c = sym (short_asks_nothing c.args.frame.now (omega arith))

pub returns-then-frame-lt-LEAST_FRAME_BYTES-clause-heard : goal.returns-then-frame-lt-LEAST_FRAME_BYTES-clause-heard
returns-then-frame-lt-LEAST_FRAME_BYTES-clause-heard c =
    λ bytes. other_heard _ _ _ _ _ bytes (short_asks_nothing c.args.frame.now (omega arith))

pub returns-clause-heard : goal.returns-clause-heard
returns-clause-heard c =
    let b = c.args.frame.now in
    λ bytes. ap (λ s. heard_bytes s (slice_index_or b 15 0) (asked_in b) bytes) c.uid_at-source.ensures
    ∙ ap (λ n. heard_bytes (number_at 9 6 b) n (asked_in b) bytes) (sym (number_of-one 15 b (omega arith)))
