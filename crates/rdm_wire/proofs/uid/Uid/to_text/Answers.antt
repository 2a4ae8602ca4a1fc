use Rattle.std.proofs.Common.{◌≡◌, ℕ, List, take, drop, ap, ◌∙◌}
use Rattle.hex.specs.Hex.{encode_lower, lower_digits}
use Rattle.hex.proofs.HexLemmas.{length-encode_with}
use Rattle.rdm_wire.specs.Bytes.{uid_bytes}
use Rattle.rdm_wire.proofs.UidLemmas.{put_digits, uid_text_reads}
use Rattle.rdm_wire.proofs.uid.Uid.to_text.Goals as goal

pub returns-clause-text : goal.returns-clause-text
returns-clause-text c =
    let manufacturer = rw c.unwrap.ensures at c.encode_to_slice.ensures.written in
    let device = rw c.unwrap-2.ensures at c.encode_to_slice-2.ensures.written in
    let front : c.encode_to_slice.new.output ≡ encode_lower (take 2 (uid_bytes c.args.self)) =
    manufacturer ∙ ap (λ (bytes : List ℕ). encode_lower (take 2 bytes)) c.to_bytes-bytes.ensures.bytes in
    let back : c.encode_to_slice-2.new.output ≡ encode_lower (drop 2 (uid_bytes c.args.self)) =
    device ∙ ap (λ (bytes : List ℕ). encode_lower (take 4 (drop 2 bytes))) c.to_bytes-bytes.ensures.bytes in
    rw (front, back)
    (put_digits (encode_lower (take 2 (uid_bytes c.args.self))) _
    (length-encode_with lower_digits (take 2 (uid_bytes c.args.self))))

pub returns-clause-reads : goal.returns-clause-reads
returns-clause-reads c = rw (returns-clause-text c) (uid_text_reads c.args.self c.to_bytes-bytes.ensures.in_range)
