use Rattle.std.proofs.Common.{◌≡◌, ℕ, List, ◌++◌, refl, ap, ◌∙◌}
use Rattle.rdm_wire.specs.Bytes.{checksum, two_bytes}
use Rattle.rdm_wire.specs.Packet.{Fields, packet, body_of, header_of}
use Rattle.rdm_wire.specs.body.Header.{header_fields}
use Rattle.rdm_wire.proofs.frame.Header.encode.Goals as goal

-- the header, the data and the sum, one after another
built : (f : Fields) (header with_header with_data sum frame : List ℕ)
    → with_header ≡ header → header ≡ header_of f → with_data ≡ with_header ++ f.param
    → sum ≡ two_bytes (checksum with_data) → frame ≡ with_data ++ sum → frame ≡ packet f
built f header with_header with_data sum frame h0 h1 h2 h3 h4 =
    h4 ∙ ap (λ l. with_data ++ l) h3 ∙ ap (λ l. l ++ two_bytes (checksum l)) body
  where
    body : with_data ≡ body_of f
    body = h2 ∙ ap (λ l. l ++ f.param) (h0 ∙ h1)

pub returns : goal.returns
returns c = (
  c.to_bytes.ensures.in_range c.args.param.now refl,
  built (header_fields c.args.self c.args.param.now) c.to_bytes.result _ _ c.to_be_bytes.result _
      (rw c.unwrap.ensures at c.try_extend_from_slice.ensures.ok ∙ ap (λ l. l ++ c.to_bytes.result) c.new-frame.ensures)
      (c.to_bytes.ensures.bytes c.args.param.now refl)
      (rw c.unwrap-2.ensures at c.try_extend_from_slice-2.ensures.ok)
      (c.to_be_bytes.ensures ∙ ap two_bytes (c.checksum-sum.ensures ∙ ap checksum c.deref.ensures.0))
      (rw c.unwrap-3.ensures at c.try_extend_from_slice-3.ensures.ok),
)
