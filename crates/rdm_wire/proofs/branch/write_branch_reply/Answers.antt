use Rattle.std.proofs.Common.{◌≡◌, ℕ, [], List, replicate, ◌∷◌, ◌++◌, ap, ◌∙◌, arith}
use Rattle.std.specs.List.{flat_map}
use Rattle.std.proofs.lemmas.List.{append_assoc}
use Rattle.rdm_wire.specs.Bytes.{uid_bytes, two_bytes, checksum}
use Rattle.rdm_wire.specs.BranchText.{pair_of}
use Rattle.rdm_wire.proofs.BranchLemmas.{branch_text_reads}
use Rattle.rdm_wire.proofs.branch.write_branch_reply.Goals as goal

pub returns-clause-text : goal.returns-clause-text
returns-clause-text c =
    let items : c.encoded-encoded_uid.result.items
    ≡ flat_map pair_of (uid_bytes c.args.uid) =
    c.encoded-encoded_uid.ensures.items ∙ ap (flat_map pair_of) c.to_bytes.ensures.bytes in
    let uid : c.deref-2.result.now ≡ flat_map pair_of (uid_bytes c.args.uid) = c.deref-2.ensures.0 ∙ items in
    let total : c.checksum.result ≡ checksum (flat_map pair_of (uid_bytes c.args.uid)) = c.checksum.ensures
    ∙ ap checksum (c.deref.ensures.0 ∙ items) in
    let sum : c.deref-3.result.now ≡ flat_map pair_of (two_bytes (checksum (flat_map pair_of (uid_bytes c.args.uid)))) =
    c.deref-3.ensures.0 ∙ c.encoded-encoded_checksum.ensures.items
    ∙ ap (flat_map pair_of) (c.to_be_bytes.ensures ∙ ap two_bytes total) in
    let last = rw c.unwrap-2.ensures at c.try_extend_from_slice-2.ensures.ok in
    let middle = rw c.unwrap.ensures at c.try_extend_from_slice.ensures.ok in
    let count : c.filling.counter ≡ c.args.preamble = omega arith in
    let first : c.push-2.new.self.items ≡ replicate c.args.preamble 0xfe ++ 0xaa ∷ [] =
    c.push-2.ensures.items
    ∙ ap (λ (xs : List ℕ). xs ++ 0xaa ∷ []) (c.filling.invariant ∙ ap (λ (n : ℕ). replicate n 0xfe) count) in
    last ∙ ap (λ (xs : List ℕ). xs ++ c.deref-3.result.now)
    (middle ∙ ap (λ (xs : List ℕ). xs ++ c.deref-2.result.now) first)
    ∙ rw (uid, sum) (simp append_assoc)

pub returns-clause-reads : goal.returns-clause-reads
returns-clause-reads c =
    rw (returns-clause-text c) (branch_text_reads c.args.uid c.args.preamble c.to_bytes.ensures.in_range c.requires)
