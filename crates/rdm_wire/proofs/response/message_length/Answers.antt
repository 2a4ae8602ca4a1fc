use Rattle.std.proofs.Common.{◌≡◌, ℕ, take, rules, sym, ap, ◌∙◌, subst, arith}
use Rattle.std.specs.Prelude.{slice_index}
use Rattle.rdm_wire.specs.Bytes.{number_at, checksum}
use Rattle.rdm_wire.specs.Responses.{response_of, class_of_code, ack_of_code}
use Rattle.rdm_wire.proofs.Decoded.{HasForm, decoded-form}
use Rattle.rdm_wire.proofs.OffsetLemmas.{number_of-one}
use Rattle.rdm_wire.proofs.response.message_length.Goals as goal

pub returns-clause-packet : goal.returns-clause-packet
returns-clause-packet c =
    let b = c.args.bytes.now in
    let is : c.from-length.result ≡ slice_index b 2 = c.from-length.ensures in
    let HasSum : ℕ → Type 0 = λ n. number_at n 2 b ≡ checksum (take n b) in
    let form : HasForm b = record {
      long = search rules;
      start = search rules;
      sub_start = search rules;
      header = omega arith;
      all_there = search rules;
      pdl = omega arith;
      sum = subst HasSum is (sym c.u16_at.ensures ∙ c.if-u16_at-sum.false ∙ c.checksum-sum.ensures);
    } in
    decoded-form b form
    ∙ ap (λ n. response_of b (class_of_code n) (ack_of_code (slice_index b 16)))
    (sym (number_of-one 20 b (omega arith)))
    ∙ ap (λ n. response_of b (class_of_code (number_at 20 1 b)) (ack_of_code n))
    (sym (number_of-one 16 b (omega arith)))
