use Rattle.std.proofs.Common.{◌≡◌, ℕ, List, take, drop, get_or, Ok, length, sym, ap, ◌∙◌, arith, refl}
use Rattle.std.proofs.lemmas.List.{take_rest, length-take-le, length-drop}
use Rattle.hex.specs.Hex.{decode_of}
use Rattle.rdm_wire.specs.Bytes.{uid_bytes}
use Rattle.rdm_wire.specs.UidText.{colon}
use Rattle.rdm_wire.proofs.UidLemmas.{reads_ok, reads_err, text_digits, text_parts, two_of, four_of}
use Rattle.rdm_wire.proofs.uid.Uid.parse.Goals as goal

pub returns-in_default-clause-ok : goal.returns-in_default-clause-ok
returns-in_default-clause-ok c = reads_err c.args.text.now _ (λ u f.
    let digits = text_digits c.args.text.now u f in
    let read = (c.in_default.ensures.value (take 2 (uid_bytes u))).1
    (ap (λ (t : List ℕ). decode_of (take 4 t)) c.as_bytes-bytes.ensures.value ∙ digits.0) in cc)

pub returns-in_default-bytes_of_digits-clause-ok :
    goal.returns-in_default-bytes_of_digits-clause-ok
returns-in_default-bytes_of_digits-clause-ok c = reads_err c.args.text.now _ (λ u f.
    let digits = text_digits c.args.text.now u f in
    let read = (c.in_default-bytes_of_digits.ensures.value (drop 2 (uid_bytes u))).1
    (ap decode_of (take_rest c.as_bytes-bytes.result.now 5)
    ∙ ap (λ (t : List ℕ). decode_of (drop 5 t)) c.as_bytes-bytes.ensures.value ∙ digits.1) in cc)

pub returns-clause-ok : goal.returns-clause-ok
returns-clause-ok c =
    let same = c.as_bytes-bytes.ensures.value in
    let len : length c.args.text.now ≡ 13 = sym c.as_bytes-bytes.ensures.len ∙ c.if-bytes-ne-TEXT_LEN.false in
    let is_colon : get_or c.args.text.now 4 0 ≡ colon = ap (λ (t : List ℕ). get_or t 4 0) (sym same)
    ∙ c.if-bytes-ne-SEPARATOR.false in
    let bytes = c.from_bytes.ensures.bytes in
    let manufacturer = two_of c.in-Some.manufacturer c.in-Some.ensures.len in
    let device = four_of c.in-Some-bytes_of_digits.device c.in-Some-bytes_of_digits.ensures.len in
    reads_ok c.args.text.now c.from_bytes.result (record {
      manufacturer = take 4 c.args.text.now;
      device = drop 5 c.args.text.now;
      parts = text_parts c.args.text.now len is_colon;
      manufacturer_length = length-take-le 4 c.args.text.now (omega (arith, len));
      device_length = omega (arith, len, length-drop 5 c.args.text.now);
      in_range = c.from_bytes.ensures.in_range;
      manufacturer_digits =
          ap (λ (t : List ℕ). decode_of (take 4 t)) (sym same) ∙ (c.in-Some.ensures.value c.in-Some.manufacturer).0 refl
          ∙ ap Ok (sym (ap (take 2) bytes ∙ manufacturer));
      device_digits =
          ap (λ (t : List ℕ). decode_of (drop 5 t)) (sym same)
          ∙ ap decode_of (sym (take_rest c.as_bytes-bytes.result.now 5))
          ∙ (c.in-Some-bytes_of_digits.ensures.value c.in-Some-bytes_of_digits.device).0 refl
          ∙ ap Ok (sym (ap (drop 2) bytes ∙ device));
    })
