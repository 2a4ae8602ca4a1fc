-- A packet, with any bytes after it.
use Rattle.std.proofs.Common.{◌≡◌, ℕ, ◌+◌, ◌-◌, List, [], ◌++◌, length, take, drop, refl, sym, ap, ◌∙◌, subst}
use Rattle.std.proofs.Common.{append_assoc, append-nil, length-append, arith}
use Rattle.std.specs.Prelude.{slice_range}
use Rattle.std.proofs.Math.Seq.{drop-append_seam, take-append_seam}
use Rattle.rdm_wire.specs.Bytes.{number_of, number_at, checksum, two_bytes}
use Rattle.rdm_wire.specs.Packet.{Fields, FieldsFit, fields_at, packet, body_of, header_of}
use Rattle.rdm_wire.proofs.BytesLemmas.{number_of-two_bytes, number_of-uid_bytes}

pub body_length : (f : Fields) → length (body_of f) ≡ 24 + length f.param
body_length f = length-append (header_of f) f.param

-- the whole, as body, sum and rest
whole : (f : Fields) (rest : List ℕ) → packet f ++ rest ≡ body_of f ++ (two_bytes (checksum (body_of f)) ++ rest)
whole f rest = append_assoc (body_of f) (two_bytes (checksum (body_of f))) rest

pub front : (f : Fields) (rest : List ℕ) → take (24 + length f.param) (packet f ++ rest) ≡ body_of f
front f rest = subst (λ (n : ℕ). take n (packet f ++ rest) ≡ body_of f) (body_length f)
    (ap (take (length (body_of f))) (whole f rest)
    ∙ take-append_seam (body_of f) (two_bytes (checksum (body_of f)) ++ rest))

pub after : (f : Fields) (rest : List ℕ)
    → drop (24 + length f.param) (packet f ++ rest) ≡ two_bytes (checksum (body_of f)) ++ rest
after f rest = subst (λ (n : ℕ). drop n (packet f ++ rest) ≡ two_bytes (checksum (body_of f)) ++ rest) (body_length f)
    (ap (drop (length (body_of f))) (whole f rest)
    ∙ drop-append_seam (body_of f) (two_bytes (checksum (body_of f)) ++ rest))

-- the sum stands after the body
pub sum_at : (f : Fields) (rest : List ℕ) → number_at (24 + length f.param) 2 (packet f ++ rest) ≡ checksum (body_of f)
sum_at f rest = ap (λ l. number_of (take (24 + length f.param + 2 - (24 + length f.param)) l)) (after f rest)
    ∙ two_of (checksum (body_of f)) (24 + length f.param + 2 - (24 + length f.param)) (omega arith)
    ∙ number_of-two_bytes (checksum (body_of f)) (omega arith)
  where
    two_of : (c n : ℕ) → n ≡ 2 → number_of (take n (two_bytes c ++ rest)) ≡ number_of (two_bytes c)
    two_of c n h = rw h refl

-- the data stand after the header
pub param_at : (f : Fields) (rest : List ℕ) → slice_range (packet f ++ rest) 24 (24 + length f.param) ≡ f.param
param_at f rest = counted (24 + length f.param - 24) (omega arith)
  where
    counted : (n : ℕ) → n ≡ length f.param → take n ((f.param ++ two_bytes (checksum (body_of f))) ++ rest) ≡ f.param
    counted n h =
        rw h (ap (take (length f.param)) (append_assoc f.param (two_bytes (checksum (body_of f))) rest)
        ∙ take-append_seam f.param (two_bytes (checksum (body_of f)) ++ rest))

pub fields_back : (f : Fields) (rest : List ℕ) → FieldsFit f → fields_at (packet f ++ rest) ≡ f
fields_back f rest fits = same _ _ _ _ _ _ _ _ _ (number_of-uid_bytes f.dest fits.dest)
    (number_of-uid_bytes f.source fits.source) (one_spell f.tn) (one_spell f.port_or_type) (one_spell f.count)
    (number_of-two_bytes f.sub_device fits.sub_device) (one_spell f.class) (number_of-two_bytes f.pid fits.pid)
    (param_at f rest)
  where
    one_spell : (n : ℕ) → 0 + n ≡ n
    one_spell n = omega arith

    same : (d s t o c b k p : ℕ) (data_ : List ℕ) → d ≡ f.dest → s ≡ f.source → t ≡ f.tn → o ≡ f.port_or_type
        → c ≡ f.count
        → b ≡ f.sub_device → k ≡ f.class → p ≡ f.pid → data_ ≡ f.param
        → ◌≡◌ {A = Fields} (record {
          dest = d;
          source = s;
          tn = t;
          port_or_type = o;
          count = c;
          sub_device = b;
          class = k;
          pid = p;
          param = data_;
        }) f
    same d s t o c b k p data_ q1 q2 q3 q4 q5 q6 q7 q8 q9 = rw (q1, q2, q3, q4, q5, q6, q7, q8, q9) refl

pub long : (f : Fields) (rest : List ℕ) → length (packet f ++ rest) ≡ 26 + length f.param + length rest
long f rest =
    ap length (whole f rest) ∙ length-append (body_of f) (two_bytes (checksum (body_of f)) ++ rest)
    ∙ ap (λ n. n + length (two_bytes (checksum (body_of f)) ++ rest)) (body_length f) ∙ summed
  where
    summed : 24 + length f.param + length (two_bytes (checksum (body_of f)) ++ rest) ≡ 26 + length f.param + length rest
    summed = omega arith

-- a packet determines its fields
pub fields_at-packet : (f : Fields) → FieldsFit f → fields_at (packet f) ≡ f
fields_at-packet f fits = ap fields_at (sym (append-nil (packet f))) ∙ fields_back f [] fits

-- no packet begins with another
pub one_packet : (f g : Fields) (rest more : List ℕ) → FieldsFit f → FieldsFit g
    → packet f ++ rest ≡ packet g ++ more → f ≡ g
one_packet f g rest more fits also same = sym (fields_back f rest fits) ∙ ap fields_at same ∙ fields_back g more also
