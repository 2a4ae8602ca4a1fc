-- The packet and its fields, by the offsets of the table.
use Rattle.std.specs.Prelude.{◌≡◌, ℕ, ◌+◌, ◌^◌, ◌<◌, ◌≤◌, List, [], ◌∷◌, ◌++◌, length, slice_index, slice_range}
use Rattle.rdm_wire.specs.Bytes.{number_at, checksum, two_bytes, uid_bytes}

-- the fields of a packet, as numbers (E1.20, packet format)
pub record Fields : Type 0 where
  pub dest : ℕ
  pub source : ℕ
  pub tn : ℕ
  pub port_or_type : ℕ  -- port id, or response type
  pub count : ℕ
  pub sub_device : ℕ
  pub class : ℕ
  pub pid : ℕ
  pub param : List ℕ

-- each field is in the range of its bytes, and the data have at most 231 bytes (E1.20, packet format)
pub record FieldsFit (f : Fields) : Type 0 where
  pub dest : f.dest < 2 ^ 48
  pub source : f.source < 2 ^ 48
  pub tn : f.tn < 2 ^ 8
  pub port_or_type : f.port_or_type < 2 ^ 8
  pub count : f.count < 2 ^ 8
  pub sub_device : f.sub_device < 2 ^ 16
  pub class : f.class < 2 ^ 8
  pub pid : f.pid < 2 ^ 16
  pub param : length f.param ≤ 231

-- the 24 bytes before the data (E1.20, packet format)
abbrev pub header_of : Fields → List ℕ
header_of f =
    0xcc ∷ 0x01 ∷ (24 + length f.param) ∷ uid_bytes f.dest ++ uid_bytes f.source
    ++ f.tn ∷ f.port_or_type ∷ f.count ∷ two_bytes f.sub_device ++ f.class ∷ two_bytes f.pid ++ length f.param ∷ []

-- header and data
abbrev pub body_of : Fields → List ℕ
body_of f = header_of f ++ f.param

-- the packet with these fields: header, data and the checksum of both (E1.20, packet format)
abbrev pub packet : Fields → List ℕ
packet f = body_of f ++ two_bytes (checksum (body_of f))

-- b is the packet with the fields f, which are in their ranges
abbrev pub Packet : Fields → List ℕ → Type 0
Packet f b = FieldsFit f × (b ≡ packet f)

-- the fields at the offsets of the packet (E1.20, packet format)
abbrev pub fields_at : List ℕ → Fields
fields_at b = record {
  dest = number_at 3 6 b;
  source = number_at 9 6 b;
  tn = number_at 15 1 b;
  port_or_type = number_at 16 1 b;
  count = number_at 17 1 b;
  sub_device = number_at 18 2 b;
  class = number_at 20 1 b;
  pid = number_at 21 2 b;
  param = slice_range b 24 (24 + slice_index b 23);
}
