use Rattle.std.proofs.Common.{◌≡◌, ◌*◌, take}
use Rattle.std.specs.List.{flat_map}
use Rattle.arrayvec.specs.ArrayVec.{array_vec_len}
use Rattle.rdm_wire.specs.BranchText.{pair_of}
use Rattle.rdm_wire.proofs.branch.encoded.Given as goal

abbrev pub invariant-loop-byte : goal.invariant-loop-byte
invariant-loop-byte l = record {
  items : l.pairs.items ≡ flat_map pair_of (take l.byte-index l.bytes);
  len : array_vec_len l.pairs ≡ 2 * l.byte-index;
}
