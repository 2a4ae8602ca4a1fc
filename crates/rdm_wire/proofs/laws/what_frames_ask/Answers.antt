use Rattle.std.proofs.Common.{refl}
use Rattle.rdm_wire.proofs.CommandAsks.{written_asks}
use Rattle.rdm_wire.proofs.laws.what_frames_ask.Goals as goal

pub returns : goal.returns
returns c = record { written = written_asks; unmute = refl; branch = refl; mute = refl; wrong_sum = refl }
