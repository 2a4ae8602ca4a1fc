use Rattle.rdm_wire.proofs.UidLemmas.{IsUtf8-uid_text}
use Rattle.rdm_wire.proofs.uid.UidDisplay.fmt.Goals as goal

pub unreachable-requires : goal.unreachable-requires
unreachable-requires g c =
    c.in_default.ensures.cases.0 (rw c.to_text-bytes.ensures.text (IsUtf8-uid_text c.args.self.now))
