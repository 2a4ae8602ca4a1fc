-- A past owns nothing, so any thread may share it.
use denote.RattleType.{RattleType}
use denote.Param.Send.{IsSync, part_keyless}
use Rattle.rdm_past.specs.contracts.past.Past.{the_row}
use Rattle.rdm_past.proofs.past.Past.TheSendSync.Send.{send}

pub sync : (A : RattleType) → IsSync (the_row A)
sync A = record { shared = λ d b o κ q. part_keyless (the_row A) (send A) q d b o }
