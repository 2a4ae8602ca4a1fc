-- Which logs are legal.
use Rattle.std.specs.Prelude.{◌≡◌, ◌≢◌, true, false, List, [], None}
use Rattle.rdm_wire.specs.Lists.{EachAfter}
use Rattle.rdm_log.specs.declared.entry.Opening.{Opening}
use Rattle.rdm_log.specs.declared.entry.Entry.{Entry}
use Rattle.rdm_log.specs.declared.entry.Entry.TheVariants.{Join, Refuse, Accept, Ask, Send, Came, Finish}
use Rattle.rdm_log.specs.declared.entry.Entry.TheVariants.{Answer, Collect, Pause, Resume, Close}
use Rattle.rdm_log.specs.log.History.{awaited, is_closed, can_pause, can_resume, next_client, next_request}
use Rattle.rdm_log.specs.log.History.{next_ask}
use Rattle.rdm_log.specs.log.Clients.{uncollected}
use Rattle.rdm_log.specs.log.Refusals.{join_fault, submit_fault, ask_fault, IsRefused}
use Rattle.rdm_log.specs.log.Due.{NothingDue}
use Rattle.rdm_log.specs.log.MaySend.{MaySend}
use Rattle.rdm_log.specs.log.MayFinish.{MayFinish}
use Rattle.rdm_log.specs.log.MayAnswer.{MayAnswer}

-- the entry may follow h: a Finish or an Answer if it is right, any other entry if it is right and nothing is due
abbrev pub MayFollow : Opening → List Entry → Entry → Type 0
MayFollow o h (Finish n status len) = MayFinish o h n status len
MayFollow o h (Answer n r fault) = MayAnswer o h n r fault
MayFollow o h (Join c n) = NothingDue o h × (join_fault o h n ≡ None) × (c.0 ≡ next_client o h)
MayFollow o h (Accept c n request) = NothingDue o h × (submit_fault o h c.0 ≡ None) × (n ≡ next_request o h)
MayFollow o h (Ask c n kind) = NothingDue o h × (ask_fault o h c.0 ≡ None) × (n ≡ next_ask o h)
MayFollow o h (Refuse c call cause) = NothingDue o h × IsRefused o h c call cause.0
MayFollow o h (Send owner frame) = NothingDue o h × MaySend o h owner frame
MayFollow o h (Came event) = NothingDue o h × (awaited h ≡ true)
MayFollow o h (Collect c) = NothingDue o h × (uncollected o c.0 h ≢ [])
MayFollow o h Pause = NothingDue o h × (can_pause o h ≡ true)
MayFollow o h Resume = NothingDue o h × (can_resume o h ≡ true)
MayFollow o h Close = NothingDue o h × (is_closed o h ≡ false)

-- each entry may follow those before it, and nothing is due at the end
pub record Legal (o : Opening) (h : List Entry) : Type 0 where
  pub each : EachAfter (MayFollow o) h
  pub settled : NothingDue o h
