-- What was written to a log while a command was answered.
use Rattle.std.specs.Prelude.{◌≡◌, ℕ, Bool, true, false, List}
use Rattle.std.specs.Io.KnownBytes.{Keeps}
use Rattle.rdm_reports.specs.Writing.{LogState, IsWritten}
use Rattle.rdm_port.specs.body.Texts.{answer_bytes}
use Rattle.rdm_port.specs.declared.answer.Answered.{Answered}

-- a log that was closed is open now, if it is wanted, and nothing else has changed
pub record IsOpened (wanted : Bool) (old new : LogState) : Type 0 where
  pub is_open : new.is_open ≡ wanted
  pub is_failed : new.is_failed ≡ false
  pub bytes : Keeps old.contents new.contents

-- the text was written to a log that was closed, if it is wanted
abbrev pub HasLogged : Bool → LogState → LogState → List ℕ → Type 0
HasLogged false old new text = (new.is_failed ≡ false) × Keeps old.contents new.contents
HasLogged true old new text = IsWritten new.is_failed old.contents new.contents text

-- the status, or 1 after a failure
abbrev pub failed_or : Bool → ℕ → ℕ
failed_or true status = 1
failed_or false status = status

-- the status, unless the log has failed
abbrev pub status_after : LogState → ℕ → ℕ
status_after log status = failed_or log.is_failed status

-- the answer has this text and this status
pub record HasTextAndStatus (answered : Answered) (text : List ℕ) (status : ℕ) : Type 0 where
  pub text_is : answer_bytes answered.text ≡ text
  pub status_is : answered.status ≡ status
