-- What is said of bytes after an unmute.
use Rattle.std.specs.Prelude.{ℕ, Bool, true, false, List, [], Option, Some, None, codes}
use Rattle.std.specs.List.{position}
use Rattle.rdm_explain.specs.declared.exchange.Asked.{Asked}
use Rattle.rdm_explain.specs.declared.exchange.Asked.TheVariants.{Unmute}
use Rattle.rdm_explain.specs.declared.exchange.Heard.{Heard}
use Rattle.rdm_explain.specs.declared.exchange.Heard.TheVariants.{Failed, Silent}
use Rattle.rdm_explain.specs.declared.exchange.Exchange.{Exchange}
use Rattle.rdm_findings.specs.declared.head.Start.{Start}
use Rattle.rdm_findings.specs.declared.form.Form.{Form}
use Rattle.rdm_findings.specs.declared.form.Judgement.TheVariants as judged
use Rattle.rdm_findings.specs.FindingText.{exchange_finding}
use Rattle.rdm_findings.specs.Starts.{number_at}

-- whether bytes came
abbrev pub is_loud : Heard → Bool
is_loud Failed = false
is_loud Silent = false
is_loud _ = true

-- whether bytes came after an unmute of all devices, which none may answer
abbrev pub answers_unmute : Asked → Heard → Bool
answers_unmute Unmute heard = is_loud heard
answers_unmute _ heard = false

-- the same of an exchange
abbrev pub is_answered_unmute : Exchange → Bool
is_answered_unmute e = answers_unmute e.asked e.heard

-- about bytes that came after the unmute with this index, if there are any. They count against nobody
abbrev pub answered_at : Form → Start → Option ℕ → List ℕ
answered_at form start None = []
answered_at form start (Some at) =
    exchange_finding form judged.Answered (number_at start at)
    (codes ": bytes came after an unmute, which no device may answer")

-- the finding about the first unmute that was answered, if there is one
abbrev pub answered_finding : Form → Start → List Exchange → List ℕ
answered_finding form start xs = answered_at form start (position is_answered_unmute xs)
