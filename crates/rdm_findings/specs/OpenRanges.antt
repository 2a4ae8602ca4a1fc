-- What is said of the first range that a run didn't rule out.
use Rattle.std.specs.Prelude.{ℕ, Bool, List, [], ◌++◌, Option, Some, None, codes, ◌==◌, if◌then◌else◌}
use Rattle.rdm_wire.specs.Uid.{is_broadcast}
use Rattle.rdm_wire.specs.UidText.{uid_text}
use Rattle.rdm_findings.specs.declared.form.Form.{Form}
use Rattle.rdm_findings.specs.declared.form.Judgement.TheVariants as judged
use Rattle.rdm_findings.specs.Forms.{finding, of_uid}

-- whether this is the greatest UID, which addresses all devices
abbrev pub is_greatest : ℕ → Bool
is_greatest u = u == 281474976710655

-- What a sentence says before one UID that wasn't ruled out, though the next one was. If it is the greatest one, all
-- others were. No device may have a broadcast UID
abbrev pub alone_before : ℕ → List ℕ
alone_before u =
    if is_greatest u then []
    else (if is_broadcast u then codes "not settled: " else codes "not settled: a device with ")

-- and after it
abbrev pub alone_after : ℕ → List ℕ
alone_after u =
    if is_greatest u then codes " alone wasn't ruled out, and no device may have it"
    else (if is_broadcast u then codes " wasn't ruled out, and perhaps UIDs above it; no device may have this one"
    else codes " may be missing, perhaps others above it too")

-- the same sentence after the last UID of a range that wasn't ruled out. UIDs above it may be open too
abbrev pub range_after : (last : ℕ) → List ℕ
range_after last =
    if is_greatest last then codes " may be missing" else codes " may be missing, perhaps others above it too"

-- what a sentence says of the first range that wasn't ruled out
abbrev pub open_text : (first last : ℕ) → List ℕ
open_text first last =
    if first == last then alone_before first ++ uid_text first ++ alone_after first
    else codes "not settled: a device from " ++ uid_text first ++ (codes " to " ++ uid_text last ++ range_after last)

-- the part about these UIDs, the first and the last of that range
abbrev pub open_gap : Form → ℕ → Option ℕ → List ℕ
open_gap form first None = []
open_gap form first (Some last) = finding form (of_uid judged.Gap first) (open_text first last)

-- the same, if there is such a range
abbrev pub uncovered_gap : Form → (first last : Option ℕ) → List ℕ
uncovered_gap form None last = []
uncovered_gap form (Some first) last = open_gap form first last
