-- The devices that a run's lines about bytes name.
use Rattle.std.specs.Prelude.{ℕ, Bool, false, ◌&&◌, not, List, Option, Some, None, slice_get, ◌==◌, if◌then◌else◌}
use Rattle.std.specs.Ordering.{nat_cmp}
use Rattle.std.specs.BTreeMap.{get}
use Rattle.rdm_explain.specs.declared.exchange.Asked.{Asked}
use Rattle.rdm_explain.specs.declared.exchange.Asked.TheVariants.{Branch, Mute}
use Rattle.rdm_explain.specs.declared.exchange.Heard.{Heard}
use Rattle.rdm_explain.specs.declared.exchange.Heard.TheVariants.{One}
use Rattle.rdm_explain.specs.declared.exchange.Exchange.{Exchange}
use Rattle.rdm_explain.specs.declared.sighting.Sighting.{Sighting}
use Rattle.rdm_findings.specs.declared.flaw.Flaw.{Flaw}
use Rattle.rdm_findings.specs.declared.flaw.Flaw.TheVariants as flaws
use Rattle.rdm_findings.specs.declared.head.Start.{Start}
use Rattle.rdm_findings.specs.declared.mention.Mention.{Mention}
use Rattle.rdm_findings.specs.declared.misread.Misreads.{Misreads}
use Rattle.rdm_findings.specs.declared.stray_bytes.Sign.{Sign}
use Rattle.rdm_findings.specs.declared.stray_bytes.Sign.TheVariants as signs
use Rattle.rdm_findings.specs.Ends.{has_bytes, is_own}
use Rattle.rdm_findings.specs.Starts.{number_at}
use Rattle.rdm_findings.specs.StrayBytes.{sign_of}

-- the UID that bytes read as, or else this one
abbrev pub spelt_or : ℕ → Heard → ℕ
spelt_or u (One v) = v
spelt_or u _ = u

-- the UID that an answer to a mute is from, if that is what is wrong with it, or else this one
abbrev pub source_or : ℕ → Option Flaw → ℕ
source_or u (Some (flaws.Source v)) = v
source_or u _ = u

-- Bytes that no honest line allows, which came after this: the UID that was asked, and the one that they read as, or
-- that they are from
abbrev pub named_in : ℕ → Option Flaw → Asked → Heard → Option Mention
named_in number flaw (Branch lo hi) heard = Some (record { number = number; uid = lo; other = spelt_or lo heard })
named_in number flaw (Mute u) heard = Some (record { number = number; uid = u; other = source_or u flaw })
named_in number flaw _ heard = None

-- the same in an exchange with this number
abbrev pub named_by : ℕ → Option Flaw → Option Exchange → Option Mention
named_by number flaw None = None
named_by number flaw (Some e) = named_in number flaw e.asked e.heard

-- the same in the first exchange with such bytes, if there is one. If it is a mute, it is the first whose reply has a
-- flaw
abbrev pub garbled_mention : Start → Option Flaw → List Exchange → Option Sighting → Option Mention
garbled_mention start flaw xs None = None
garbled_mention start flaw xs (Some s) = named_by (number_at start s.at) flaw (slice_get xs s.at)

-- whether a branch of u alone was answered by other bytes than its text
abbrev pub misreads : ℕ → Asked → Heard → Bool
misreads u (Branch lo hi) heard = (lo == u) && (hi == u) && (has_bytes heard && not (is_own u heard))
misreads u _ heard = false

-- the same of an exchange
abbrev pub is_misread : ℕ → Exchange → Bool
is_misread u e = misreads u e.asked e.heard

-- the UID that was misread in an exchange
abbrev pub misread_by : Asked → Heard → Option ℕ
misread_by (Branch lo hi) heard = if misreads lo (Branch lo hi) heard then Some lo else None
misread_by _ heard = None

-- the index of the first such exchange of a run
abbrev pub misread_in : Misreads → ℕ → Option ℕ
misread_in misreads u = get nat_cmp misreads.tree u

-- bytes that nobody was due to send, if they read as a listed UID
abbrev pub signed_in : ℕ → Sign → Option Mention
signed_in number (signs.Listed u) = Some (record { number = number; uid = u; other = u })
signed_in number _ = None

-- the same in an exchange with this number. `us` are the devices that are listed, or come or leave
abbrev pub signed_by : ℕ → List ℕ → Option Exchange → Option Mention
signed_by number us None = None
signed_by number us (Some e) = signed_in number (sign_of us e.asked e.heard)

-- the same in the first exchange with such bytes, if there is one
abbrev pub stray_mention : Start → List ℕ → List Exchange → Option Sighting → Option Mention
stray_mention start us xs None = None
stray_mention start us xs (Some s) = signed_by (number_at start s.at) us (slice_get xs s.at)
