-- What to do about a run. One line alone says it: that about bytes that no honest line allows, unless an exchange
-- failed; or that about a run without a byte; or else a last line, if there is anything to do.
use Rattle.std.specs.Prelude.{ℕ, Bool, true, false, ◌&&◌, ◌||◌, List, [], ◌++◌, Option, Some, None, codes, is_some}
use Rattle.std.specs.Prelude.{slice_get, if◌then◌else◌, not}
use Rattle.std.specs.List.{find, list_all, position}
use Rattle.rdm_wire.specs.UidText.{uid_text}
use Rattle.rdm_explain.specs.declared.certificate.KnownFinding.{KnownFinding}
use Rattle.rdm_explain.specs.declared.exchange.Exchange.{Exchange}
use Rattle.rdm_explain.specs.declared.rule.Rule.{Rule}
use Rattle.rdm_explain.specs.declared.rule.Rule.TheVariants.{SilentBranches, SilentMutes, GarbledMute}
use Rattle.rdm_explain.specs.declared.rule.DeviceFinding.{DeviceFinding}
use Rattle.rdm_explain.specs.declared.sighting.Sighting.{Sighting}
use Rattle.rdm_findings.specs.declared.explaining.Findings.{Findings}
use Rattle.rdm_findings.specs.declared.form.About.{About}
use Rattle.rdm_findings.specs.declared.form.Form.{Form}
use Rattle.rdm_findings.specs.declared.form.Judgement.TheVariants as judged
use Rattle.rdm_findings.specs.declared.head.RunHead.{RunHead}
use Rattle.rdm_findings.specs.declared.order.Order.{Order}
use Rattle.rdm_findings.specs.declared.order.Order.TheVariants as orders
use Rattle.rdm_findings.specs.declared.stray_bytes.Sign.{Sign}
use Rattle.rdm_findings.specs.declared.stray_bytes.Sign.TheVariants as signs
use Rattle.rdm_findings.specs.DeviceText.{is_noticed}
use Rattle.rdm_findings.specs.Ends.{decides_stray, is_known_complete}
use Rattle.rdm_findings.specs.FindingText.{hears_nothing}
use Rattle.rdm_findings.specs.Forms.{finding}
use Rattle.rdm_findings.specs.HeardUids.{in_uids}
use Rattle.rdm_findings.specs.Passing.{is_passing}
use Rattle.rdm_findings.specs.StrayBytes.{sign_of}
use Rattle.rdm_findings.specs.UnmuteText.{is_answered_unmute}

-- What to do about bytes that nobody was due to send. The flag says that they show that a rule was broken
abbrev pub order_by_sign : Bool → Sign → Order
order_by_sign true (signs.Listed u) = orders.Off u
order_by_sign false (signs.Listed u) = orders.Nothing
order_by_sign decided (signs.Other u) = orders.Name u
order_by_sign true signs.Unread = orders.Look
order_by_sign false signs.Unread = orders.Nothing

-- the same of those of an exchange. `us` are the devices that are listed, or come or leave
abbrev pub order_by_exchange : Bool → List ℕ → Option Exchange → Order
order_by_exchange decided us None = orders.Nothing
order_by_exchange decided us (Some e) = order_by_sign decided (sign_of us e.asked e.heard)

-- the same of the first such exchange, if there is one
abbrev pub stray_order : Bool → List ℕ → List Exchange → Option Sighting → Order
stray_order decided us xs None = orders.Nothing
stray_order decided us xs (Some s) = order_by_exchange decided us (slice_get xs s.at)

-- what to do about a UID that answered alone and then acknowledged no mute, if there is one
abbrev pub off_order : Option ℕ → Order
off_order None = orders.Nothing
off_order (Some u) = orders.Off u

-- What to do about a device that broke a rule. The flags say that it was heard, and that it acknowledged a mute. One
-- that did, and then is silent, may be off
abbrev pub rule_order : (heard acked : Bool) → Rule → ℕ → Order
rule_order heard acked SilentBranches u = orders.Check
rule_order heard acked SilentMutes u = if heard && not acked then orders.Off u else orders.Check
rule_order heard acked GarbledMute u = orders.Off u

-- whether a device broke a rule
abbrev pub has_breach : DeviceFinding → Bool
has_breach f = is_some f.breach

-- what to do about one, if it did
abbrev pub breach_order : Findings → DeviceFinding → Order
breach_order f d = elim d.breach [
  | None ↦ orders.Nothing
  | Some b ↦ rule_order (is_noticed f.heard f.misreads d.uid) (in_uids f.acked d.uid) b.rule d.uid
]

-- what to do about a device, if there is one
abbrev pub device_order : Findings → Option DeviceFinding → Order
device_order f None = orders.Nothing
device_order f (Some d) = breach_order f d

-- the first order, or else the second
abbrev pub or_order : Order → Order → Order
or_order orders.Nothing second = second
or_order (orders.Off u) second = orders.Off u
or_order (orders.Name u) second = orders.Name u
or_order orders.Look second = orders.Look
or_order orders.Check second = orders.Check
or_order orders.Adapter second = orders.Adapter
or_order orders.Noise second = orders.Noise
or_order orders.Again second = orders.Again

-- an order, but none to take a device off the line that comes or leaves
abbrev pub staying_order : Findings → Order → Order
staying_order f (orders.Off u) = if is_passing f u then orders.Look else orders.Off u
staying_order f order = order

-- whether another line has an order in a run without an exchange that failed: that about bytes that no honest line
-- allows, or about a run that found all devices without hearing any
abbrev pub has_order : RunHead → List Exchange → Findings → Bool
has_order head xs f = is_some f.garbled || (decides_stray head f.certificate && list_all hears_nothing xs)

-- whether a part that depends on known UIDs fails
abbrev pub is_irregular : Option KnownFinding → Bool
is_irregular None = false
is_irregular (Some f) = not (is_known_complete f)

-- what to do about a run that found all devices, but isn't regular
abbrev pub again_order : RunHead → Findings → Order
again_order head f =
    if decides_stray head f.certificate && is_irregular f.names then orders.Again else orders.Nothing

-- what to do about an unmute that was answered, or else about such a run
abbrev pub late_order : RunHead → List Exchange → Findings → Order
late_order head xs f = if is_some (position is_answered_unmute xs) then orders.Noise else again_order head f

-- what to do about the first UID that answered alone and then acknowledged no mute, or else about the first listed
-- device that broke a rule
abbrev pub broken_order : Findings → Order
broken_order f =
    or_order (off_order (slice_get f.culprits.items 0)) (device_order f (find has_breach f.devices.items))

-- The same of these, and of bytes that nobody was due to send. The flag says that these show that a rule was broken,
-- and then they come first. Else they may be those of a device that the run hadn't reached
abbrev pub order_with_stray : Bool → Findings → (stray : Order) → Order
order_with_stray decided f stray =
    if decided then or_order stray (broken_order f) else or_order (broken_order f) stray

-- what to do first, if no other line says it
abbrev pub first_order : RunHead → List Exchange → Findings → Order
first_order head xs f =
    or_order (order_with_stray (decides_stray head f.certificate) f
    (staying_order f (stray_order (decides_stray head f.certificate) f.due.items xs f.stray))) (late_order head xs f)

-- what to do about a run without an exchange that failed, if no other line says it
abbrev pub unfailed_order : RunHead → List Exchange → Findings → Order
unfailed_order head xs f = if has_order head xs f then orders.Nothing else first_order head xs f

-- what to do about a run, if no other line says it
abbrev pub order_of : RunHead → List Exchange → Findings → Order
order_of head xs f = if is_some f.certificate.failure then orders.Adapter else unfailed_order head xs f

-- an order in words
abbrev pub order_text : Order → List ℕ
order_text orders.Nothing = []
order_text (orders.Off u) = codes "what to do: take " ++ uid_text u ++ codes " off the line and discover again"
order_text (orders.Name u) = codes "what to do: name " ++ uid_text u ++ codes " by --present, if your rig has it"
order_text orders.Look =
    codes "what to do: look for noise, a device that isn't listed, or one that answers when it should be silent"
order_text orders.Check =
    codes "what to do: check the power, the cable and the UID of each device that didn't answer, and that RDM is on"
order_text orders.Adapter = codes "what to do: check the adapter and the cable"
order_text orders.Noise = codes "what to do: look for noise, or split the line"
order_text orders.Again =
    codes "what to do: discover again; if this comes again, suspect the controller or its log"

-- the UID that it names
abbrev pub order_uid : Order → Option ℕ
order_uid (orders.Off u) = Some u
order_uid (orders.Name u) = Some u
order_uid _ = None

-- what the finding is about
abbrev pub of_order : Order → About
of_order order = record { judgement = judged.Order; uid = order_uid order; exchange = None }

-- the last finding of a run, if there is anything to do that no other line says
abbrev pub order_finding : Form → Order → List ℕ
order_finding form orders.Nothing = []
order_finding form order = finding form (of_order order) (order_text order)
