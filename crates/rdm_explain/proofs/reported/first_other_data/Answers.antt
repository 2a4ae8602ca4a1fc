use Rattle.std.proofs.Common.{◌≡◌, ◌∙◌, ◌<◌, sym, subst, true≢false, length, get_or}
use Rattle.rdm_explain.specs.Exchanges.{seen_all}
use Rattle.rdm_explain.specs.Certificates.{IsAsFirstAcked}
use Rattle.rdm_explain.proofs.ElementLemmas.{first_of, all_more, has_uid_at}
use Rattle.rdm_explain.proofs.reported.first_other_data.Goals as goal

pub returns-then-not-is_among : goal.returns-then-not-is_among
returns-then-not-is_among c =
    let d = c.device-item.result in
    let i = c.loop-device.device-index in
    let same = c.as_slice-device-items.ensures.value in
    let within : i < length c.args.set.now = subst (λ l. i < length l) same c.loop-device-test.true in
    let read : d ≡ get_or c.args.set.now i d = subst (λ l. d ≡ get_or l i d) same c.device-item.is in
    first_of (IsAsFirstAcked (seen_all c.args.exchanges.now)) c.args.set.now i d within read c.loop-device.invariant
    (λ first. true≢false (sym (c.is_among.ensures.1
    (c.in_ok-first.ensures d.uid (has_uid_at c.args.set.now i d within read) ∙ first)) ∙ c.if-not-is_among.true))

pub loop-device-preserved : goal.loop-device-preserved
loop-device-preserved c =
    let d = c.device-item.result in
    let i = c.loop-device.device-index in
    let same = c.as_slice-device-items.ensures.value in
    let within : i < length c.args.set.now = subst (λ l. i < length l) same c.loop-device-test.true in
    let read : d ≡ get_or c.args.set.now i d = subst (λ l. d ≡ get_or l i d) same c.device-item.is in
    all_more (IsAsFirstAcked (seen_all c.args.exchanges.now)) c.args.set.now i d within read c.loop-device.invariant
    (sym (c.in_ok-first.ensures d.uid (has_uid_at c.args.set.now i d within read))
    ∙ c.is_among.ensures.0 c.if-not-is_among.false)
