-- What stray bytes read as.
use Rattle.std.specs.Prelude.{ℕ, List, if◌then◌else◌}
use Rattle.rdm_wire.specs.Uid.{has, is_broadcast}
use Rattle.rdm_explain.specs.declared.exchange.Asked.{Asked}
use Rattle.rdm_explain.specs.declared.exchange.Asked.TheVariants.{Branch}
use Rattle.rdm_explain.specs.declared.exchange.Heard.{Heard}
use Rattle.rdm_explain.specs.declared.exchange.Heard.TheVariants.{One}
use Rattle.rdm_findings.specs.declared.stray_bytes.Sign.{Sign}
use Rattle.rdm_findings.specs.declared.stray_bytes.Sign.TheVariants as signs

-- the sign of bytes that are the text of this UID. The list has the devices that are listed, or come or leave
abbrev pub sign_of_text : List ℕ → ℕ → Sign
sign_of_text us u =
    if is_broadcast u then signs.Unread else (if has us u then signs.Listed u else signs.Other u)

-- what stray bytes read as after this
abbrev pub sign_of : List ℕ → Asked → Heard → Sign
sign_of us (Branch lo hi) (One u) = sign_of_text us u
sign_of us _ _ = signs.Unread
