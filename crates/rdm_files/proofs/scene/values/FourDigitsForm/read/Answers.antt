use Rattle.std.proofs.Common.{◌∙◌}
use Rattle.serde_json.specs.View.{view}
use Rattle.rdm_files.proofs.FormLemmas.{no_digits}
use Rattle.rdm_files.proofs.scene.values.FourDigitsForm.read.Goals as goal

pub returns-in_default-from_hex : goal.returns-in_default-from_hex
returns-in_default-from_hex c other =
    no_digits (view c.args.value.now) c.in-Some.text.now c.in-Some.ensures
    (λ bytes is. c.in_default-from_hex.not-Ok bytes (c.from_hex.ensures ∙ is))
