use Rattle.std.proofs.Common.{◌≡◌, ◌++◌, ◌<◌, length, get_or, sym, arith, decimal}
use Rattle.std.proofs.lemmas.Grind.{get_or_default_zero}
use Rattle.rdm_reports.specs.OpeningText.{element}
use Rattle.rdm_reports.proofs.NumberedLemmas.{numbered_next}
use Rattle.rdm_reports.proofs.opening_text.write_depths.Goals as goal

pub depths-preserved : goal.depths-preserved
depths-preserved c =
    let within : c.depths.index < length c.args.places.now = omega arith in
    let grows : c.write_depth_at.new.text.items ≡ c.depths.text.items
    ++ element decimal c.depths.index (get_or c.args.places.now c.depths.index 0) = c.in_ok-write_depth_at.ensures in
    numbered_next (element decimal) c.args.places.now c.depths.index (get_or c.args.places.now c.depths.index 0)
    c.args.text.now.items c.depths.text.items c.write_depth_at.new.text.items within
    (sym (get_or_default_zero c.args.places.now c.depths.index (get_or c.args.places.now c.depths.index 0) within))
    c.depths.invariant grows
