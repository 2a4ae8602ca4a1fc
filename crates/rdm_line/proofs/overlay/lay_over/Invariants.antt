use Rattle.std.proofs.Common.{◌≡◌, ◌≤◌, length, take}
use Rattle.rdm_line.specs.Overlays.{laid_over}
use Rattle.rdm_line.proofs.overlay.lay_over.Given as goal

abbrev pub invariant-bytes : goal.invariant-bytes
invariant-bytes l = record {
  laid : l.all.items ≡ laid_over l.fn.all.items (take l.i l.reply);
  few : length l.all.items ≤ 24;
}
