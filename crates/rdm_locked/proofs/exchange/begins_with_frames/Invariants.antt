use Rattle.std.proofs.Common.{drop, map}
use Rattle.std.specs.Prelude.{◌↔◌}
use Rattle.rdm_log.specs.promises.Headline.{Begins}
use Rattle.rdm_locked.specs.body.Frames.{frames_in}
use Rattle.rdm_locked.proofs.exchange.begins_with_frames.Given as goal

abbrev pub invariant-entries : goal.invariant-entries
invariant-entries l = Begins (map (λ x. x.frame) l.exchanges) (frames_in l.entries)
    ↔ Begins (map (λ x. x.frame) l.left) (frames_in (drop l.entry-index l.entries))
