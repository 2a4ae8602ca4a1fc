use Rattle.std.proofs.Common.{◌≡◌, not, rules, tests, refl}
use Rattle.arrayvec.proofs.ArrayVecLemmas.{filter-from_retain}
use Rattle.rdm_log.specs.log.BrokenKeys.{same_key, without}
use Rattle.rdm_log.proofs.broken.BrokenAnswers.strike.Goals as goal

struck : (c : goal.After-retain) → c.retain.new.self.items ≡ without c.args.key.now c.self.inside.keys.items
struck c =
    filter-from_retain _ (λ k. not (same_key c.args.key.now k)) _ (λ x b f' y called. search (rules, tests)) _ _
    c.retain.ensures.filtered

pub returns : goal.returns
returns c = rw (← c.self.view_is, struck c) refl
