use Rattle.std.proofs.Common.{◌≡◌, not, ◌==◌, rules, tests, refl}
use Rattle.arrayvec.proofs.ArrayVecLemmas.{filter-from_retain}
use Rattle.rdm_agent.specs.Apart.{without}
use Rattle.rdm_agent.proofs.apart.UidsApart.remove.Goals as goal

pub returns : goal.returns
returns c =
    let left : c.retain.new.self.items ≡ without c.args.uid c.self.inside.uids.items =
    filter-from_retain _ (λ v. not (v == c.args.uid)) _ (λ x b f' y called. search (rules, tests)) _ _
    c.retain.ensures.filtered in rw (← c.self.view_is, left) refl
