use Rattle.std.proofs.Common.{◌<◌, ℕ, List, length, sym, subst, arith}
use Rattle.rdm_line.specs.Sim.{answering}
use Rattle.rdm_line.proofs.AnsweringLemmas.{replies_some}
use Rattle.rdm_line.proofs.sim.SimLine.branch.Goals as goal

pub collide-requires : goal.collide-requires
collide-requires c = subst (λ (l : List ℕ). 0 < length l) (sym c.replies-count.ensures.replies)
    (replies_some (answering c.args.exchange c.args.self.now c.args.range)
    (omega (arith, c.replies-count.ensures.count)))
