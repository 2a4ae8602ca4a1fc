use Rattle.std.proofs.Common.{List, sym, ap, ◌∙◌, rules}
use Rattle.rdm_line.specs.Sim.{SimState, later_collisions}
use Rattle.rdm_line.specs.contracts.sim.SimLine.{the_view}
use Rattle.rdm_line.specs.declared.collision.Collision.{Collision}
use Rattle.rdm_line.proofs.CollisionLemmas.{later-next, later-last}
use Rattle.rdm_line.proofs.sim.SimLine.collide.Goals as goal

with_collisions : SimState → List Collision → SimState
with_collisions s cs = record s { collisions = cs }

pub returns-then-self-saturating_sub-clause-next : goal.returns-then-self-saturating_sub-clause-next
unfolding with_collisions
returns-then-self-saturating_sub-clause-next c =
    ap (with_collisions (the_view c.self.inside))
    (later-next c.self.inside.scene.collisions.items c.self.inside.collision (search rules))
    ∙ ap (λ s. with_collisions s (later_collisions s.collisions)) c.self.view_is

pub returns-else-self-saturating_sub-clause-next : goal.returns-else-self-saturating_sub-clause-next
unfolding with_collisions
returns-else-self-saturating_sub-clause-next c =
    sym c.self.view_is
    ∙ ap (with_collisions (the_view c.self.inside))
    (later-last c.self.inside.scene.collisions.items c.self.inside.collision (search rules))
    ∙ ap (λ s. with_collisions s (later_collisions s.collisions)) c.self.view_is
