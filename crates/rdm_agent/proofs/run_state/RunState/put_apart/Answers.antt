use Rattle.rdm_agent.proofs.Common.{◌≡◌, ℕ, false, refl, sym, ◌∙◌, rules, is_broadcast, Sweep, AgentState, state_of}
use Rattle.rdm_agent.specs.Machine.{put_apart, put_aside}
use Rattle.rdm_agent.specs.Apart.{has_room}
use Rattle.rdm_agent.proofs.Moved.{moved-same}
use Rattle.rdm_agent.proofs.run_state.RunState.put_apart.Goals as goal

aside : (a : AgentState) (sweep : Sweep) (u : ℕ) → is_broadcast u ≡ false → has_room a.apart ≡ false
    → put_aside a sweep u ≡ put_apart a sweep u
aside a sweep u device full = rw (device, full) refl

pub returns-then-not-has_room : goal.returns-then-not-has_room
returns-then-not-has_room c =
    let device : is_broadcast c.args.sweep.question.range.hi ≡ false = search rules in
    let full : has_room c.args.self.now.apart ≡ false = sym c.has_room.ensures ∙ c.if-not-has_room.true in
    moved-same _ (λ a. put_apart a c.args.sweep c.args.sweep.question.range.hi) _ _ _ c.put_aside.ensures
    (λ budget frames phase. aside (state_of budget frames phase c.args.self.now) c.args.sweep
    c.args.sweep.question.range.hi device full)
