use Rattle.rdm_agent.proofs.Common.{◌≡◌, ℕ, true, refl, ◌==◌, eq-eqb, bads_aside, Sweep, AgentState, state_of}
use Rattle.rdm_agent.specs.declared.belief.Part.{Part}
use Rattle.rdm_agent.specs.declared.belief.Part.TheVariants as parts
use Rattle.rdm_agent.specs.Machine.{put_apart, asks_on}
use Rattle.rdm_agent.proofs.Moved.{moved-same}
use Rattle.rdm_agent.proofs.run_state.RunState.asks_on.Goals as goal

-- the fourth bad answer of a UID that wasn't set apart before
fourth : (part : Part) (a : AgentState) (sweep : Sweep) (bads : ℕ) → (part ≡ parts.Apart → ⊥)
    → (bads == bads_aside) ≡ true → put_apart a sweep sweep.question.range.hi ≡ asks_on part a sweep bads
fourth parts.Apart a sweep bads other four = absurd (other refl)
fourth parts.Fresh a sweep bads other four = rw four refl
fourth parts.Lower a sweep bads other four = rw four refl
fourth parts.Rest a sweep bads other four = rw four refl
fourth parts.All a sweep bads other four = rw four refl
fourth parts.Whole a sweep bads other four = rw four refl
fourth parts.End a sweep bads other four = rw four refl
fourth parts.Spelt a sweep bads other four = rw four refl

pub returns-in_default : goal.returns-in_default
returns-in_default c =
    moved-same _ (λ a. asks_on c.args.sweep.question.part a c.args.sweep c.args.bads) _ _ _ c.put_apart.ensures
    (λ budget frames phase. fourth c.args.sweep.question.part (state_of budget frames phase c.args.self.now)
    c.args.sweep c.args.bads c.in_default.not-Apart (eq-eqb c.args.bads bads_aside c.if-bads-eq-BADS_ASIDE.true))
