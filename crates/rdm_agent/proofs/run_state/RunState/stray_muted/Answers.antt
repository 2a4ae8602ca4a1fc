use Rattle.rdm_agent.proofs.Common.{◌≡◌, ◌+◌, length, refl, ap, ◌∙◌, Device, Phase, AgentState, to_found, counted}
use Rattle.rdm_agent.proofs.Common.{sweep_on, stray_found, device_from, state_of, seen_phase, rules}
use Rattle.rdm_agent.specs.Machine.{sweep_limit}
use Rattle.rdm_agent.proofs.run_state.RunState.stray_muted.Goals as goal

pub returns-in-Some-clause-goes_on : goal.returns-in-Some-clause-goes_on
returns-in-Some-clause-goes_on c = record {
  state = λ budget frames.
      let a : AgentState = state_of budget frames c.sweep_on-onward.result c.args.self.now in
      rw c.in-Some.is
      (c.find.ensures.state budget frames
      ∙ ap (λ (d : Device). to_found a d (seen_phase c.sweep_on-onward.result c.args.self.now)) c.device_from.ensures
      ∙ ap (λ (p : Phase). to_found a (device_from c.args.uid c.in-Some.ack) p) onward);
  consistent = search rules;
}
  where
    onward : seen_phase c.sweep_on-onward.result c.args.self.now
        ≡ sweep_on (counted c.args.sweep) 0 0
        (sweep_limit (length c.args.self.now.found + 1) (length c.args.self.now.apart))
        (stray_found c.args.sweep.belief)
    onward = rw (
      c.requires.1,
      c.sweep_on-onward.ensures.phase c.args.self.now.known,
      c.stray_found-belief.ensures.value,
      c.counted-counted.ensures,
      c.sweep_limit-limit.ensures.value,
      c.len-in-Some.ensures.value,
      c.len.ensures.value,
    ) refl
