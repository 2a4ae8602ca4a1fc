use Rattle.std.proofs.Common.{Ok, Result}
use Rattle.rdm_agent.proofs.Common.{◌≡◌, ◌+◌, ◌<◌, ◌≤◌, Bool, true, false, length, refl, sym, ap, ◌∙◌, true≢false}
use Rattle.rdm_agent.proofs.Common.{arith, lt-ltb, cases_Bool, inl, inr, to_phase}
use Rattle.rdm_agent.proofs.Common.{length-map, has, uids_of, with_device, Device, MOST_DEVICES}
use Rattle.rdm_agent.proofs.Common.{AgentState, Phase, to_found, found_uids, state_of, seen_phase}
use Rattle.rdm_agent.specs.Apart.{without}
use Rattle.rdm_agent.proofs.run_state.RunState.find.Goals as goal

of_ok : {E : Type 0} (a b : Bool) → ◌≡◌ {A = Result Bool E} (Ok a) (Ok b) → a ≡ b
of_ok a b same = cc

-- a device that is found, where there is room for it
found_new : (a : AgentState) (d : Device) (phase : Phase) → has (found_uids a) d.uid ≡ false
    → length (found_uids a) < MOST_DEVICES → record {
      budget = a.budget;
      frames = a.frames + 1;
      search = a.search;
      found = with_device d a.found;
      apart = without d.uid a.apart;
      more = a.more;
      phase = phase;
    } ≡ to_found a d phase
found_new a d phase absent room = rw (absent, lt-ltb (length (found_uids a)) MOST_DEVICES room) refl

-- and one that was found before
found_before : (a : AgentState) (d : Device) (phase : Phase) → has (found_uids a) d.uid ≡ true
    → to_phase a phase ≡ to_found a d phase
found_before a d phase here = rw here refl

pub returns-then-is_new-clause-state : goal.returns-then-is_new-clause-state
returns-then-is_new-clause-state c = λ budget frames.
    rw (c.in-Ok.ensures.inserted, c.remove.ensures)
    (found_new (state_of budget frames c.args.onward c.args.self.now) c.args.device
    (seen_phase c.args.onward c.args.self.now) absent room)
  where
    absent : has (uids_of c.args.self.now.found) c.args.device.uid ≡ false
    absent = elim (cases_Bool (has (uids_of c.args.self.now.found) c.args.device.uid)) [
      | inl here ↦ absurd (true≢false (sym c.if-is_new.true ∙ of_ok _ _ (c.in-Ok.ensures.there.1 here)))
      | inr none ↦ none
    ]

    room : length (uids_of c.args.self.now.found) < MOST_DEVICES
    room =
        let long : length (uids_of c.args.self.now.found)
        ≡ length c.args.self.now.found = length-map c.args.self.now.found (λ d. d.uid) in
        let other : length c.args.self.now.found ≡ MOST_DEVICES
        → ⊥ = λ e. true≢false (sym (c.in-Ok.ensures.full.1 (absent, e))) in
        let fits : length c.args.self.now.found ≤ MOST_DEVICES = c.in-Ok.ensures.fits in
        grind arith

pub returns-else-is_new-clause-state : goal.returns-else-is_new-clause-state
returns-else-is_new-clause-state c = λ budget frames.
    rw (c.in-Ok.ensures.unchanged (λ same. true≢false (sym (of_ok _ _ same) ∙ c.if-is_new.false)))
    (found_before (state_of budget frames c.args.onward c.args.self.now) c.args.device
    (seen_phase c.args.onward c.args.self.now) (c.in-Ok.ensures.there.0 (ap Ok c.if-is_new.false)))
