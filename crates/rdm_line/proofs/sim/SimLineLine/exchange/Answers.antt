use Rattle.std.proofs.Common.{◌≡◌, ◌+◌, true, false, refl, sym, ap, ◌∙◌, subst, rules}
use Rattle.hex.specs.Hex.{IsBytes}
use Rattle.rdm_wire.specs.Commands.{command_read}
use Rattle.rdm_join.specs.declared.event.LineEvent.TheVariants.{Reply, Failed}
use Rattle.rdm_line.specs.Sim.{SimState, SimStep, Acts, counted, is_among, next_exchange}
use Rattle.rdm_line.specs.contracts.sim.SimLine.{the_view}
use Rattle.rdm_line.proofs.SoundLemmas.{sound-counted}
use Rattle.rdm_line.proofs.StepLemmas.{step_fails, step_acts, keeps_numbers, heard_lost, heard_whole, among_counts}
use Rattle.rdm_line.proofs.sim.SimLineLine.exchange.Goals as goal

pub returns-then-is_among-clause-step : goal.returns-then-is_among-clause-step
returns-then-is_among-clause-step c =
    let fails : is_among c.self.inside.exchanges c.self.inside.fails.items
    ≡ true = ap (is_among c.self.inside.exchanges) (sym c.deref.ensures.value) ∙ sym c.is_among.ensures
    ∙ c.if-is_among.true in
    subst (λ (s : SimState). SimStep s (c.args.frame.now, Failed) (record (the_view c.self.inside) {
      exchanges = c.self.inside.exchanges + 1;
      failures = c.self.inside.failures + 1;
    })) c.self.view_is
    (step_fails (the_view c.self.inside) (c.args.frame.now, Failed)
    (record (the_view c.self.inside) {
      exchanges = c.self.inside.exchanges + 1;
      failures = c.self.inside.failures + 1;
    }) c.self.invariant fails (record {
      failed = refl;
      only = ap (λ n. record (the_view c.self.inside) { exchanges = n; failures = c.self.inside.failures + 1 })
          (sym (among_counts c.self.inside.exchanges c.self.inside.fails.items fails));
    }))

pub invariant_of-self-2 : goal.invariant_of-self-2
invariant_of-self-2 c = sound-counted _ _ _ _ _ _ _ c.self.invariant (search rules)

pub returns-then-is_lost-clause-step : goal.returns-then-is_lost-clause-step
returns-then-is_lost-clause-step c =
    let stays : is_among c.self.inside.exchanges c.self.inside.fails.items
    ≡ false = ap (is_among c.self.inside.exchanges) (sym c.deref.ensures.value) ∙ sym c.is_among.ensures
    ∙ c.if-is_among.false in
    let next : c.saturating_add-self-inside.result ≡ next_exchange c.self.inside.exchanges = search rules in
    let lost : is_among c.self.inside.exchanges c.self.inside.losses.items ≡ true =
    ap (is_among c.self.inside.exchanges) (sym c.deref-2.ensures.value) ∙ sym c.is_among-is_lost.ensures
    ∙ c.if-is_lost.true in
    subst (λ (s : SimState). SimStep s (c.args.frame.now, Reply c.new.result) c.act-reply.new.self) c.self.view_is
    (step_acts (the_view c.self.inside) (c.args.frame.now, Reply c.new.result) c.act-reply.new.self c.self.invariant
    stays (record {
      frame = subst IsBytes c.deref-3.ensures.0 c.act-reply.ensures.frame;
      reply = c.act-reply.result.items;
      acts = subst
          (λ b. Acts c.self.inside.exchanges (counted (the_view c.self.inside)) (command_read b)
          c.act-reply.result.items c.act-reply.new.self) c.deref-3.ensures.0
          (subst (λ n. Acts c.self.inside.exchanges (record (the_view c.self.inside) { exchanges = n })
          (command_read c.deref-3.result.now) c.act-reply.result.items c.act-reply.new.self) next
          c.act-reply.ensures.acts);
      heard = heard_lost _ c.act-reply.result.items c.new.result lost c.new.ensures;
    }))

pub returns-then-is_lost-clause-failures : goal.returns-then-is_lost-clause-failures
returns-then-is_lost-clause-failures c =
    (keeps_numbers c.self.inside.exchanges (record (the_view c.self.inside)
    { exchanges = c.saturating_add-self-inside.result }) c.act-reply.new.self (command_read c.deref-3.result.now)
    c.act-reply.result.items c.act-reply.ensures.acts).failures
    ∙ ap (λ (s : SimState). s.failures) c.self.view_is

pub returns-else-is_lost-clause-step : goal.returns-else-is_lost-clause-step
returns-else-is_lost-clause-step c =
    let stays : is_among c.self.inside.exchanges c.self.inside.fails.items
    ≡ false = ap (is_among c.self.inside.exchanges) (sym c.deref.ensures.value) ∙ sym c.is_among.ensures
    ∙ c.if-is_among.false in
    let next : c.saturating_add-self-inside.result ≡ next_exchange c.self.inside.exchanges = search rules in
    let kept : is_among c.self.inside.exchanges c.self.inside.losses.items ≡ false =
    ap (is_among c.self.inside.exchanges) (sym c.deref-2.ensures.value) ∙ sym c.is_among-is_lost.ensures
    ∙ c.if-is_lost.false in
    subst (λ (s : SimState). SimStep s (c.args.frame.now, Reply c.act-reply.result) c.act-reply.new.self) c.self.view_is
    (step_acts (the_view c.self.inside) (c.args.frame.now, Reply c.act-reply.result) c.act-reply.new.self
    c.self.invariant stays (record {
      frame = subst IsBytes c.deref-3.ensures.0 c.act-reply.ensures.frame;
      reply = c.act-reply.result.items;
      acts = subst
          (λ b. Acts c.self.inside.exchanges (counted (the_view c.self.inside)) (command_read b)
          c.act-reply.result.items c.act-reply.new.self) c.deref-3.ensures.0
          (subst (λ n. Acts c.self.inside.exchanges (record (the_view c.self.inside) { exchanges = n })
          (command_read c.deref-3.result.now) c.act-reply.result.items c.act-reply.new.self) next
          c.act-reply.ensures.acts);
      heard = heard_whole _ c.act-reply.result kept;
    }))

pub returns-else-is_lost-clause-failures : goal.returns-else-is_lost-clause-failures
returns-else-is_lost-clause-failures c =
    (keeps_numbers c.self.inside.exchanges (record (the_view c.self.inside)
    { exchanges = c.saturating_add-self-inside.result }) c.act-reply.new.self (command_read c.deref-3.result.now)
    c.act-reply.result.items c.act-reply.ensures.acts).failures
    ∙ ap (λ (s : SimState). s.failures) c.self.view_is
