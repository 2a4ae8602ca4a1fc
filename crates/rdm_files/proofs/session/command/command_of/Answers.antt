use Rattle.std.proofs.Common.{◌≡◌, true, false, codes, subst, take, arith, rules}
use Rattle.std.proofs.lemmas.List.{take_all}
use Rattle.serde_json.specs.View.{view, items_view}
use Rattle.rdm_files.specs.Commands.{any_item, is_command}
use Rattle.rdm_files.proofs.CommandLemmas.{any_at, any_in, any_next}
use Rattle.rdm_files.proofs.session.command.command_of.Goals as goal

pub returns-then-is_some-clause-some : goal.returns-then-is_some-clause-some
returns-then-is_some-clause-some c =
    let here : is_command (view c.index.result.now) ≡ true = search rules in
    any_in (codes "calls") is_command (view c.args.client.now) (view c.in_ok-get.field-0.now)
    (items_view c.in_ok-calls.calls.now.items) true c.in_ok-get.ensures c.in_ok-calls.ensures
    (any_at is_command c.in_ok-calls.calls.now.items c.calls.i c.index.result.now (omega arith) c.index.ensures here)

pub calls-preserved : goal.calls-preserved
calls-preserved c =
    let here : is_command (view c.index.result.now) ≡ false = search rules in
    any_next is_command c.in_ok-calls.calls.now.items c.calls.i c.index.result.now (omega arith) c.index.ensures
    c.calls.invariant here

pub returns-clause-none : goal.returns-clause-none
returns-clause-none c =
    let all : take c.calls.i c.in_ok-calls.calls.now.items
    ≡ c.in_ok-calls.calls.now.items = take_all c.calls.i c.in_ok-calls.calls.now.items (omega arith) in
    any_in (codes "calls") is_command (view c.args.client.now) (view c.in_ok-get.field-0.now)
    (items_view c.in_ok-calls.calls.now.items) false c.in_ok-get.ensures c.in_ok-calls.ensures
    (subst (λ vs. any_item is_command (items_view vs) ≡ false) all c.calls.invariant)
