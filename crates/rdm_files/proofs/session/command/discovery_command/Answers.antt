use Rattle.std.proofs.Common.{◌≡◌, true, false, codes, subst, take, arith}
use Rattle.std.proofs.lemmas.List.{take_all}
use Rattle.serde_json.specs.View.{view, items_view}
use Rattle.rdm_files.specs.Commands.{any_item, has_command}
use Rattle.rdm_files.proofs.CommandLemmas.{any_at, any_in, any_next}
use Rattle.rdm_files.proofs.session.command.discovery_command.Goals as goal

pub returns-in-Some-clause-some : goal.returns-in-Some-clause-some
returns-in-Some-clause-some c =
    any_in (codes "clients") has_command (view c.args.file.now) (view c.in_ok-get.field-0.now)
    (items_view c.in_ok-clients.clients.now.items) true c.in_ok-get.ensures c.in_ok-clients.ensures
    (any_at has_command c.in_ok-clients.clients.now.items c.clients.i c.index.result.now (omega arith) c.index.ensures
    c.in-Some.ensures.some)

pub clients-preserved : goal.clients-preserved
clients-preserved c =
    any_next has_command c.in_ok-clients.clients.now.items c.clients.i c.index.result.now (omega arith) c.index.ensures
    c.clients.invariant c.in_default.ensures.none

pub returns-clause-none : goal.returns-clause-none
returns-clause-none c =
    let all : take c.clients.i c.in_ok-clients.clients.now.items
    ≡ c.in_ok-clients.clients.now.items = take_all c.clients.i c.in_ok-clients.clients.now.items (omega arith) in
    any_in (codes "clients") has_command (view c.args.file.now) (view c.in_ok-get.field-0.now)
    (items_view c.in_ok-clients.clients.now.items) false c.in_ok-get.ensures c.in_ok-clients.ensures
    (subst (λ vs. any_item has_command (items_view vs) ≡ false) all c.clients.invariant)
