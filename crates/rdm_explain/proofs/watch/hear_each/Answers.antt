use Rattle.std.proofs.Common.{◌≡◌, ℕ, ◌<◌, ◌∙◌, ◌++◌, List, arith, ap, length, get_or, take, drop, map, slice_set}
use Rattle.rdm_explain.specs.Exchanges.{seen_of}
use Rattle.rdm_explain.specs.declared.watch.Watch.{Watch}
use Rattle.rdm_explain.specs.body.Watching.{heard_by}
use Rattle.rdm_explain.proofs.WatchLemmas.{next_unheard, one_more_heard}
use Rattle.rdm_explain.proofs.watch.hear_each.Goals as goal

pub watches-preserved : goal.watches-preserved
watches-preserved c =
    let f : Watch → Watch = heard_by c.args.at (seen_of c.args.exchange.now) in
    let old : List Watch = c.args.watches.now.items in
    let i : ℕ = c.watches.index in
    let within : i < length old = omega (arith, c.watches-test.true, c.len-index-end.ensures) in
    let x : Watch = c.index_mut.result.now in
    let is : x ≡ get_or old i x =
    c.index_mut.ensures.value ∙ ap (λ l. get_or l i x) c.watches.invariant ∙ next_unheard f old i x within in
    ap (λ l. slice_set l i c.hear.new.self) c.watches.invariant
    ∙ ap (λ v. slice_set (map f (take i old) ++ drop i old) i v) (c.hear.ensures ∙ ap f is)
    ∙ one_more_heard f old i x within
