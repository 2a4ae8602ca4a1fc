use Rattle.std.proofs.Common.{◌≡◌, ◌∙◌, ◌<◌, ◌++◌, List, ℕ, length, map, subst, sym, ap, arith}
use Rattle.std.specs.Borrow.{Bor}
use Rattle.std.proofs.lemmas.List.{length-map}
use Rattle.clap.specs.Words.{found_of}
use Rattle.rdm_arguments.specs.Arguments.{texts_of}
use Rattle.rdm_arguments.proofs.ReadingLemmas.{some_given, none_given}
use Rattle.rdm_arguments.proofs.reading.repeated.Goals as goal

pub returns-in-None-clause-ok : goal.returns-in-None-clause-ok
returns-in-None-clause-ok c =
    none_given (found_of c.args.given.now) c.args.name.now c.in-None.ensures
    ∙ ap texts_of (sym c.new-values.ensures.items)

pub returns-in-Some-clause-words : goal.returns-in-Some-clause-words
returns-in-Some-clause-words c _ =
    let many = length-map c.in-Some.texts.now (λ (text : Bor (List ℕ)). text.now) in
    subst (λ ts. 1024 < length ts)
    (sym (some_given (found_of c.args.given.now) c.args.name.now (map (λ text. text.now) c.in-Some.texts.now)
    c.in-Some.ensures)) (omega (arith, many, c.if-texts-gt-MOST_DEVICES.true))

pub returns-in-Ok-clause-ok : goal.returns-in-Ok-clause-ok
returns-in-Ok-clause-ok c =
    let items : c.extend_from_slice.new.self.items ≡ c.in-Some.texts.now = c.in-Ok.ensures.items
    ∙ ap (λ front. front ++ c.in-Some.texts.now) c.new-values.ensures.items in
    some_given (found_of c.args.given.now) c.args.name.now (map (λ text. text.now) c.in-Some.texts.now)
    c.in-Some.ensures ∙ ap texts_of (sym items)
