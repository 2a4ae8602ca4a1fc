-- What `clap` found for an option that may be given several times.
use Rattle.std.proofs.Common.{◌≡◌, List, [], Some, None, sym, ap, ◌∙◌}
use Rattle.std.specs.Prelude.{option_map, unwrap_or}
use Rattle.clap.specs.Matches.{matched_of, raw_values}
use Rattle.clap.specs.Walk.{Text, rows_of}
use Rattle.clap.specs.declared.parser.matches.Found.{Found}
use Rattle.clap.proofs.WalkLemmas.{raw_values-rows}
use Rattle.rdm_arguments.specs.Arguments.{texts_given}

pub some_given : (f : Found) (id : Text) (texts : List Text) → Some texts ≡ option_map raw_values (matched_of f id)
    → texts_given id (rows_of f) ≡ texts
some_given f id texts is = ap (λ o. unwrap_or o []) (sym (is ∙ raw_values-rows f id))

pub none_given : (f : Found) (id : Text) → None ≡ option_map raw_values (matched_of f id)
    → texts_given id (rows_of f) ≡ []
none_given f id is = ap (λ o. unwrap_or o []) (sym (is ∙ raw_values-rows f id))
