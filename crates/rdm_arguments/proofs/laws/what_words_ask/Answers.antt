use Rattle.rdm_arguments.proofs.ArgumentLemmas.{asks_decode, asks_encode, asks_explain, asks_after_hyphens}
use Rattle.rdm_arguments.proofs.ArgumentLemmas.{nothing_asked, no_argument, help_refused, help_of_command_refused}
use Rattle.rdm_arguments.proofs.laws.what_words_ask.Goals as goal

pub returns : goal.returns
returns c = record {
  decode = asks_decode;
  encode = asks_encode;
  explain = asks_explain;
  any_word = asks_after_hyphens;
  no_words = nothing_asked;
  no_argument = no_argument;
  help = help_refused;
  help_of_command = help_of_command_refused;
}
