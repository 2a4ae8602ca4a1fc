-- Arguments and commands of `clap`, built step by step.
use Rattle.std.proofs.Common.{◌≡◌, false, ap, ap₂, ◌∙◌, List, [], ◌∷◌, ◌++◌, ℕ, suc, ◌+◌, ◌<◌, ◌≤◌, map, take}
use Rattle.std.proofs.Common.{get_or, refl, sym, length, arith}
use Rattle.std.proofs.Math.Seq.{take-suc}
use Rattle.std.proofs.lemmas.List.{map-append, take_all, take_more}
use Rattle.clap.specs.Words.{AddsSubcommand, App, Rule, Text, app_of, with_rule, with_subcommand}
use Rattle.clap.specs.declared.builder.command.Command.{Command}
use Rattle.clap.specs.declared.builder.command.Command.TheViews.{out-Command as fields_of}
use Rattle.rdm_arguments.specs.Arguments.{command_with, rule_for}
use Rattle.rdm_arguments.specs.declared.table.ArgumentRule.{ArgumentRule}
use Rattle.rdm_arguments.specs.declared.table.CommandRule.{CommandRule}

-- a command with these arguments
abbrev pub with_all : Text → List Rule → App
with_all name rules = record { top = command_with name rules; subs = [] }

-- a command with the arguments of these rules
pub record HasAll (c : Command) (name : Text) (rules : List ArgumentRule) : Type 0 where
  pub app : app_of c ≡ with_all name (map (λ (a : ArgumentRule). rule_for a.form a.name.now) rules)
  pub local : (fields_of c).has_globals ≡ false

-- one more of them
pub one_more : (old new : Command) (name : Text) (rules : List ArgumentRule) (i : ℕ) (d : ArgumentRule) (arg : Rule)
    → i < length rules → HasAll old name (take i rules) → app_of new ≡ with_rule (app_of old) arg
    → arg ≡ rule_for (get_or rules i d).form (get_or rules i d).name.now → (fields_of new).has_globals ≡ false
    → HasAll new name (take (i + 1) rules)
one_more old new name rules i d arg lt has made is none = record {
  app = made ∙ ap₂ with_rule has.app is ∙ ap (with_all name) (sym all);
  local = none;
}
  where
    next : i + 1 ≡ suc i
    next = omega arith

    all : map (λ (a : ArgumentRule). rule_for a.form a.name.now) (take (i + 1) rules)
        ≡ map (λ (a : ArgumentRule). rule_for a.form a.name.now) (take i rules)
        ++ rule_for (get_or rules i d).form (get_or rules i d).name.now ∷ []
    all = ap (λ k. map (λ (a : ArgumentRule). rule_for a.form a.name.now) (take k rules)) next
        ∙ ap (map (λ (a : ArgumentRule). rule_for a.form a.name.now)) (take-suc rules i d lt)
        ∙ map-append (λ (a : ArgumentRule). rule_for a.form a.name.now) (take i rules) (get_or rules i d ∷ [])

-- a program with the command of this rule
abbrev pub with_command_of : App → CommandRule → App
with_command_of app rule = with_subcommand app (command_with rule.name.now
    (map (λ (a : ArgumentRule). rule_for a.form a.name.now) rule.arguments.now))

-- a program with the commands of these rules
unfoldable pub with_commands_of : App → List CommandRule → App
with_commands_of app [] = app
with_commands_of app (rule ∷ rules) = with_commands_of (with_command_of app rule) rules

with_last : (app : App) (rules : List CommandRule) (rule : CommandRule)
    → with_commands_of app (rules ++ rule ∷ []) ≡ with_command_of (with_commands_of app rules) rule
unfolding with_commands_of
with_last app [] rule = refl
with_last app (first ∷ rules) rule = with_last (with_command_of app first) rules rule

-- none of them yet
pub no_command : (c : Command) (start : App) → app_of c ≡ start → app_of c ≡ with_commands_of start []
unfolding with_commands_of
no_command c start is = is

-- one more of them
pub one_command_more : (old command new : Command) (start : App) (rules : List CommandRule) (i : ℕ) (d : CommandRule)
    → i < length rules → app_of old ≡ with_commands_of start (take i rules) → AddsSubcommand old command new
    → app_of command ≡ with_all (get_or rules i d).name.now
    (map (λ (a : ArgumentRule). rule_for a.form a.name.now) (get_or rules i d).arguments.now)
    → (fields_of command).has_globals ≡ false → app_of new ≡ with_commands_of start (take (i + 1) rules)
one_command_more old command new start rules i d lt has adds is local =
    adds.shape local ∙ ap₂ with_subcommand has (ap (λ (app : App). app.top) is)
    ∙ sym (ap (with_commands_of start) (take_more rules i d lt) ∙ with_last start (take i rules) (get_or rules i d))

-- all of them
pub all_commands : (app start : App) (rules : List CommandRule) (i : ℕ) → length rules ≤ i
    → app ≡ with_commands_of start (take i rules) → app ≡ with_commands_of start rules
all_commands app start rules i all is = is ∙ ap (with_commands_of start) (take_all i rules all)
