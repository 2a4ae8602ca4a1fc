-- What is said of one word, among others.
use Rattle.std.proofs.Common.{◌≡◌, List, [], ◌∷◌, subst, sym, arith}
use Rattle.std.specs.Prelude.{Contains}
use Rattle.std.specs.Borrow.{Bor}
use Rattle.clap.specs.Words.{Text}
use Rattle.rdm_arguments.specs.Complaints.{IsNoCommand, IsTrueAfter, IsTrueOf, IsTrueOfCommand}
use Rattle.rdm_arguments.specs.declared.complaint.Complaint.{Complaint}
use Rattle.rdm_arguments.specs.declared.complaint.Complaint.TheVariants.{Help, Version, NoCommand, UnknownCommand}
use Rattle.rdm_arguments.specs.declared.complaint.Complaint.TheVariants.{UnknownOption, Repeated, HasValue, UnknownPort}
use Rattle.rdm_arguments.specs.declared.complaint.Complaint.TheVariants.{NoArgument, Unexpected, NoText, Misfit}
use Rattle.rdm_arguments.specs.declared.complaint.Complaint.TheVariants.{NoValue, NoOption, NeedsLine, TooOften}
use Rattle.rdm_arguments.specs.declared.complaint.Complaint.TheVariants.{UnknownBudget}

-- a list of one word has no other
only : (word other : Bor Text) → Contains (word ∷ []) other → word ≡ other
only word other (k, below, is) = let first : k ≡ 0 = omega arith in rw first at is

pub among : (name : Text) (word : Bor Text) (words : List (Bor Text)) (complaint : Complaint) → Contains words word
    → IsTrueAfter name (word ∷ []) complaint → IsTrueAfter name words complaint
among name word words (UnknownOption command option) has true_after
    = (true_after.0, rw (only word option true_after.1) at has, true_after.2)
among name word words (Repeated option) has true_after = tt
among name word words (HasValue option) has true_after = tt
among name word words (UnknownPort port) has true_after = true_after
among name word words (NoArgument command argument) has true_after = true_after
among name word words (Unexpected other) has true_after = rw (only word other true_after) at has
among name word words Misfit has true_after = tt
among name word words Help has true_after = true_after
among name word words Version has true_after = true_after
among name word words NoCommand has true_after = true_after
among name word words (UnknownCommand other) has true_after = true_after
among name word words NoText has true_after = true_after
among name word words (NoValue option) has true_after = tt
among name word words (NoOption command option) has true_after = true_after
among name word words (NeedsLine option) has true_after = tt
among name word words (TooOften option) has true_after = tt
among name word words (UnknownBudget text) has true_after = true_after

-- what is true of the arguments after a command's name is true of all of them
pub true_of : (words : List (Bor Text)) (name : Bor Text) (rest : List (Bor Text)) (complaint : Complaint)
    → words ≡ name ∷ rest → ¬ IsNoCommand name.now → IsTrueAfter name.now rest complaint → IsTrueOf words complaint
true_of words name rest Help is known true_after = absurd true_after
true_of words name rest Version is known true_after = absurd true_after
true_of words name rest NoCommand is known true_after = absurd true_after
true_of words name rest (UnknownCommand other) is known true_after = absurd true_after
true_of words name rest complaint is known true_after =
    subst (λ ws. IsTrueOfCommand ws complaint) (sym is) (known, true_after)
